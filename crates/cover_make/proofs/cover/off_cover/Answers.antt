use Rattle.std.proofs.Common.{◌≡◌, ◌≤◌, length}
use Rattle.std.specs.Prelude.{All}
use Rattle.std.proofs.lemmas.Result.{IfOk-weaker}
use Rattle.cube_core.specs.Cube.{IsInside, Meet}
use Rattle.cover_make.specs.Cubes.{AreProducts, Covers, uncovered_by}
use Rattle.cover_make.specs.Cover.{off_cover_of, IsPrime, IsIrredundant}
use Rattle.cover_make.proofs.CoverLaws.{off_cover_of-inside, off_cover_of-covers, off_cover_of-prime, off_cover_of-irredundant, off_cover_of-apart, off_cover_of-AreProducts, length-off_cover_of}
use Rattle.cover_make.proofs.cover.off_cover.Goals as goal

pub returns-clause-inside : goal.returns-clause-inside
returns-clause-inside c =
    IfOk-weaker c.make_off.result (λ list. list ≡ record { inputs = c.args.cover.now.inputs; cubes = off_cover_of c.args.cover.now })
    (λ list. All (λ d. IsInside c.args.cover.now.inputs d (uncovered_by c.args.cover.now)) list.cubes)
    (λ list e. rw e (off_cover_of-inside c.args.cover.now c.make_off.ensures.kept)) c.make_off.ensures.list

pub returns-clause-covers : goal.returns-clause-covers
returns-clause-covers c =
    IfOk-weaker c.make_off.result (λ list. list ≡ record { inputs = c.args.cover.now.inputs; cubes = off_cover_of c.args.cover.now })
    (λ list. Covers list.cubes (uncovered_by c.args.cover.now))
    (λ list e. rw e (off_cover_of-covers c.args.cover.now)) c.make_off.ensures.list

pub returns-clause-prime : goal.returns-clause-prime
returns-clause-prime c =
    IfOk-weaker c.make_off.result (λ list. list ≡ record { inputs = c.args.cover.now.inputs; cubes = off_cover_of c.args.cover.now })
    (λ list. All (IsPrime c.args.cover.now.inputs (uncovered_by c.args.cover.now)) list.cubes)
    (λ list e. rw e (off_cover_of-prime c.args.cover.now)) c.make_off.ensures.list

pub returns-clause-irredundant : goal.returns-clause-irredundant
returns-clause-irredundant c =
    IfOk-weaker c.make_off.result (λ list. list ≡ record { inputs = c.args.cover.now.inputs; cubes = off_cover_of c.args.cover.now })
    (λ list. IsIrredundant list.cubes (uncovered_by c.args.cover.now))
    (λ list e. rw e (off_cover_of-irredundant c.args.cover.now)) c.make_off.ensures.list

pub returns-clause-apart : goal.returns-clause-apart
returns-clause-apart c =
    IfOk-weaker c.make_off.result (λ list. list ≡ record { inputs = c.args.cover.now.inputs; cubes = off_cover_of c.args.cover.now })
    (λ list. All (λ d. All (λ e. Meet e d → ⊥) c.args.cover.now.cubes) list.cubes)
    (λ list e. rw e (off_cover_of-apart c.args.cover.now c.make_off.ensures.kept)) c.make_off.ensures.list

pub returns-clause-products : goal.returns-clause-products
returns-clause-products c =
    IfOk-weaker c.make_off.result (λ list. list ≡ record { inputs = c.args.cover.now.inputs; cubes = off_cover_of c.args.cover.now }) AreProducts
    (λ list e. rw e (off_cover_of-AreProducts c.args.cover.now c.make_off.ensures.kept)) c.make_off.ensures.list

pub returns-clause-few : goal.returns-clause-few
returns-clause-few c =
    IfOk-weaker c.make_off.result (λ list. list ≡ record { inputs = c.args.cover.now.inputs; cubes = off_cover_of c.args.cover.now })
    (λ list. length list.cubes ≤ 1024)
    (λ list e. rw e (length-off_cover_of c.args.cover.now c.make_off.ensures.kept)) c.make_off.ensures.list
