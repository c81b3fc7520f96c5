use Rattle.std.proofs.Common.{◌≡◌, ◌≤◌, ◌^◌, length}
use Rattle.std.specs.Prelude.{All}
use Rattle.std.proofs.lemmas.Result.{IfOk-weaker}
use Rattle.cube_core.specs.Cube.{IsInside}
use Rattle.cube_core.specs.Members.{AllBelow}
use Rattle.cover_make.specs.Cubes.{AreProducts, Covers}
use Rattle.cover_make.specs.Cover.{cover_of, IsPrime, IsIrredundant}
use Rattle.cover_make.proofs.CoverLaws.{cover_of-inside, cover_of-covers, cover_of-prime, cover_of-irredundant, cover_of-AreProducts, length-cover_of}
use Rattle.cover_make.proofs.cover.cover.Goals as goal

pub returns-clause-inside : goal.returns-clause-inside
returns-clause-inside c =
    IfOk-weaker c.make.result (λ list. list ≡ record { inputs = c.args.inputs; cubes = cover_of c.args.inputs c.args.need.now c.args.room.now })
    (λ list. All (λ d. IsInside c.args.inputs d c.args.room.now) list.cubes)
    (λ list e. rw e (cover_of-inside c.args.inputs c.args.need.now c.args.room.now c.requires.few c.requires.within)) c.make.ensures

pub returns-clause-covers : goal.returns-clause-covers
returns-clause-covers c =
    let below : AllBelow (2 ^ c.args.inputs) c.args.need.now = λ x one. c.requires.below x (c.requires.within x one) in
    IfOk-weaker c.make.result (λ list. list ≡ record { inputs = c.args.inputs; cubes = cover_of c.args.inputs c.args.need.now c.args.room.now })
    (λ list. Covers list.cubes c.args.need.now)
    (λ list e. rw e (cover_of-covers c.args.inputs c.args.need.now c.args.room.now below)) c.make.ensures

pub returns-clause-prime : goal.returns-clause-prime
returns-clause-prime c =
    IfOk-weaker c.make.result (λ list. list ≡ record { inputs = c.args.inputs; cubes = cover_of c.args.inputs c.args.need.now c.args.room.now })
    (λ list. All (IsPrime c.args.inputs c.args.room.now) list.cubes)
    (λ list e. rw e (cover_of-prime c.args.inputs c.args.need.now c.args.room.now)) c.make.ensures

pub returns-clause-irredundant : goal.returns-clause-irredundant
returns-clause-irredundant c =
    let below : AllBelow (2 ^ c.args.inputs) c.args.need.now = λ x one. c.requires.below x (c.requires.within x one) in
    IfOk-weaker c.make.result (λ list. list ≡ record { inputs = c.args.inputs; cubes = cover_of c.args.inputs c.args.need.now c.args.room.now })
    (λ list. IsIrredundant list.cubes c.args.need.now)
    (λ list e. rw e (cover_of-irredundant c.args.inputs c.args.need.now c.args.room.now below)) c.make.ensures

pub returns-clause-products : goal.returns-clause-products
returns-clause-products c =
    IfOk-weaker c.make.result (λ list. list ≡ record { inputs = c.args.inputs; cubes = cover_of c.args.inputs c.args.need.now c.args.room.now }) AreProducts
    (λ list e. rw e (cover_of-AreProducts c.args.inputs c.args.need.now c.args.room.now c.requires.some c.requires.few)) c.make.ensures

pub returns-clause-few : goal.returns-clause-few
returns-clause-few c =
    IfOk-weaker c.make.result (λ list. list ≡ record { inputs = c.args.inputs; cubes = cover_of c.args.inputs c.args.need.now c.args.room.now })
    (λ list. length list.cubes ≤ 1024)
    (λ list e. rw e (length-cover_of c.args.inputs c.args.need.now c.args.room.now c.requires.few)) c.make.ensures
