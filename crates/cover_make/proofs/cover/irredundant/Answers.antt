use Rattle.std.proofs.Common.{◌≡◌, ◌<◌, ◌++◌, [], ◌∷◌, length, arith, ap, ◌∙◌, sym}
use Rattle.std.specs.Option.{option_to_list}
use Rattle.std.proofs.lemmas.Bool.{true≢false}
use Rattle.cover_make.proofs.TailsLaws.{IsKeptBelow-none, IsKeptBelow-dropped, IsKeptBelow-held, IsKeptBelow-all, some-tails}
use Rattle.cover_make.proofs.cover.irredundant.Goals as goal
use Rattle.cover_make.proofs.cover.irredundant.Goals.{then-not-is_within+in_ok-push, else-not-is_within}

pub unwrap-later-requires : goal.unwrap-later-requires
unwrap-later-requires c =
    let some : 0 < length c.loop-cube.tails.items = some-tails c.args.inputs c.args.cubes.now c.loop-cube.cube-index c.cube-item.result _ c.loop-cube-test.true c.cube-item.is c.loop-cube.invariant.tails_are in
    c.pop.ensures.variant.1 (omega (arith, some, c.loop-cube.tails.ok.0))

pub loop-cube-init : goal.loop-cube-init
loop-cube-init c = rw c.new-kept.ensures.items (IsKeptBelow-none c.args.inputs c.args.need.now c.args.cubes.now _ _ c.empty-before.ensures c.requires.tails)

pub loop-cube-preserved : goal.loop-cube-preserved
loop-cube-preserved c =
    let popping : c.loop-cube.tails.items ≡ c.pop.new.self.items ++ c.unwrap-later.result ∷ [] = c.pop.ensures.items ∙ ap (λ r. c.pop.new.self.items ++ option_to_list r) c.unwrap-later.ensures in
    elim c.if-not-is_within.branch [
      | then-not-is_within+in_ok-push w ↦
          rw (w.kept-is, w.in_ok-push.ensures.items, w.before-is)
          (IsKeptBelow-held c.args.inputs c.args.need.now c.args.cubes.now c.loop-cube.kept.items _ _ _ _ _ _ c.loop-cube.cube-index c.cube-item.result c.loop-cube.invariant c.loop-cube-test.true c.cube-item.is popping c.or.ensures
          (λ all. true≢false (sym (c.is_within.ensures.1 all) ∙ w.if-not-is_within.true)) w.add_cube.ensures)
      | else-not-is_within w ↦
          rw (w.kept-is, w.before-is)
          (IsKeptBelow-dropped c.args.inputs c.args.need.now c.args.cubes.now c.loop-cube.kept.items _ _ _ _ _ c.loop-cube.cube-index c.cube-item.result c.loop-cube.invariant c.loop-cube-test.true c.cube-item.is popping c.or.ensures
          (c.is_within.ensures.0 w.if-not-is_within.false))
    ]

pub returns : goal.returns
returns c = IsKeptBelow-all c.args.inputs c.args.need.now c.args.cubes.now _ _ _ c.loop-cube.cube-index c.loop-cube.invariant (omega arith)
