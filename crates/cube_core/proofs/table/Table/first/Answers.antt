use Rattle.std.proofs.Common.{◌<◌, ◌^◌, get_or, arith, refl, ◌∙◌, sym}
use Rattle.cube_core.proofs.SetLaws.{found_none, found_some, IsLeast-first, members_of-zeros}
use Rattle.cube_core.proofs.table.Table.first.Goals as goal

pub returns-then-word-ne0-clause-none : goal.returns-then-word-ne0-clause-none
returns-then-word-ne0-clause-none c =
    let fits : get_or c.self.inside.words c.loop-place.place 0 < 2 ^ 64 = omega arith in
    let first = IsLeast-first c.self.inside.words c.loop-place.place c.loop-place-test.true c.loop-place.invariant c.if-word-ne0.true fits in
    rw (← c.self.view_is) (found_none _ c.new.result _ first.1 (omega (arith, first.0)) c.new.ensures)

pub returns-then-word-ne0-clause-some : goal.returns-then-word-ne0-clause-some
returns-then-word-ne0-clause-some c =
    let fits : get_or c.self.inside.words c.loop-place.place 0 < 2 ^ 64 = omega arith in
    let first = IsLeast-first c.self.inside.words c.loop-place.place c.loop-place-test.true c.loop-place.invariant c.if-word-ne0.true fits in
    rw (← c.self.view_is) (found_some _ c.new.result _ first.1 c.new.ensures)

pub returns-clause-none : goal.returns-clause-none
returns-clause-none c = (
  λ _. sym c.self.view_is ∙ members_of-zeros c.self.inside.words (λ k h. c.loop-place.invariant k (omega arith)),
  λ _. refl,
)
