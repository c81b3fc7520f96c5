use Rattle.std.proofs.lemmas.Bool.{eqb-true, eq-eqb}
use Rattle.cube_core.specs.Cube.{Product}
use Rattle.cube_core.proofs.LiteralLaws.{contains-by_masks, masks-from_contains}
use Rattle.cube_core.proofs.cube.Cube.contains.Goals as goal

pub returns-then-self-other : goal.returns-then-self-other
returns-then-self-other c =
    let one : Product = record { care = c.self.inside.care; value = c.self.inside.value } in
    let two : Product = record { care = c.other.inside.care; value = c.other.inside.value } in
    rw (← c.self.view_is, ← c.other.view_is) (
      λ e. contains-by_masks one two c.self.invariant c.other.invariant (c.if-self-other.true, eqb-true _ _ e),
      λ all. eq-eqb _ _ (masks-from_contains one two c.self.invariant c.other.invariant all).1,
    )

pub returns-else-self-other : goal.returns-else-self-other
returns-else-self-other c =
    let one : Product = record { care = c.self.inside.care; value = c.self.inside.value } in
    let two : Product = record { care = c.other.inside.care; value = c.other.inside.value } in
    rw (← c.self.view_is, ← c.other.view_is) (
      λ e. absurd (c.if-self-other.false (eqb-true _ _ e)),
      λ all. absurd (c.if-self-other.false (masks-from_contains one two c.self.invariant c.other.invariant all).0),
    )
