use Rattle.std.proofs.Common.{ap₂, sym, ◌∙◌, cond, nat_eq, Some}
use Rattle.cube_core.specs.Cube.{Product, literal_of}
use Rattle.cube_core.proofs.CubeLaws.{IsProduct-with_true, IsProduct-with_false, literals-with_true, literals-with_false}
use Rattle.cube_core.proofs.cube.Cube.with.Goals as goal
use Rattle.cube_core.proofs.cube.Cube.with.Goals.{then-value, else-value}

pub invariant_of-result : goal.invariant_of-result
invariant_of-result c =
    let cube : Product = record { care = c.self.inside.care; value = c.self.inside.value } in
    elim c.if-value.branch [
      | then-value w ↦ rw w.value-is (IsProduct-with_true cube c.args.input c.self.invariant c.requires)
      | else-value w ↦ rw w.value-is (IsProduct-with_false cube c.args.input c.self.invariant c.requires)
    ]

pub returns-clause-product : goal.returns-clause-product
returns-clause-product c = invariant_of-result c

pub returns-clause-literals : goal.returns-clause-literals
returns-clause-literals c =
    let cube : Product = record { care = c.self.inside.care; value = c.self.inside.value } in
    elim c.if-value.branch [
      | then-value w ↦ rw w.value-is (λ i.
          literals-with_true cube c.args.input c.self.invariant c.requires i
          ∙ ap₂ (λ v p. cond (nat_eq i c.args.input) (Some v) (literal_of p i)) (sym w.if-value.true) c.self.view_is)
      | else-value w ↦ rw w.value-is (λ i.
          literals-with_false cube c.args.input c.self.invariant c.requires i
          ∙ ap₂ (λ v p. cond (nat_eq i c.args.input) (Some v) (literal_of p i)) (sym w.if-value.false) c.self.view_is)
    ]
