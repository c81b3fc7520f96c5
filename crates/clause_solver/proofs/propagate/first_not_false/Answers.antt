use Rattle.std.proofs.Common.{sym, ap, ◌∙◌, inl, inr}
use Rattle.clause_core.specs.Literal.{flip}
use Rattle.lrat_replay.proofs.Tools.{has-at}
use Rattle.clause_solver.specs.Trail.{known_by}
use Rattle.clause_solver.proofs.Visits.{has-take}
use Rattle.clause_solver.proofs.propagate.first_not_false.Goals as goal

pub returns-then-not-has-clause-some : goal.returns-then-not-has-clause-some
returns-then-not-has-clause-some c = (
  has-at c.args.clause.now c.loop-lit.lit-index c.lit-item.result c.loop-lit-test.true c.lit-item.is,
  ap (known_by c.args.trail.now.values) (sym c.flip.ensures) ∙ sym c.has.ensures ∙ c.if-not-has.true,
)

pub loop-lit-preserved : goal.loop-lit-preserved
loop-lit-preserved c = λ x h. elim (has-take c.args.clause.now c.loop-lit.lit-index c.lit-item.result x c.loop-lit-test.true c.lit-item.is h) [
  | inl k ↦ c.loop-lit.invariant x k
  | inr e ↦ ap (λ y. known_by c.args.trail.now.values (flip y)) (sym e) ∙ ap (known_by c.args.trail.now.values) (sym c.flip.ensures) ∙ sym c.has.ensures ∙ c.if-not-has.false
]
