use Rattle.std.proofs.Common.{sym, ap, ◌∙◌, inl, inr}
use Rattle.std.proofs.lemmas.Bool.{both_ways}
use Rattle.clause_core.specs.Literal.{flip, same}
use Rattle.clause_core.proofs.Tools.{same-at, same-true}
use Rattle.lrat_replay.proofs.Tools.{has-at}
use Rattle.clause_solver.specs.Trail.{known_by}
use Rattle.clause_solver.proofs.Visits.{has-take}
use Rattle.clause_solver.proofs.propagate.other_not_false.Goals as goal
use Rattle.clause_solver.proofs.propagate.other_not_false.Goals.{else-not-is-via-then-not-is+else-not-has, else-not-is-via-else-not-is}

pub returns-then-not-has-clause-some : goal.returns-then-not-has-clause-some
returns-then-not-has-clause-some c = (
  has-at c.args.clause.now c.loop-lit.lit-index c.lit-item.result c.loop-lit-test.true c.lit-item.is,
  ap (known_by c.args.trail.now.values) (sym c.flip.ensures) ∙ sym c.has.ensures ∙ c.if-not-has.true,
  λ e. both_ways (same c.lit-item.result c.args.one) (sym c.is.ensures.value ∙ c.if-not-is.true) (same-at c.lit-item.result c.args.one e),
)

pub loop-lit-preserved : goal.loop-lit-preserved
loop-lit-preserved c = λ x h. elim (has-take c.args.clause.now c.loop-lit.lit-index c.lit-item.result x c.loop-lit-test.true c.lit-item.is h) [
  | inl k ↦ c.loop-lit.invariant x k
  | inr e ↦ elim c.else-not-is.branch [
    | else-not-is-via-then-not-is+else-not-has w ↦
        inr (ap (λ y. known_by c.args.trail.now.values (flip y)) (sym e) ∙ ap (known_by c.args.trail.now.values) (sym w.flip.ensures) ∙ sym w.has.ensures ∙ w.if-not-has.false)
    | else-not-is-via-else-not-is w ↦ inl (sym (same-true c.lit-item.result c.args.one (sym c.is.ensures.value ∙ w.if-not-is.false)) ∙ e)
  ]
]
