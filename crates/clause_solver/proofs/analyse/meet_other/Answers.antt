use Rattle.std.proofs.Common.{◌≡◌, true, ◌∙◌, sym, subst, inl, inr}
use Rattle.std.proofs.lemmas.Bool.{both_ways}
use Rattle.clause_core.specs.Literal.{same}
use Rattle.clause_core.proofs.Tools.{same-true, same-at}
use Rattle.clause_solver.specs.Trail.{known_by, IsVariableOf}
use Rattle.clause_solver.specs.Met.{seen_of}
use Rattle.clause_solver.proofs.analyse.meet_other.Goals as goal

pub returns-then-is-clause-marked : goal.returns-then-is-clause-marked
returns-then-is-clause-marked c = inl (sym (same-true c.args.lit c.args.one (sym c.is.ensures.value ∙ c.if-is.true)))

pub meet-requires-clause-known : goal.meet-requires-clause-known
meet-requires-clause-known c = subst (λ x. known_by c.args.trail.now.values x ≡ true) (sym c.flip.ensures) (elim c.requires.known [
  | inl e ↦ absurd (both_ways (same c.args.lit c.args.one) (sym c.is.ensures.value ∙ c.if-is.false) (same-at c.args.lit c.args.one (sym e)))
  | inr k ↦ k
])

pub meet-requires-clause-variable : goal.meet-requires-clause-variable
meet-requires-clause-variable c = subst (IsVariableOf c.args.trail.now.vars) (sym c.flip.ensures) (record { counted = c.requires.variable.counted; within = c.requires.variable.within })

pub returns-clause-marked : goal.returns-clause-marked
returns-clause-marked c = inr (subst (λ x. seen_of c.meet.new.met c.args.trail.now.values x ≡ true) c.flip.ensures c.meet.ensures.marked)
