use Rattle.std.proofs.Common.{◌∙◌, sym, ap, subst}
use Rattle.std.specs.Prelude.{All}
use Rattle.clause_core.specs.Formula.{IsOver}
use Rattle.clause_solver.specs.Trail.{Track}
use Rattle.clause_solver.proofs.solver.work_of.Goals as goal

pub returns-clause-over : goal.returns-clause-over
returns-clause-over c =
    let vars = ap (λ (t : Track). t.vars) c.in_ok-new.ensures ∙ c.vars-vars.ensures.value in
    subst (λ n. All (IsOver n) c.in_ok-clauses_of.field-0) (sym vars) c.in_ok-clauses_of.ensures.over
