use Rattle.std.proofs.Common.{◌≡◌, List, Bool, Ok, refl, subst}
use Rattle.std.specs.declared.result.Result.{Result}
use Rattle.clause_core.specs.Formula.{IsSatisfiedBy}
use Rattle.lrat_replay.specs.Marks.{room}
use Rattle.clause_solver.specs.declared.verdict.Verdict.{Verdict}
use Rattle.clause_solver.specs.declared.verdict.Verdict.TheVariants.{Satisfied}
use Rattle.clause_solver.specs.declared.verdict.SolveFault.{SolveFault}
use Rattle.clause_solver.proofs.Solved.{model_satisfies, formula-up_to, deleted-up_to}
use Rattle.clause_solver.proofs.solver.resume.Goals as goal

same_values : (v w : List Bool) (r s : Result Verdict SolveFault) → r ≡ Ok (Satisfied v) → s ≡ Ok (Satisfied w) → r ≡ s → v ≡ w
same_values v w r s a b e = cc

pub returns-in-Open-clause-formula : goal.returns-in-Open-clause-formula
returns-in-Open-clause-formula g c = formula-up_to (g.L.Ledger.book c.args.ledger.now) (g.L.Ledger.book c.answer.new.ledger) c.args.budget c.answer.ensures.learned

pub returns-in-Open-clause-deleted : goal.returns-in-Open-clause-deleted
returns-in-Open-clause-deleted g c = deleted-up_to (g.L.Ledger.book c.args.ledger.now) (g.L.Ledger.book c.answer.new.ledger) c.args.budget c.answer.ensures.learned

pub returns-in-Ok-clause-satisfied : goal.returns-in-Ok-clause-satisfied
returns-in-Ok-clause-satisfied g c = λ values e.
    let kept = rw c.in-Satisfied.is at c.requires.kept in
    subst (λ v. IsSatisfiedBy v (g.L.Ledger.book c.args.ledger.now).formula) (same_values c.in-Ok.values values (Ok (Satisfied c.in-Ok.values)) (Ok (Satisfied values)) refl refl e)
    (model_satisfies (record { book = g.L.Ledger.book c.args.ledger.now; broken = g.L.Ledger.broken c.args.ledger.now; clauses = c.args.work.now.clauses; track = c.args.work.now.trail; width = room c.args.work.now.seen }) c.in-Ok.values kept.goes kept.model c.valuation.ensures.fresh c.in-Ok.ensures.vars c.in-Ok.ensures.values)
