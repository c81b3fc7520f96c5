use Rattle.std.proofs.Common.{◌≡◌, List, Bool, Ok, refl, subst}
use Rattle.std.specs.declared.result.Result.{Result}
use Rattle.clause_core.specs.Formula.{IsSatisfiedBy}
use Rattle.lrat_replay.specs.Marks.{room}
use Rattle.clause_solver.specs.declared.verdict.Verdict.{Verdict}
use Rattle.clause_solver.specs.declared.verdict.Verdict.TheVariants.{Satisfied}
use Rattle.clause_solver.specs.declared.verdict.SolveFault.{SolveFault}
use Rattle.clause_solver.proofs.Solved.{model_satisfies, opens, keeps_open, spent_below, refuted_no_solution}
use Rattle.clause_solver.proofs.solver.answer.Goals as goal

same_values : (v w : List Bool) (r s : Result Verdict SolveFault) → r ≡ Ok (Satisfied v) → s ≡ Ok (Satisfied w) → r ≡ s → v ≡ w
same_values v w r s a b e = cc

pub returns-in-Ok-clause-satisfied : goal.returns-in-Ok-clause-satisfied
returns-in-Ok-clause-satisfied g c = λ values e.
    let so = rw c.in-Ok-Satisfied.field-0-is at c.in-Ok-Satisfied.ensures.so in
    subst (λ v. IsSatisfiedBy v (g.L.Ledger.book c.search.new.ledger).formula) (same_values c.in-Ok.values values (Ok (Satisfied c.in-Ok.values)) (Ok (Satisfied values)) refl refl e)
    (model_satisfies (record { book = g.L.Ledger.book c.search.new.ledger; broken = g.L.Ledger.broken c.search.new.ledger; clauses = c.search.new.work.clauses; track = c.search.new.work.trail; width = room c.search.new.work.seen }) c.in-Ok.values so.goes so.model c.valuation.ensures.fresh c.in-Ok.ensures.vars c.in-Ok.ensures.values)

pub returns-in-Ok-Spent-clause-kept : goal.returns-in-Ok-Spent-clause-kept
returns-in-Ok-Spent-clause-kept g c =
    let so = rw c.in-Ok-Spent.field-0-is at c.in-Ok-Spent.ensures.so in
    keeps_open (g.L.Ledger.book c.args.ledger.now) c.requires.kept.count c.requires.kept.history (record { book = g.L.Ledger.book c.search.new.ledger; broken = g.L.Ledger.broken c.search.new.ledger; clauses = c.search.new.work.clauses; track = c.search.new.work.trail; width = room c.search.new.work.seen }) c.args.budget so.learns so.goes.ready

pub returns-in-Ok-Spent-clause-open : goal.returns-in-Ok-Spent-clause-open
returns-in-Ok-Spent-clause-open g c = λ _.
    let so = rw c.in-Ok-Spent.field-0-is at c.in-Ok-Spent.ensures.so in
    let kept = keeps_open (g.L.Ledger.book c.args.ledger.now) c.requires.kept.count c.requires.kept.history (record { book = g.L.Ledger.book c.search.new.ledger; broken = g.L.Ledger.broken c.search.new.ledger; clauses = c.search.new.work.clauses; track = c.search.new.work.trail; width = room c.search.new.work.seen }) c.args.budget so.learns so.goes.ready in
    opens (g.L.Ledger.book c.search.new.ledger) kept.count kept.history so.undecided

pub returns-in-Ok-Spent-clause-sufficient : goal.returns-in-Ok-Spent-clause-sufficient
returns-in-Ok-Spent-clause-sufficient g c = λ _.
    let so = rw c.in-Ok-Spent.field-0-is at c.in-Ok-Spent.ensures.so in
    spent_below (g.L.Ledger.book c.args.ledger.now) c.requires.kept.count c.requires.kept.history (record { book = g.L.Ledger.book c.search.new.ledger; broken = g.L.Ledger.broken c.search.new.ledger; clauses = c.search.new.work.clauses; track = c.search.new.work.trail; width = room c.search.new.work.seen }) c.args.budget so.learns so.goes.ready

pub returns-in-Ok-Refuted-clause-kept : goal.returns-in-Ok-Refuted-clause-kept
returns-in-Ok-Refuted-clause-kept g c =
    let so = rw c.in-Ok-Refuted.field-0-is at c.in-Ok-Refuted.ensures.so in
    record {
      whole = so.whole;
      ends = so.ends;
      no_solution = refuted_no_solution (g.L.Ledger.book c.args.ledger.now) (g.L.Ledger.book c.search.new.ledger) c.requires.kept.count c.args.budget c.requires.kept.history c.search.ensures.at_most so.ends;
    }
