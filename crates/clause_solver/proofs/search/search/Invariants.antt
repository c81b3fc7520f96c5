use Rattle.std.proofs.Common.{◌≡◌, ◌⊎◌, ◌+◌, ◌-◌, ◌*◌, ◌≤◌, [], length}
use Rattle.lrat_replay.specs.Marks.{room}
use Rattle.clause_solver.specs.Trail.{unassigned}
use Rattle.clause_solver.specs.Search.{Goes, LearnsNew}
use Rattle.clause_solver.specs.Watching.{IsWorking}
use Rattle.clause_solver.proofs.search.search.Given as goal

abbrev pub invariant-loop-analysis : goal.invariant-loop-analysis
invariant-loop-analysis g l = record {
  within : l.learned ≤ l.budget;
  working : IsWorking l.work;
  goes : Goes (record { book = g.L.Ledger.book l.ledger; broken = g.L.Ledger.broken l.ledger; clauses = l.work.clauses; track = l.work.trail; width = room l.work.seen });
  learns : LearnsNew (g.L.Ledger.book l.fn.ledger) (g.L.Ledger.book l.ledger) l.learned;
  many : length l.work.clauses ≡ length l.fn.work.clauses + l.learned;
  vars : l.work.trail.vars ≡ l.fn.work.trail.vars;
  later : g.L.Ledger.faults l.fn.ledger ≤ g.L.Ledger.faults l.ledger;
  origin : (g.L.Ledger.origin l.ledger ≡ g.L.Ledger.origin l.fn.ledger) ⊎ (g.L.Ledger.origin l.ledger ≡ []);
}

abbrev pub decreases-loop-analysis : goal.decreases-loop-analysis
decreases-loop-analysis g l = (l.budget - l.learned) * (2 * l.fn.work.trail.vars + 3) + unassigned l.work.trail
