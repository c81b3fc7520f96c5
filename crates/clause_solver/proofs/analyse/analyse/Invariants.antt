use Rattle.std.proofs.Common.{◌≤◌, length}
use Rattle.clause_solver.specs.Met.{seen_of, room}
use Rattle.clause_solver.specs.Analysis.{IsWitness}
use Rattle.clause_solver.proofs.AnalysisSteps.{IsAnalysis}
use Rattle.clause_solver.proofs.analyse.analyse.Given as goal

abbrev pub invariant-loop-place : goal.invariant-loop-place
invariant-loop-place l = record {
  within : l.place ≤ length l.trail.values;
  room_is : length l.trail.values ≤ room l.analysis.met;
  witness : IsWitness l.trail.values (seen_of l.analysis.met l.trail.values) l.start l.place l.known;
  analysis : IsAnalysis l.clauses l.trail.values l.start l.place (seen_of l.analysis.met l.trail.values) l.analysis.clause.items l.analysis.hints.items l.analysis.after;
}

abbrev pub decreases-loop-place : goal.decreases-loop-place
decreases-loop-place l = l.place
