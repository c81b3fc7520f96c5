use Rattle.std.proofs.Common.{◌++◌}
use Rattle.lrat_replay.specs.Marks.{known_of}
use Rattle.lrat_replay.proofs.ListsLaws.{NoneOfFirst}
use Rattle.lrat_replay.proofs.subset.some_within.Given as goal

abbrev pub invariant-loop-lit : goal.invariant-loop-lit
invariant-loop-lit l = NoneOfFirst (known_of l.marks) (l.formula.clauses ++ l.steps) l.clause l.lit-index
