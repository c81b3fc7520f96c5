use Rattle.std.proofs.Common.{◌++◌}
use Rattle.lrat_replay.specs.Marks.{known_of}
use Rattle.lrat_replay.proofs.ListsLaws.{IsWalk}
use Rattle.lrat_replay.proofs.subset.some_listed.Given as goal

abbrev pub invariant-loop-link : goal.invariant-loop-link
invariant-loop-link l = IsWalk (known_of l.marks) (l.formula.clauses ++ l.steps) l.code l.link

abbrev pub decreases-loop-link : goal.decreases-loop-link
decreases-loop-link l = l.link
