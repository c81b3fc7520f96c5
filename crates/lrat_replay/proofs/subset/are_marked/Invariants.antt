use Rattle.lrat_replay.specs.Marks.{known_of}
use Rattle.lrat_replay.proofs.SubsetLaws.{KnownBefore}
use Rattle.lrat_replay.proofs.subset.are_marked.Given as goal

abbrev pub invariant-loop-lit : goal.invariant-loop-lit
invariant-loop-lit l = KnownBefore (known_of l.marks) l.clause l.lit-index
