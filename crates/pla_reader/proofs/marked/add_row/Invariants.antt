use Rattle.pla_reader.proofs.SetsLaws.{IsAddedBelow}
use Rattle.pla_reader.proofs.marked.add_row.Given as goal

-- the row is added to the sets so far
abbrev pub invariant-loop-output : goal.invariant-loop-output
invariant-loop-output l = IsAddedBelow l.kind l.inputs l.fn.digits l.output l.initial.sets l.sets
