use Rattle.std.proofs.Common.{ℕ, List, length}
use Rattle.pla_reader.specs.Marking.{AreSets, AreFunctions}
use Rattle.pla_reader.proofs.marked.functions.Given as goal

abbrev pub invariant-loop-output : goal.invariant-loop-output
invariant-loop-output l = (rows : List (List ℕ)) → AreSets l.kind l.inputs (length l.sets) rows l.sets → AreFunctions l.kind l.inputs l.output rows l.specs.items
