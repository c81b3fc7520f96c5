use Rattle.std.specs.List.{flat_map}
use Rattle.reach_encoding.specs.Encoding.{below, marks_at}
use Rattle.reach_encoding.specs.EncodeParts.{Adds}
use Rattle.reach_encoding.proofs.encode.push_marks.Given as goal

abbrev pub invariant-loop-time : goal.invariant-loop-time
invariant-loop-time l = Adds l.initial.formula l.formula (flat_map (marks_at l.task) (below l.time))
