use Rattle.std.proofs.Common.{take, option_copied}
use Rattle.reach_encoding.specs.ModelOf.{HasMarks}
use Rattle.reach_encoding.proofs.model.push_marks.Given as goal

abbrev pub invariant-loop-x : goal.invariant-loop-x
invariant-loop-x l = HasMarks l.spec.on l.grid (option_copied l.array) (take l.x-index l.asked) l.initial.values.items l.values.items
