use Rattle.std.proofs.Common.{arith}
use Rattle.reach_encoding.specs.EncodeParts.{step_clause}
use Rattle.reach_encoding.specs.Encoding.{number_of}
use Rattle.reach_encoding.proofs.EncodeLists.{Adds-whole}
use Rattle.reach_encoding.proofs.encode.push_steps.Goals as goal

pub returns : goal.returns
returns c = Adds-whole (step_clause c.args.task.now c.args.time c.args.through c.args.cell) (number_of c.args.task.now.size) c.args.next.now c.loop-place.place-index _ _ (omega arith) c.loop-place.invariant
