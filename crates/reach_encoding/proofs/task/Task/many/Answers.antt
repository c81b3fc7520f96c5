use Rattle.std.proofs.Common.{length, ap, arith}
use Rattle.reach_encoding.proofs.EncodeNumbers.{few_of}
use Rattle.reach_encoding.proofs.task.Task.many.Goals as goal

pub overflow_cast-result : goal.overflow_cast-result
overflow_cast-result c =
    let few = (few_of _ c.self.invariant.question).assignments in
    let same = ap length c.self.invariant.listing in
    omega (arith, few, same)
