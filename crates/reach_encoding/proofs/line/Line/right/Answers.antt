use Rattle.std.proofs.Common.{◌-◌, rules}
use Rattle.reach_encoding.proofs.EncodeCells.{column_within}
use Rattle.reach_encoding.proofs.line.Line.right.Goals as goal

pub returns-clause-within : goal.returns-clause-within
returns-clause-within c = search (rules, column_within c.args.shape.rows c.args.shape.cols (c.args.shape.cols - 1) (search rules))
