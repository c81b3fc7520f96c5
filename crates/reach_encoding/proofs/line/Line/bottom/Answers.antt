use Rattle.std.proofs.Common.{◌-◌, rules}
use Rattle.reach_encoding.proofs.EncodeCells.{row_within}
use Rattle.reach_encoding.proofs.line.Line.bottom.Goals as goal

pub returns-clause-within : goal.returns-clause-within
returns-clause-within c = search (rules, row_within c.args.shape.rows c.args.shape.cols (c.args.shape.rows - 1) (search rules))
