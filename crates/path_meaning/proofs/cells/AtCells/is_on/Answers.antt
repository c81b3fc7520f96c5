use Rattle.std.proofs.Common.{◌<◌, subst, sym, ap}
use Rattle.std.specs.Option.{option_copied}
use Rattle.path_meaning.proofs.cells.AtCells.is_on.Goals as goal

pub at-requires-clause-row : goal.at-requires-clause-row
at-requires-clause-row c = subst (λ s. c.args.p.row < s.rows) (sym (c.args.self.now.same c.in-Some.array.now (ap option_copied c.in-Some.is))) c.requires.row

pub at-requires-clause-col : goal.at-requires-clause-col
at-requires-clause-col c = subst (λ s. c.args.p.col < s.cols) (sym (c.args.self.now.same c.in-Some.array.now (ap option_copied c.in-Some.is))) c.requires.col
