use Rattle.std.proofs.Common.{arith}
use Rattle.area_search.proofs.Starting.{many_on, many_off, not_lacking}
use Rattle.area_search.proofs.start.small_lattice.Goals as goal

pub columns-requires-clause-some_on : goal.columns-requires-clause-some_on
columns-requires-clause-some_on c e =
    many_on c.args.rails c.args.spec.now c.args.first c.requires.start (let s = c.area.ensures in let t = c.shape.ensures in let b = c.if-area-le-MOST_CELLS.false in grind (arith, s, t, b)) e

pub columns-requires-clause-some_off : goal.columns-requires-clause-some_off
columns-requires-clause-some_off c e =
    many_off c.args.rails c.args.spec.now c.args.first c.requires.start (let s = c.area.ensures in let t = c.shape.ensures in let b = c.if-area-le-MOST_CELLS.false in grind (arith, s, t, b)) e

pub columns-requires-clause-told : goal.columns-requires-clause-told
columns-requires-clause-told c x y e = not_lacking c.starts.ensures.last c.args.rails c.args.spec.now c.args.first x y c.inputs-inputs.ensures.kept c.requires.right e
