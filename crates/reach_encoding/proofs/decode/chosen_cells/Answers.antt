use Rattle.std.proofs.Common.{◌*◌, ◌<◌, length, get_or, ap, arith}
use Rattle.lattice_grid.specs.declared.control.Control.TheVariants.{Zero}
use Rattle.reach_encoding.proofs.DecodeLaws.{room_after, controls_more}
use Rattle.reach_encoding.proofs.decode.chosen_cells.Goals as goal

pub first_chosen-number-requires-clause-wide : goal.first_chosen-number-requires-clause-wide
first_chosen-number-requires-clause-wide c =
    let inside : c.loop-cell.cell < c.args.shape.rows * c.args.shape.cols = omega arith in
    omega (arith, room_after c.loop-cell.cell (c.args.shape.rows * c.args.shape.cols) (length c.args.allowed.now) inside, c.requires.chosen.wide)

pub loop-cell-preserved : goal.loop-cell-preserved
loop-cell-preserved c = controls_more c.args.allowed.now c.args.v.now _ _ c.loop-cell.cell _ c.loop-cell.invariant (ap (λ n. get_or c.args.allowed.now n Zero) c.first_chosen-number.ensures.first) c.in_ok-push.ensures.items
