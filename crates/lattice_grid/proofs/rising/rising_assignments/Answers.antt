use Rattle.std.proofs.Common.{arith}
use Rattle.lattice_grid.proofs.Lists.{rising-more, shl_few}
use Rattle.lattice_grid.proofs.rising.rising_assignments.Goals as goal
use Rattle.lattice_grid.proofs.rising.rising_assignments.Goals.{in-Some+then-has+in_ok-push, in-Some+else-has, in_default}

pub loop-number-preserved : goal.loop-number-preserved
loop-number-preserved c =
    let more = rising-more c.loop-number.number c.args.table.now in
    elim c.match-new.branch [
      | in-Some+then-has+in_ok-push w ↦ grind (arith, more, w.in-Some.ensures, w.in_ok-push.ensures.items)
      | in-Some+else-has w ↦ grind (arith, more, w.in-Some.ensures)
      | in_default w ↦ absurd (w.in_default.ensures (omega (arith, shl_few c.args.inputs c.requires)))
    ]
