use Rattle.std.proofs.Common.{◌≡◌, ◌++◌, ◌∙◌, ap, subst, sym}
use Rattle.std.specs.List.{flat_map}
use Rattle.lattice_grid.specs.Lattice.{control_at}
use Rattle.reach_encoding.specs.Encoding.{below, place_of}
use Rattle.reach_encoding.specs.ModelOf.{control_row, choice_row}
use Rattle.reach_encoding.proofs.ModelOfTables.{below_more, row_more}
use Rattle.reach_encoding.proofs.model.push_choices.Goals as goal

pub loop-cell-preserved : goal.loop-cell-preserved
loop-cell-preserved c =
    subst (λ ps. c.push_control.new.values.items ≡ c.args.values.now.items ++ flat_map (choice_row c.args.grid.now c.args.controls.now) ps) (sym (below_more c.loop-cell.cell))
    (row_more (choice_row c.args.grid.now c.args.controls.now) c.args.values.now.items (below c.loop-cell.cell) c.loop-cell.cell c.loop-cell.values.items c.push_control.new.values.items
    (control_row c.args.controls.now c.at.result) c.loop-cell.invariant
    (ap (control_row c.args.controls.now) (c.at.ensures.same ∙ ap (control_at c.args.grid.now) (c.place.ensures.same ∙ ap (λ s. place_of s c.loop-cell.cell) c.shape-shape.ensures)))
    c.in_ok-push_control.ensures)
