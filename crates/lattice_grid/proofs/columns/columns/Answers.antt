use Rattle.std.proofs.Common.{◌*◌, ◌≤◌, rules}
use Rattle.std.specs.Prelude.{IfOk}
use Rattle.std.proofs.lemmas.Result.{IfOk-weaker}
use Rattle.lattice_grid.specs.Columns.{IsColumns}
use Rattle.lattice_grid.specs.Drawn.{IsDrawn}
use Rattle.lattice_grid.specs.Rails.{IsOverRails}
use Rattle.lattice_grid.specs.Realise.{Realises}
use Rattle.lattice_grid.proofs.ColumnsLaws.{AreColumns, columns_read, column_control, has_columns}
use Rattle.lattice_grid.proofs.columns.columns.Goals as goal

pub columns_shape-shape-requires-clause-some : goal.columns_shape-shape-requires-clause-some
columns_shape-shape-requires-clause-some c =
    let many = has_columns c.args.spec.now c.in_ok-ons.ons.items c.inputs.ensures.kept c.requires.some_on c.requires.some_off (search rules) in
    let some = many.some in search rules

pub columns_shape-shape-requires-clause-few : goal.columns_shape-shape-requires-clause-few
columns_shape-shape-requires-clause-few c =
    let many = has_columns c.args.spec.now c.in_ok-ons.ons.items c.inputs.ensures.kept c.requires.some_on c.requires.some_off (search rules) in
    let few = many.few in search rules

-- what the lattice is
made : (c : goal.After-drop-ons) → IfOk c.drawn.result (AreColumns c.args.spec.now c.args.rails)
made c =
    IfOk-weaker c.drawn.result (IsDrawn (column_control c.args.rails c.deref.result.now) c.columns_shape-shape.result) (AreColumns c.args.spec.now c.args.rails)
    (columns_read c.args.spec.now c.args.rails c.deref.result.now c.columns_shape-shape.result c.inputs.ensures.kept c.requires.some_on c.requires.some_off c.requires.told (search rules) (search rules) (search rules))
    c.drawn.ensures

pub returns-clause-cells : goal.returns-clause-cells
returns-clause-cells c = IfOk-weaker c.drawn.result (AreColumns c.args.spec.now c.args.rails) (IsColumns c.args.spec.now c.args.rails) (λ g h. h.cells) (made c)

pub returns-clause-few : goal.returns-clause-few
returns-clause-few c = IfOk-weaker c.drawn.result (AreColumns c.args.spec.now c.args.rails) (λ g. g.size.rows * g.size.cols ≤ 20450) (λ g h. h.few) (made c)

pub returns-clause-over : goal.returns-clause-over
returns-clause-over c = IfOk-weaker c.drawn.result (AreColumns c.args.spec.now c.args.rails) (IsOverRails c.args.spec.now.inputs c.args.rails) (λ g h. h.over) (made c)

pub returns-clause-realises : goal.returns-clause-realises
returns-clause-realises c = IfOk-weaker c.drawn.result (AreColumns c.args.spec.now c.args.rails) (λ g. Realises g c.args.spec.now) (λ g h. h.realises) (made c)
