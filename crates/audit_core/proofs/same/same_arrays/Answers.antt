use Rattle.std.proofs.Common.{refl}
use Rattle.audit_core.proofs.SameLaws.{same_array, cell_more}
use Rattle.audit_core.proofs.same.same_arrays.Goals as goal

pub loop-cell-preserved : goal.loop-cell-preserved
loop-cell-preserved c =
    cell_more c.args.a.now c.args.b.now c.shape-shape.result c.shape.result c.loop-cell.cell c.place-place.result c.at.result c.at-in-loop-cell.result c.shape-shape.ensures.same c.shape.ensures.same
    (c.same_shapes.ensures.0 c.if-not-same_shapes.false) c.shape-shape.ensures.kept c.place-place.ensures.same c.at.ensures c.at-in-loop-cell.ensures (c.same_defects.ensures.0 c.if-not-same_defects.false) c.loop-cell.invariant

pub returns : goal.returns
returns c = (
  λ _. same_array c.args.a.now c.args.b.now c.shape-shape.result c.shape.result c.area-cell-end.result c.loop-cell.cell c.shape-shape.ensures.same c.shape.ensures.same (c.same_shapes.ensures.0 c.if-not-same_shapes.false)
      c.shape-shape.ensures.kept c.shape.ensures.kept c.area-cell-end.ensures c.loop-cell-test.false c.loop-cell.invariant,
  λ _. refl,
)
