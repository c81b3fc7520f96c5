use Rattle.std.proofs.Common.{refl, sym, ap, ◌∙◌, subst}
use Rattle.lattice_grid.specs.Defects.{IsArray}
use Rattle.lattice_grid.specs.Rectangle.{Size}
use Rattle.defect_array.specs.Reading.{AreRowsOf}
use Rattle.defect_array.proofs.TakeLaws.{array_with, no_shape, whole_array}
use Rattle.defect_array.proofs.rows.Rows.into_array.Goals as goal

pub returns-in_default : goal.returns-in_default
returns-in_default c rows some h = (no_shape rows c.args.self.width c.args.self.many c.args.self.cells.items some h c.in_default.ensures, refl)

pub returns-in-Some-new : goal.returns-in-Some-new
returns-in-Some-new c rows some h =
    subst (AreRowsOf rows) (sym (c.in-Some-new.ensures.1 ∙ ap (λ (s : Size). array_with s c.args.self.cells.items) c.in-Some.ensures.1))
    (whole_array rows c.args.self.width c.args.self.many c.args.self.cells.items some h c.in-Some.ensures.0.some_rows)

pub returns-in-None : goal.returns-in-None
returns-in-None c rows some h =
    absurd (c.in-None.ensures (subst (λ (s : Size). IsArray (array_with s c.args.self.cells.items)) (sym c.in-Some.ensures.1)
    (whole_array rows c.args.self.width c.args.self.many c.args.self.cells.items some h c.in-Some.ensures.0.some_rows).array))
