use Rattle.std.proofs.Common.{subst, sym}
use Rattle.std.specs.Prelude.{IfOk, ◌↔◌}
use Rattle.std.specs.List.{Contains}
use Rattle.lattice_grid.specs.declared.shape.Place.{Place}
use Rattle.lattice_grid.specs.Path.{IsWithin}
use Rattle.reach_encoding.specs.ModelOf.{StartsAt}
use Rattle.reach_encoding.proofs.flood.starts.Goals as goal

pub returns-in-Down : goal.returns-in-Down
returns-in-Down c = subst (λ side. IfOk c.top.result (λ cells. (p : Place) → Contains cells.items p ↔ (IsWithin c.args.shape p × StartsAt side p))) (sym c.in-Down.is) c.top.ensures

pub returns-in-Across : goal.returns-in-Across
returns-in-Across c = subst (λ side. IfOk c.left.result (λ cells. (p : Place) → Contains cells.items p ↔ (IsWithin c.args.shape p × StartsAt side p))) (sym c.in-Across.is) c.left.ensures
