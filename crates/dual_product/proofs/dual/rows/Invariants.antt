use Rattle.std.proofs.Common.{◌≡◌, take, map}
use Rattle.std.specs.List.{flat_map}
use Rattle.dual_product.specs.Dual.{literal_against}
use Rattle.dual_product.proofs.dual.rows.Given as goal

abbrev pub invariant-loop-off : goal.invariant-loop-off
invariant-loop-off l = l.cells.items ≡ flat_map (λ off. map (λ on. literal_against on off) l.ons) (take l.off-index l.offs)
