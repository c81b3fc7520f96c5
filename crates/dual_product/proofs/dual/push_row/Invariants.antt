use Rattle.std.proofs.Common.{◌≡◌, ◌++◌, take, map}
use Rattle.dual_product.specs.Dual.{literal_against}
use Rattle.dual_product.proofs.dual.push_row.Given as goal

abbrev pub invariant-loop-on : goal.invariant-loop-on
invariant-loop-on l = l.cells.items ≡ l.initial.cells.items ++ map (λ on. literal_against on l.off) (take l.on-index l.ons)
