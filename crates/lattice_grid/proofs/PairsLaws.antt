-- The telling literals name inputs that there are.
use Rattle.std.proofs.Common.{◌≢◌, ℕ, ◌^◌, ◌≤◌, ◌<◌, true, false, cond, sym, subst}
use Rattle.cube_core.specs.Assignment.{bit}
use Rattle.lattice_grid.specs.declared.control.Control.TheVariants.{Plain, Bar}
use Rattle.lattice_grid.specs.Control.{NamesBelow}
use Rattle.lattice_grid.specs.Pairs.{telling, least_difference}
use Rattle.lattice_grid.proofs.Differences.{least_difference-trailing_zeros}

pub telling_names : (x y n : ℕ) → n ≤ 10 → x < 2 ^ n → y < 2 ^ n → x < 1024 → y < 1024 → x ≢ y → NamesBelow n (telling x y)
telling_names x y n few px py qx qy apart =
    let found = least_difference-trailing_zeros x y n few px py qx qy apart in
    let within : least_difference x y < n = subst (λ i. i < n) (sym found.least) found.within in
    elim (bit x (least_difference x y)) as (λ b. NamesBelow n (cond b (Plain (least_difference x y)) (Bar (least_difference x y)))) [ true ↦ within | false ↦ within ]
