-- Cubes that are given by their literals.
use Rattle.std.specs.Prelude.{ℕ, suc, zero, ◌+◌, ◌^◌, Bool, false, None, Some, nat_lt, ◌==◌, if◌then◌else◌}
use Rattle.std.specs.declared.option.Option.{Option}
use Rattle.std.specs.Option.{is_some, unwrap_or}
use Rattle.cube_core.specs.Assignment.{bit}
use Rattle.cube_core.specs.Cube.{Product, literal_of}

-- the number whose bits below n are set where the test passes
abbrev pub bits_below : (ℕ → Bool) → ℕ → ℕ
bits_below test zero = 0
bits_below test (suc n) = (if test n then 2 ^ n else 0) + bits_below test n

-- the cube that has these literals of the ten inputs
unfoldable pub cube_by : (ℕ → Option Bool) → Product
cube_by literal = record {
  care = bits_below (λ i. is_some (literal i)) 10;
  value = bits_below (λ i. unwrap_or (literal i) false) 10;
}

-- the cube of one assignment, which has a literal of each of so many inputs
abbrev pub point_of : ℕ → ℕ → Product
point_of inputs x = cube_by (λ i. if nat_lt i inputs then Some (bit x i) else None)

-- the cube that has lost its literal of an input
abbrev pub without : Product → ℕ → Product
without c input = cube_by (λ i. if i == input then None else literal_of c i)
