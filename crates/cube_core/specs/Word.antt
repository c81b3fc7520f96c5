-- Words of 64 bits that stand for 64 assignments.
use Rattle.std.specs.Prelude.{◌≡◌, ℕ, ◌<◌}
use Rattle.cube_core.specs.Assignment.{bit}
use Rattle.cube_core.specs.Cube.{Product, literal_of, agrees, each_below}

-- In a word the bits are set where the first six inputs have the values that the cube wants.
abbrev pub HasLowPlaces : Product → ℕ → Type 0
HasLowPlaces c word = (j : ℕ) → j < 64 → bit word j ≡ each_below (λ i. agrees (literal_of c i) (bit j i)) 6
