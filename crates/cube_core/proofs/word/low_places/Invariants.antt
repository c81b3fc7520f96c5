use Rattle.std.proofs.Common.{◌≡◌, ℕ, ◌<◌}
use Rattle.cube_core.specs.Assignment.{bit}
use Rattle.cube_core.specs.Cube.{agrees, each_below, literal_of}
use Rattle.cube_core.proofs.word.low_places.Given as goal

abbrev pub invariant-loop-input : goal.invariant-loop-input
invariant-loop-input l = (j : ℕ) → j < 64 → bit l.places j ≡ each_below (λ i. agrees (literal_of l.cube i) (bit j i)) l.input
