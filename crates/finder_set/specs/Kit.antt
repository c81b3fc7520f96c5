-- What is seen of the finders of the kit.
use Rattle.std.specs.Prelude.{ℕ, ◌+◌, ◌-◌, ◌^◌, min}
use Rattle.std.specs.declared.option.Option.{Option}
use Rattle.lattice_grid.specs.Lattice.{Lattice}

-- for how many proposals a finder may still be asked, how often it was begun, and the proposal that it has ready
pub record Turn : Type 0 where
  pub left : ℕ
  pub begun : ℕ
  pub ready : Option Lattice

-- one call more, up to the greatest `u64`
abbrev pub one_more : ℕ → ℕ
one_more calls = min (calls + 1) (2 ^ 64 - 1)
