-- The lattice with one column for each on assignment.
use Rattle.std.specs.Prelude.{◌≡◌, ◌≢◌, ℕ, ◌+◌, ◌*◌, ◌^◌, ◌<◌, List, length, slice_index, if◌then◌else◌}
use Rattle.cube_core.specs.Assignment.{bit}
use Rattle.cube_core.specs.Function.{Function}
use Rattle.cube_core.specs.Rising.{rising}
use Rattle.lattice_grid.specs.declared.control.Control.{Control}
use Rattle.lattice_grid.specs.declared.control.Control.TheVariants.{Zero, One, Plain, Bar}
use Rattle.lattice_grid.specs.declared.start.Start.TheVariants.{Lacking}
use Rattle.lattice_grid.specs.Lattice.{Lattice, control_at}
use Rattle.lattice_grid.specs.Rails.{is_allowed}
use Rattle.lattice_grid.specs.Start.{pairs_over}

-- the literal of input i that is 1 at x
abbrev pub literal_at : ℕ → ℕ → Control
literal_at x i = if bit x i then Plain i else Bar i

-- that literal where it is allowed, and `1` otherwise
abbrev pub literal_or_one : ℕ → ℕ → ℕ → Control
literal_or_one rails x i = if is_allowed rails (literal_at x i) then literal_at x i else One

-- the on assignments, rising
abbrev pub ons_of : Function → List ℕ
ons_of f = rising (2 ^ f.inputs) f.on

-- One row for each input, and one column for each on assignment, rising, with a column of `0` between neighbours; the cell
-- of an input in the column of an assignment is the input's literal that is 1 there, where it is allowed, and `1` otherwise.
pub record IsColumns (f : Function) (rails : ℕ) (g : Lattice) : Type 0 where
  pub rows : g.size.rows ≡ f.inputs
  pub cols : g.size.cols + 1 ≡ 2 * length (ons_of f)
  pub column : (i k : ℕ) → i < f.inputs → k < length (ons_of f) → control_at g (record { row = i; col = 2 * k }) ≡ literal_or_one rails (slice_index (ons_of f) k) i
  pub between : (i k : ℕ) → i < f.inputs → k + 1 < length (ons_of f) → control_at g (record { row = i; col = 2 * k + 1 }) ≡ Zero

-- No pair is lacking.
abbrev pub IsNotLacking : Function → ℕ → Type 0
IsNotLacking f rails = (x y : ℕ) → pairs_over f rails ≢ Lacking x y
