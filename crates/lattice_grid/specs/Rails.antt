-- Which literals are allowed in a lattice.
use Rattle.std.specs.Prelude.{ℕ, ◌+◌, ◌*◌, ◌<◌, Bool, true, IsTrue, List, [], ◌∷◌, All}
use Rattle.std.specs.List.{filter, flat_map, range_with_len}
use Rattle.cube_core.specs.Assignment.{bit}
use Rattle.lattice_grid.specs.declared.control.Control.{Control}
use Rattle.lattice_grid.specs.declared.control.Control.TheVariants.{Zero, One, Plain, Bar}
use Rattle.lattice_grid.specs.Control.{NamesBelow}
use Rattle.lattice_grid.specs.Lattice.{Lattice}

-- Whether rails allow a control: bit 2i allows input i, bit 2i + 1 its complement; constants are always allowed.
abbrev pub is_allowed : ℕ → Control → Bool
is_allowed rails Zero = true
is_allowed rails One = true
is_allowed rails (Plain i) = bit rails (2 * i)
is_allowed rails (Bar i) = bit rails (2 * i + 1)

-- A literal that may stand names an input below n and is allowed; a constant may always stand.
abbrev pub MayStand : ℕ → ℕ → Control → Type 0
MayStand n rails c = NamesBelow n c × IsTrue (is_allowed rails c)

-- Each control of the lattice may stand: it is over the inputs below n and over the rails.
abbrev pub IsOverRails : ℕ → ℕ → Lattice → Type 0
IsOverRails n rails g = All (MayStand n rails) g.cells

-- Each literal of the inputs below n is allowed.
abbrev pub IsFull : ℕ → ℕ → Type 0
IsFull n rails = (i : ℕ) → i < n → IsTrue (is_allowed rails (Plain i)) × IsTrue (is_allowed rails (Bar i))

-- the literals of the inputs below n: `x0`, `x0'`, `x1`, `x1'`, ..
abbrev pub literals_below : ℕ → List Control
literals_below n = flat_map (λ i. Plain i ∷ Bar i ∷ []) (range_with_len 0 n)

-- those of them that are allowed
abbrev pub literals_of : ℕ → ℕ → List Control
literals_of n rails = filter (is_allowed rails) (literals_below n)

-- the controls that may stand: `0`, `1`, and the allowed literals
unfoldable pub controls_of : ℕ → ℕ → List Control
controls_of n rails = Zero ∷ One ∷ literals_of n rails
