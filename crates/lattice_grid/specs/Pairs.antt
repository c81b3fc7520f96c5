-- The lattice with a column for each on assignment and a row for each off assignment.
use Rattle.std.specs.Prelude.{ℕ, ◌^◌, not, List, [], ◌∷◌, if◌then◌else◌}
use Rattle.std.specs.Bool.{beq}
use Rattle.cube_core.specs.Assignment.{bit}
use Rattle.cube_core.specs.Function.{Function}
use Rattle.cube_core.specs.Rising.{rising, least_from}
use Rattle.lattice_grid.specs.declared.control.Control.{Control}
use Rattle.lattice_grid.specs.declared.control.Control.TheVariants.{Zero, One, Plain, Bar}
use Rattle.lattice_grid.specs.Lattice.{Lattice}
use Rattle.lattice_grid.specs.Told.{told_lattice}

-- the least input on which two assignments differ
unfoldable pub least_difference : ℕ → ℕ → ℕ
least_difference x y = least_from (λ i. not (beq (bit x i) (bit y i))) 10 0

-- the literal of that input that is 1 at x
abbrev pub telling : ℕ → ℕ → Control
telling x y = if bit x (least_difference x y) then Plain (least_difference x y) else Bar (least_difference x y)

-- a lattice of one cell
abbrev pub single : Control → Lattice
single control = record { size = record { rows = 1; cols = 1 }; cells = control ∷ [] }

-- for on assignments and off assignments in order
abbrev pub pairs_between : List ℕ → List ℕ → Lattice
pairs_between [] offs = single Zero
pairs_between (x ∷ ons) [] = single One
pairs_between (x ∷ ons) (y ∷ offs) = told_lattice telling (x ∷ ons) (y ∷ offs)

abbrev pub pairs_of : Function → Lattice
pairs_of f = pairs_between (rising (2 ^ f.inputs) f.on) (rising (2 ^ f.inputs) f.off)
