-- The lattice with a column for each cube of an on cover and a row for each cube of its off cover.
use Rattle.std.specs.Prelude.{ℕ, ◌≤◌, Bool, true, false, not, Some, None, List, length, map, All, ◌==◌, if◌then◌else◌}
use Rattle.std.specs.declared.option.Option.{Option}
use Rattle.std.specs.Bool.{beq}
use Rattle.std.specs.List.{flat_map}
use Rattle.std.specs.FinSet as set
use Rattle.cube_core.specs.Cube.{Product, IsProduct, literal_of, Meet}
use Rattle.cube_core.specs.Function.{Function}
use Rattle.cube_core.specs.Members.{complement_of}
use Rattle.cube_core.specs.Rising.{least_from}
use Rattle.cover_make.specs.Cubes.{Products}
use Rattle.cover_make.specs.Cover.{cover_of, off_cover_of}
use Rattle.lattice_grid.specs.declared.control.Control.{Control}
use Rattle.lattice_grid.specs.declared.control.Control.TheVariants.{Zero, One, Plain, Bar}
use Rattle.lattice_grid.specs.Lattice.{Lattice}
use Rattle.lattice_grid.specs.Pairs.{single}

-- whether two literals of one input want opposite values
abbrev pub are_opposite : Option Bool → Option Bool → Bool
are_opposite None other = false
are_opposite (Some wanted) None = false
are_opposite (Some wanted) (Some other) = not (beq wanted other)

-- the least input at which two cubes want opposite values
unfoldable pub clash_of : Product → Product → ℕ
clash_of c d = least_from (λ i. are_opposite (literal_of c i) (literal_of d i)) 10 0

-- the control of a literal of an input; of no literal a switch that is never on
abbrev pub control_of : Option Bool → ℕ → Control
control_of None i = Zero
control_of (Some true) i = Plain i
control_of (Some false) i = Bar i

-- the literal of the first cube at the least input at which the two clash
abbrev pub literal_against : Product → Product → Control
literal_against c d = control_of (literal_of c (clash_of c d)) (clash_of c d)

-- two lists of cubes, none of the one meets any of the other, with as many in each as a lattice has room for
pub record AreApart (ons offs : List Product) : Type 0 where
  pub apart : All (λ d. All (λ c. Meet c d → ⊥) ons) offs
  pub on_products : All IsProduct ons
  pub off_products : All IsProduct offs
  pub few_ons : length ons ≤ 1024
  pub few_offs : length offs ≤ 1024

-- one column for each cube of the first list and one row for each cube of the second, in order
abbrev pub dual_between : List Product → List Product → Lattice
dual_between ons offs = record {
  size = record { rows = length offs; cols = length ons };
  cells = flat_map (λ d. map (λ c. literal_against c d) ons) offs;
}

-- the cover of the on assignments within all that are not off
abbrev pub on_cover_of : Function → Products
on_cover_of f = record { inputs = f.inputs; cubes = cover_of f.inputs f.on (complement_of f.inputs f.off) }

-- one cell that is never on where no assignment is on, else one that is always on where none is off
abbrev pub dual_of : Function → Lattice
dual_of f =
    if set.len f.on == 0 then single Zero
    else if set.len f.off == 0 then single One
    else dual_between (on_cover_of f).cubes (off_cover_of (on_cover_of f))
