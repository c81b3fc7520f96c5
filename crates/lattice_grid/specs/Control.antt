-- What a switch's control says at an assignment.
use Rattle.std.specs.Prelude.{ℕ, ◌<◌, Bool, true, false, not}
use Rattle.cube_core.specs.Assignment.{bit}
use Rattle.lattice_grid.specs.declared.control.Control.{Control}
use Rattle.lattice_grid.specs.declared.control.Control.TheVariants.{Zero, One, Plain, Bar}

-- the value of a control at an assignment
abbrev pub value_of : Control → ℕ → Bool
value_of Zero x = false
value_of One x = true
value_of (Plain i) x = bit x i
value_of (Bar i) x = not (bit x i)

-- A literal's input is below n.
abbrev pub NamesBelow : ℕ → Control → Type 0
NamesBelow n Zero = Unit {0}
NamesBelow n One = Unit {0}
NamesBelow n (Plain i) = i < n
NamesBelow n (Bar i) = i < n
