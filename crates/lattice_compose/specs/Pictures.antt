-- Which control is put at each place of a new lattice. What the lattice then is stands in Either, Both and Without.
use Rattle.std.specs.Prelude.{ℕ, ◌+◌, ◌-◌, ◌&&◌, nat_lt, if◌then◌else◌}
use Rattle.lattice_grid.specs.declared.control.Control.{Control}
use Rattle.lattice_grid.specs.declared.control.Control.TheVariants.{Zero, One}
use Rattle.lattice_grid.specs.declared.shape.Place.{Place}
use Rattle.lattice_grid.specs.Lattice.{Lattice, control_at}

-- the control at a place, and outside of the lattice another one
abbrev pub control_or : Lattice → Control → Place → Control
control_or g outside p = if nat_lt p.row g.size.rows && nat_lt p.col g.size.cols then control_at g p else outside

-- what stands side by side
abbrev pub control_beside : Lattice → Lattice → Place → Control
control_beside a b p =
    if nat_lt p.col a.size.cols then control_or a One p
    else (if nat_lt a.size.cols p.col then control_or b One (record { row = p.row; col = p.col - a.size.cols - 1 }) else Zero)

-- what stands one under the other
abbrev pub control_stacked : Lattice → Lattice → Place → Control
control_stacked a b p =
    if nat_lt p.row a.size.rows then control_or a Zero p
    else (if nat_lt a.size.rows p.row then control_or b Zero (record { row = p.row - a.size.rows - 1; col = p.col }) else One)

-- a number that passes over one
abbrev pub passing : ℕ → ℕ → ℕ
passing over n = if nat_lt n over then n else n + 1

abbrev pub control_without_row : Lattice → ℕ → Place → Control
control_without_row a row p = control_at a (record { row = passing row p.row; col = p.col })

abbrev pub control_without_col : Lattice → ℕ → Place → Control
control_without_col a col p = control_at a (record { row = p.row; col = passing col p.col })
