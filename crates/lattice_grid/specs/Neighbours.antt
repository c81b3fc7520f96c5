-- The neighbours of a cell, in the order in which one reads.
use Rattle.std.specs.Prelude.{◌↔◌, ℕ, ◌+◌, ◌-◌, ◌&&◌, Bool, nat_lt, List, [], ◌∷◌, ◌++◌, if◌then◌else◌}
use Rattle.std.specs.List.{Contains}
use Rattle.lattice_grid.specs.declared.shape.Place.{Place}
use Rattle.lattice_grid.specs.Rectangle.{Size}
use Rattle.lattice_grid.specs.Path.{IsWithin}

-- so many rows below and so many columns right of the cell up left of p
abbrev pub near_cell : Place → ℕ → ℕ → Place
near_cell p down right = record { row = p.row + down - 1; col = p.col + right - 1 }

-- whether the rectangle has that cell
abbrev pub has_near : Size → Place → ℕ → ℕ → Bool
has_near s p down right = (nat_lt 0 (p.row + down) && nat_lt (p.row + down) (s.rows + 1)) && (nat_lt 0 (p.col + right) && nat_lt (p.col + right) (s.cols + 1))

-- that cell, where the rectangle has it
abbrev pub near_of : Size → Place → ℕ → ℕ → List Place
near_of s p down right = if has_near s p down right then near_cell p down right ∷ [] else []

-- up, left, right, down, where the rectangle has them
abbrev pub four_of : Size → Place → List Place
four_of s p = near_of s p 0 1 ++ near_of s p 1 0 ++ near_of s p 1 2 ++ near_of s p 2 1

-- up left, up, up right, left, right, down left, down, down right, where the rectangle has them
abbrev pub eight_of : Size → Place → List Place
eight_of s p =
    near_of s p 0 0 ++ near_of s p 0 1 ++ near_of s p 0 2
    ++ near_of s p 1 0 ++ near_of s p 1 2
    ++ near_of s p 2 0 ++ near_of s p 2 1 ++ near_of s p 2 2

-- The list has exactly the cells of the rectangle that are neighbours of p.
abbrev pub HasNeighbours : (Place → Place → Type 0) → Size → Place → List Place → Type 0
HasNeighbours R s p places = (q : Place) → Contains places q ↔ (IsWithin s q × R p q)
