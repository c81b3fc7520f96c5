-- The cells of each side of a rectangle and the neighbours of a cell, by their numbers.
use Rattle.std.proofs.Common.{◌≡◌, ◌+◌, ◌-◌, ◌*◌, ◌<◌, List, map, refl, arith}
use Rattle.std.specs.List.{All, Contains}
use Rattle.std.proofs.lemmas.List.Elements.{All-contains_itself, All-weaker}
use Rattle.lattice_grid.specs.declared.shape.Place.{Place}
use Rattle.lattice_grid.specs.Neighbours.{four_of, eight_of, HasNeighbours}
use Rattle.lattice_grid.specs.Path.{AreFourNeighbours, AreEightNeighbours}
use Rattle.lattice_grid.specs.Rectangle.{Size, IsSize}
use Rattle.lattice_grid.proofs.Tools.{four_neighbours, eight_neighbours}
use Rattle.reach_encoding.specs.Encoding.{place_of, number_of, top, bottom, left, right}
use Rattle.reach_encoding.proofs.ModelLists.{All-below, All-map_of, All-map_below}
use Rattle.reach_encoding.proofs.ModelNumbers.{cell_numbered}

pub left_cells : (s : Size) → IsSize s → All (λ p. (p < s.rows * s.cols) × ((place_of s p).col ≡ 0)) (left s)
left_cells s size = let some = size.some_cols in All-map_below (λ p. (p < s.rows * s.cols) × ((place_of s p).col ≡ 0)) (λ row. row * s.cols) s.rows
    (λ row within. cell_numbered s (λ p. p.col ≡ 0) (record { row = row; col = 0 }) (row * s.cols) (within, some) (omega arith) refl)

pub right_cells : (s : Size) → IsSize s → All (λ p. (p < s.rows * s.cols) × ((place_of s p).col + 1 ≡ s.cols)) (right s)
right_cells s size = let some = size.some_cols in All-map_below (λ p. (p < s.rows * s.cols) × ((place_of s p).col + 1 ≡ s.cols)) (λ row. row * s.cols + (s.cols - 1)) s.rows
    (λ row within. cell_numbered s (λ p. p.col + 1 ≡ s.cols) (record { row = row; col = s.cols - 1 }) (row * s.cols + (s.cols - 1)) (within, omega arith) refl (omega arith))

pub top_cells : (s : Size) → IsSize s → All (λ p. (p < s.rows * s.cols) × ((place_of s p).row ≡ 0)) (top s)
top_cells s size = let some = size.some_rows in All-weaker (λ p. p < s.cols) (λ p. (p < s.rows * s.cols) × ((place_of s p).row ≡ 0))
    (λ col within. cell_numbered s (λ p. p.row ≡ 0) (record { row = 0; col = col }) col (some, within) (omega arith) refl) (top s) (All-below s.cols)

pub bottom_cells : (s : Size) → IsSize s → All (λ p. (p < s.rows * s.cols) × ((place_of s p).row + 1 ≡ s.rows)) (bottom s)
bottom_cells s size = let some = size.some_rows in All-map_below (λ p. (p < s.rows * s.cols) × ((place_of s p).row + 1 ≡ s.rows)) (λ col. (s.rows - 1) * s.cols + col) s.cols
    (λ col within. cell_numbered s (λ p. p.row + 1 ≡ s.rows) (record { row = s.rows - 1; col = col }) ((s.rows - 1) * s.cols + col) (omega arith, within) refl (omega arith))

-- the numbers of the cells of a list that has the neighbours of a place
pub numbered_cells : (R : Place → Place → Type 0) (s : Size) (at : Place) (places : List Place) → HasNeighbours R s at places
    → All (λ r. (r < s.rows * s.cols) × R at (place_of s r)) (map (number_of s) places)
numbered_cells R s at places has = All-map_of (λ r. (r < s.rows * s.cols) × R at (place_of s r)) (Contains places) (number_of s)
    (λ there here. let near = (has there).0 here in cell_numbered s (R at) there (number_of s there) near.0 refl near.1) places (All-contains_itself places)

pub four_cells : (s : Size) (at : Place) → All (λ r. (r < s.rows * s.cols) × AreFourNeighbours at (place_of s r)) (map (number_of s) (four_of s at))
four_cells s at = numbered_cells AreFourNeighbours s at (four_of s at) (four_neighbours s at)

pub eight_cells : (s : Size) (at : Place) → All (λ r. (r < s.rows * s.cols) × AreEightNeighbours at (place_of s r)) (map (number_of s) (eight_of s at))
eight_cells s at = numbered_cells AreEightNeighbours s at (eight_of s at) (eight_neighbours s at)
