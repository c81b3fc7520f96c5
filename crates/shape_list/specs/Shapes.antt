-- Which shapes fit inside which, and the stair of the largest shapes of an area.
use Rattle.std.specs.Prelude.{◌≡◌, ◌↔◌, ℕ, ◌*◌, ◌<◌, ◌≤◌, List, Any, length, slice_index_or}
use Rattle.std.specs.List.{Contains}
use Rattle.lattice_grid.specs.Rectangle.{Size, IsSize, FitsInside}

-- how many cells a shape has
abbrev pub area_of : Size → ℕ
area_of s = s.rows * s.cols

-- The shape fits inside some shape of the list.
abbrev pub IsHeld : List Size → Size → Type 0
IsHeld members s = Any (FitsInside s) members

-- Each shape of smaller area fits inside some shape of the list.
abbrev pub IsCoveredBelow : List Size → ℕ → Type 0
IsCoveredBelow members area = (s : Size) → IsSize s → area_of s < area → IsHeld members s

-- A shape of at most this area that fits inside no other such shape.
pub record IsStep (area : ℕ) (s : Size) : Type 0 where
  pub kept : IsSize s
  pub small : area_of s ≤ area
  pub largest : (t : Size) → IsSize t → area_of t ≤ area → FitsInside s t → t ≡ s

-- The list has exactly these shapes, and their rows rise.
pub record IsStair (area : ℕ) (shapes : List Size) : Type 0 where
  pub steps : (s : Size) → Contains shapes s ↔ IsStep area s
  pub rises : (i j : ℕ) (d : Size) → i < j → j < length shapes → (slice_index_or shapes i d).rows < (slice_index_or shapes j d).rows
