-- The formula whose solutions are the lattices of a size that realise a function.
use Rattle.std.specs.Prelude.{◌≡◌, ℕ, ◌+◌, ◌-◌, ◌*◌, ◌/◌, ◌%◌, ◌^◌, ◌≤◌, Bool, true, false, not, List, [], ◌∷◌, ◌++◌, length, map, slice_index, slice_index_or, if◌then◌else◌, IfSome}
use Rattle.std.specs.declared.option.Option.{Option}
use Rattle.std.specs.List.{flat_map, range_with_len}
use Rattle.std.specs.FinSet as set
use Rattle.cube_core.specs.Function.{Function, IsFunction}
use Rattle.cube_core.specs.Rising.{rising}
use Rattle.clause_core.specs.Literal.{Literal}
use Rattle.clause_core.specs.Formula.{Formula, Satisfies}
use Rattle.lattice_grid.specs.declared.array.Defect.{Defect}
use Rattle.lattice_grid.specs.declared.array.Defect.TheVariants.{Sound, StuckOpen, StuckClosed}
use Rattle.lattice_grid.specs.declared.control.Control.{Control}
use Rattle.lattice_grid.specs.declared.control.Control.TheVariants.{Zero}
use Rattle.lattice_grid.specs.declared.shape.Place.{Place}
use Rattle.lattice_grid.specs.Control.{value_of}
use Rattle.lattice_grid.specs.Defects.{Defects}
use Rattle.lattice_grid.specs.Neighbours.{four_of, eight_of}
use Rattle.lattice_grid.specs.Rails.{controls_of}
use Rattle.lattice_grid.specs.Rectangle.{Size, IsSize}
use Rattle.path_meaning.specs.Defective.{defect_in}

-- what is asked for: a lattice of this size and of allowed literals that realises the function, on an array with these defects, or on none
pub record Question : Type 0 where
  pub function : Function
  pub rails : ℕ
  pub size : Size
  pub array : Option Defects

-- a function, a size of at most 32,768 cells, and an array of this size
pub record IsQuestion (q : Question) : Type 0 where
  pub function : IsFunction q.function
  pub size : IsSize q.size
  pub few : q.size.rows * q.size.cols ≤ 32768
  pub array : IfSome q.array (λ a. a.size ≡ q.size)

-- the numbers below n, rising
abbrev pub below : ℕ → List ℕ
below n = range_with_len 0 n

-- the assignments at which the function is 1 or 0, rising, and the one of a number
abbrev pub asked : Question → List ℕ
asked q = rising (2 ^ q.function.inputs) (set.union q.function.on q.function.off)

abbrev pub asked_at : Question → ℕ → ℕ
asked_at q t = slice_index (asked q) t

-- the controls that may stand, `0`, `1` and the allowed literals, and the one of a number
abbrev pub controls : Question → List Control
controls q = controls_of q.function.inputs q.rails

abbrev pub control_of : Question → ℕ → Control
control_of q c = slice_index_or (controls q) c Zero

-- how many cells, controls and assignments there are
abbrev pub cells_of : Question → ℕ
cells_of q = q.size.rows * q.size.cols

abbrev pub many_controls : Question → ℕ
many_controls q = length (controls q)

abbrev pub many_asked : Question → ℕ
many_asked q = length (asked q)

-- The variables, from 1 on: that control c stands at cell p, that cell p is on at assignment t, and that cell p is marked there.
abbrev pub choice : Question → ℕ → ℕ → ℕ
choice q p c = p * many_controls q + c + 1

abbrev pub value : Question → ℕ → ℕ → ℕ
value q p t = cells_of q * many_controls q + t * cells_of q + p + 1

abbrev pub mark : Question → ℕ → ℕ → ℕ
mark q p t = cells_of q * many_controls q + many_asked q * cells_of q + t * cells_of q + p + 1

-- the place of a cell that is counted row by row, and the number of a place
abbrev pub place_of : Size → ℕ → Place
place_of s p = record { row = p / s.cols; col = p % s.cols }

abbrev pub number_of : Size → Place → ℕ
number_of s p = p.row * s.cols + p.col

-- a variable and its complement
abbrev pub yes : ℕ → Literal
yes var = record { var = var; negated = false }

abbrev pub no : ℕ → Literal
no var = record { var = var; negated = true }

-- cell p is on at assignment t, or is not
abbrev pub is_valued : Question → Bool → ℕ → ℕ → Literal
is_valued q on p t = record { var = value q p t; negated = not on }

-- Some control stands at each cell.
abbrev pub choices : Question → List (List Literal)
choices q = map (λ p. map (λ c. yes (choice q p c)) (below (many_controls q))) (below (cells_of q))

-- A sound cell is on as each control that stands there says; a stuck one never, or always.
abbrev pub values_with : Question → Defect → ℕ → List (List Literal)
values_with q Sound p =
    flat_map (λ c. map (λ t. no (choice q p c) ∷ is_valued q (value_of (control_of q c) (asked_at q t)) p t ∷ []) (below (many_asked q))) (below (many_controls q))
values_with q StuckOpen p = map (λ t. is_valued q false p t ∷ []) (below (many_asked q))
values_with q StuckClosed p = map (λ t. is_valued q true p t ∷ []) (below (many_asked q))

abbrev pub values : Question → List (List Literal)
values q = flat_map (λ p. values_with q (defect_in q.array (place_of q.size p)) p) (below (cells_of q))

-- At assignment t the marks hold the cells at the start whose value lets through, and with each cell those next to it whose value is; and none at the end.
abbrev pub closed_marks : Question → ℕ → Bool → List ℕ → (ℕ → List ℕ) → List ℕ → List (List Literal)
closed_marks q t through start next end =
    map (λ p. is_valued q (not through) p t ∷ yes (mark q p t) ∷ []) start
    ++ (flat_map (λ p. map (λ r. no (mark q p t) ∷ is_valued q (not through) r t ∷ yes (mark q r t) ∷ []) (next p)) (below (cells_of q))
    ++ map (λ p. no (mark q p t) ∷ []) end)

-- the numbers of the cells of each side, and of the neighbours of a cell
abbrev pub top : Size → List ℕ
top s = below s.cols

abbrev pub bottom : Size → List ℕ
bottom s = map (λ col. (s.rows - 1) * s.cols + col) (below s.cols)

abbrev pub left : Size → List ℕ
left s = map (λ row. row * s.cols) (below s.rows)

abbrev pub right : Size → List ℕ
right s = map (λ row. row * s.cols + (s.cols - 1)) (below s.rows)

abbrev pub next_four : Size → ℕ → List ℕ
next_four s p = map (number_of s) (four_of s (place_of s p))

abbrev pub next_eight : Size → ℕ → List ℕ
next_eight s p = map (number_of s) (eight_of s (place_of s p))

-- Where the function is 1 no cut leads from left to right; where it is 0 no path leads from top to bottom.
abbrev pub marks_at : Question → ℕ → List (List Literal)
marks_at q t =
    if set.contains q.function.on (asked_at q t) then closed_marks q t false (left q.size) (next_eight q.size) (right q.size)
    else closed_marks q t true (top q.size) (next_four q.size) (bottom q.size)

abbrev pub marks : Question → List (List Literal)
marks q = flat_map (marks_at q) (below (many_asked q))

-- the formula
unfoldable pub encoding : Question → Formula
encoding q = record { vars = cells_of q * (many_controls q + 2 * many_asked q); clauses = choices q ++ (values q ++ marks q) }

-- Some truth values make every clause true.
abbrev pub HasSolution : Formula → Type 0
HasSolution f = (v : ℕ → Bool) × Satisfies v f
