-- The lattice that a valuation chooses.
use Rattle.std.proofs.Common.{◌≡◌, ℕ, ◌+◌, ◌*◌, ◌≤◌, ◌<◌, Bool, true, false, List, [], ◌∷◌, ◌++◌, length, get_or, map, Option, Some, sym, ap, ◌∙◌, subst, arith}
use Rattle.std.specs.Option.{SomeIff}
use Rattle.std.proofs.lemmas.List.Elements.{All-map}
use Rattle.std.proofs.lemmas.List.FromFn.{length-map-range_with_len, map-range_with_len_more}
use Rattle.std.proofs.lemmas.Nat.{mul-le, row_fits}
use Rattle.clause_core.specs.Formula.{value_in, IsSatisfiedBy}
use Rattle.lattice_grid.specs.declared.control.Control.{Control}
use Rattle.lattice_grid.specs.declared.control.Control.TheVariants.{Zero}
use Rattle.lattice_grid.specs.Lattice.{Lattice}
use Rattle.lattice_grid.specs.Rails.{MayStand, IsOverRails, controls_of}
use Rattle.lattice_grid.specs.Rectangle.{Size}
use Rattle.lattice_grid.proofs.Tools.{least_from-first, control_at_number, MayStand-NamesBelow}
use Rattle.std.specs.Prelude.{All}
use Rattle.lattice_grid.specs.Control.{NamesBelow}
use Rattle.path_meaning.specs.Defective.{RealisesIn}
use Rattle.reach_encoding.specs.Encoding.{Question, IsQuestion, controls, many_controls, asked, below, encoding}
use Rattle.reach_encoding.specs.Solved.{lattice_read}
use Rattle.reach_encoding.specs.Decode.{is_chosen, ChoosesAt, chosen_in, chosen_lattice, IsAskedOf, IsChoosing}
use Rattle.reach_encoding.proofs.EncodingLaws.{parts_from_satisfied}
use Rattle.reach_encoding.proofs.ReadLaws.{least_from-below, some_chosen, read_as_lattice}

-- a solution of the formula has the variables of the choices, and chooses some control at each cell
pub chooses_from_satisfied : IsChoosing
unfolding encoding
chooses_from_satisfied q values ok h = record {
  wide = omega (arith, mul-le (q.size.rows * q.size.cols) (many_controls q) (q.size.rows * q.size.cols) (many_controls q + 2 * length (asked q)) (omega arith) (omega arith), h.wide);
  some = some_chosen q (value_in values) ok (parts_from_satisfied q (value_in values) h.satisfies);
}

-- before a cell there are few variables
pub few_before : (cell controls : ℕ) → cell < 1048576 → controls ≤ 22 → cell * controls ≤ 23068672
few_before cell controls p q = mul-le cell controls 1048576 22 (omega arith) q

-- the variables of a cell end where those of the next one begin
pub room_after : (cell cells controls : ℕ) → cell < cells → cell * controls + controls ≤ cells * controls
room_after cell cells controls h = row_fits cell controls cells controls h (omega arith)

-- the first number that passes, after others that don't
pub chosen_in-first : (many : ℕ) (values : List Bool) (p c : ℕ) → c < many → is_chosen many values p c ≡ true → ((d : ℕ) → d < c → is_chosen many values p d ≡ false) → c ≡ chosen_in many values p
chosen_in-first many values p c below here before = sym (least_from-first (is_chosen many values p) many 0 c (omega arith) (omega arith) here before)

-- the first chosen control is one of them
pub chosen_in-below : (many : ℕ) (values : List Bool) (p : ℕ) → ChoosesAt many values p → chosen_in many values p < many
chosen_in-below many values p some = (least_from-below (is_chosen many values p) many some.0 some.1 some.2).below

-- the chosen controls may stand
pub All-chosen : (n rails : ℕ) (s : Size) (values : List Bool) → IsOverRails n rails (chosen_lattice (controls_of n rails) s values)
All-chosen n rails s values = All-map (MayStand n rails) (λ p. get_or (controls_of n rails) (chosen_in (length (controls_of n rails)) values p) Zero) (below (s.rows * s.cols))
    (λ k d within. control_at_number n rails (chosen_in (length (controls_of n rails)) values (get_or (below (s.rows * s.cols)) k d)))

-- is the one that is read for each question of these inputs, rails and size
pub read_is : (n rails : ℕ) (s : Size) (values : List Bool) (q : Question) → IsAskedOf n rails s q → chosen_lattice (controls_of n rails) s values ≡ lattice_read q (value_in values)
read_is n rails s values q h =
    ap (λ k. chosen_lattice (controls_of k rails) s values) (sym h.inputs_are) ∙ ap (λ r. chosen_lattice (controls_of q.function.inputs r) s values) (sym h.rails_are)
    ∙ ap (λ z. chosen_lattice (controls q) z values) (sym h.size_is)

pub realises_chosen : (n rails : ℕ) (s : Size) (values : List Bool) (q : Question) → IsAskedOf n rails s q → IsQuestion q → IsSatisfiedBy values (encoding q) → RealisesIn (chosen_lattice (controls_of n rails) s values) q.function q.array
realises_chosen n rails s values q h ok sat = subst (λ g. RealisesIn g q.function q.array) (sym (read_is n rails s values q h)) (read_as_lattice q (value_in values) ok sat.satisfies).realises

-- one cell more
pub controls_more : (allowed : List Control) (values : List Bool) (old new : List Control) (p : ℕ) (c : Control) → old ≡ map (λ p. get_or allowed (chosen_in (length allowed) values p) Zero) (below p) → c ≡ get_or allowed (chosen_in (length allowed) values p) Zero → new ≡ old ++ c ∷ [] → new ≡ map (λ p. get_or allowed (chosen_in (length allowed) values p) Zero) (below (p + 1))
controls_more allowed values old new p c before is now =
    now ∙ ap (λ cs. cs ++ c ∷ []) before ∙ ap (λ k. map (λ p. get_or allowed (chosen_in (length allowed) values p) Zero) (below p) ++ k ∷ []) is
    ∙ sym (map-range_with_len_more (λ p. get_or allowed (chosen_in (length allowed) values p) Zero) 0 p p (omega arith))

-- as many as there are cells
pub length-chosen : (allowed : List Control) (s : Size) (values : List Bool) (cells : List Control) → cells ≡ (chosen_lattice allowed s values).cells → length cells ≡ s.rows * s.cols
length-chosen allowed s values cells e = ap length e ∙ length-map-range_with_len (λ p. get_or allowed (chosen_in (length allowed) values p) Zero) 0 (s.rows * s.cols)

abbrev of_cells : Size → List Control → Lattice
of_cells s cells = record { size = s; cells = cells }

-- a grid of these cells
pub grid_is : (allowed : List Control) (s : Size) (values : List Bool) (cells : List Control) (grid : Lattice) (made : Option Lattice) → cells ≡ (chosen_lattice allowed s values).cells → SomeIff made (length cells ≡ s.rows * s.cols) (record { size = s; cells = cells }) → made ≡ Some grid → grid ≡ chosen_lattice allowed s values
grid_is allowed s values cells grid made e iff is =
    let whole : Lattice = record { size = s; cells = cells } in
    let made' : (length cells ≡ s.rows * s.cols) × (grid ≡ whole) = subst (λ o. SomeIff o (length cells ≡ s.rows * s.cols) whole) is iff in
    made'.1 ∙ ap (of_cells s) e

-- the cells that the code reads, from a list that is the controls'
pub cells_read : (n rails : ℕ) (s : Size) (values : List Bool) (read cells : List Control) → read ≡ controls_of n rails → cells ≡ (chosen_lattice read s values).cells → cells ≡ (chosen_lattice (controls_of n rails) s values).cells
cells_read n rails s values read cells e is = is ∙ ap (λ xs. (chosen_lattice xs s values).cells) e

pub names_read : (n rails : ℕ) (s : Size) (values : List Bool) (cells : List Control) → n ≤ 10 → cells ≡ (chosen_lattice (controls_of n rails) s values).cells → All (NamesBelow 10) cells
names_read n rails s values cells few e = subst (All (NamesBelow 10)) (sym e) (MayStand-NamesBelow n rails few (chosen_lattice (controls_of n rails) s values).cells (All-chosen n rails s values))
