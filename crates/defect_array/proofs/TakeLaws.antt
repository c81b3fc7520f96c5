-- The lines of a text are taken.
use Rattle.std.proofs.Common.{◌≡◌, inl, ℕ, ◌+◌, ◌≤◌, Bool, true, false, cond, eqb, ltb, List, [], ◌∷◌, ◌++◌, length, refl, sym, ap, ◌∙◌, subst, arith, append_assoc, Some, None, Result, Ok, Err}
use Rattle.std.specs.Prelude.{All, IfOk, IfErr, MatchResult, unwrap_or}
use Rattle.std.specs.List.{position, position_or_len}
use Rattle.std.proofs.lemmas.List.{append-nil}
use Rattle.std.proofs.lemmas.List.Splits.{length-slice_split}
use Rattle.std.proofs.lemmas.List.Sums.{count_by-le-length, prefix_len-le-length}
use Rattle.std.proofs.lemmas.Bool.{ltb-false}
use Rattle.lattice_grid.specs.declared.array.Defect.{Defect}
use Rattle.report_text.specs.Pieces.{pieces}
use Rattle.lattice_grid.specs.Defects.{Defects}
use Rattle.lattice_grid.specs.Rectangle.{Size, IsSize}
use Rattle.report_text.proofs.Tools.{size_of_array}
use Rattle.defect_array.specs.Reading.{fault_at, IsFirstFault, AreRowsOf, Reads, Refused}
use Rattle.defect_array.specs.Rows.{Row, counted, row_of, rows_from, rows_in}
use Rattle.defect_array.specs.Taking.{HasTaken, IsSome}
use Rattle.defect_array.specs.declared.read.ArrayRefusal.{ArrayRefusal}
use Rattle.defect_array.specs.declared.read.ArrayRefusal.TheVariants.{Empty, NoMemory}
use Rattle.defect_array.proofs.RowLaws.{first_fault, rows_are_of}

-- of a text these lines are left, the first of which has this number
pub record Reached (text : List ℕ) (left : List (List ℕ)) (number width many : ℕ) (cells : List Defect) : Type 0 where
  pub rows : List Row
  pub taken : HasTaken rows width many cells
  pub all : rows_in text ≡ rows ++ rows_from number left
  pub narrow : width ≤ 16
  pub room : number + length left ≡ 1 + length (pieces 10 text)

pub reached_none : (text : List ℕ) (width many : ℕ) (cells : List Defect) → HasTaken [] width many cells → width ≤ 16 → Reached text (pieces 10 text) 1 width many cells
reached_none text width many cells h narrow = record { rows = []; taken = h; all = refl; narrow = narrow; room = refl }

module _ (text line : List ℕ) (left left' : List (List ℕ)) (number width many : ℕ) (cells : List Defect) (h : Reached text left number width many cells) (is : left ≡ line ∷ left') where
  split : rows_in text ≡ h.rows ++ (row_of number (counted line) ++ rows_from (number + 1) left')
  split = h.all ∙ ap (λ w. h.rows ++ rows_from number w) is

  pub reached_more : (width' many' : ℕ) (cells' : List Defect) → HasTaken (h.rows ++ row_of number (counted line)) width' many' cells' → width' ≤ 16 → Reached text left' (number + 1) width' many' cells'
  reached_more width' many' cells' taken narrow = record {
    rows = h.rows ++ row_of number (counted line);
    taken = taken;
    all = split ∙ sym (append_assoc h.rows (row_of number (counted line)) (rows_from (number + 1) left'));
    narrow = narrow;
    room = (let r = h.room in let l = ap length is in omega (arith, r, l));
  }

  pub reached_fault : (next : Row) (refusal : ArrayRefusal) → row_of number (counted line) ≡ next ∷ [] → fault_at (h.rows ++ next ∷ []) (length h.rows) ≡ Some refusal → IsFirstFault (rows_in text) refusal
  reached_fault next refusal one fault = first_fault (rows_in text) h.rows next (rows_from (number + 1) left') width many cells refusal (split ∙ ap (λ w. h.rows ++ (w ++ rows_from (number + 1) left')) one) h.taken fault

pub reached_all : (text : List ℕ) (number width many : ℕ) (cells : List Defect) → Reached text [] number width many cells → HasTaken (rows_in text) width many cells
reached_all text number width many cells h = subst (λ rows. HasTaken rows width many cells) (sym (h.all ∙ append-nil h.rows)) h.taken

-- there is no more than one line more than bytes
pub few_lines : (text : List ℕ) → length (pieces 10 text) ≤ length text + 1
few_lines text =
    let many = length-slice_split (λ b. eqb b 10) text in
    let few = count_by-le-length (λ b. eqb b 10) text in
    omega (arith, many, few)

-- ---- what is read

pub read_ok : (text : List ℕ) (r : Result Defects ArrayRefusal) → MatchResult r (AreRowsOf (rows_in text)) (λ refusal. (rows_in text ≡ []) × (refusal ≡ Empty)) → IfOk r (Reads text)
read_ok text (Ok a) h = h
read_ok text (Err e) h = tt

pub read_err : (text : List ℕ) (r : Result Defects ArrayRefusal) → MatchResult r (AreRowsOf (rows_in text)) (λ refusal. (rows_in text ≡ []) × (refusal ≡ Empty)) → IfErr r (λ refusal. (refusal ≡ NoMemory → ⊥) → Refused text refusal)
read_err text (Ok a) h = tt
read_err text (Err e) h = λ other. inl h

-- ---- where there is no array

abbrev pub array_with : Size → List Defect → Defects
array_with s cells = record { size = s; cells = cells }

pub no_shape : (rows : List Row) (width many : ℕ) (cells : List Defect) → All IsSome rows → HasTaken rows width many cells → (IsSize (record { rows = many; cols = width }) → ⊥) → rows ≡ []
no_shape [] width many cells some h none = refl
no_shape (row ∷ rows) width many cells some h none = absurd (none (size_of_array (record { size = record { rows = many; cols = width }; cells = cells }) (rows_are_of (row ∷ rows) width many cells some h (let m = h.many_are in omega (arith, m))).array))

pub whole_array : (rows : List Row) (width many : ℕ) (cells : List Defect) → All IsSome rows → HasTaken rows width many cells → 1 ≤ many → AreRowsOf rows (record { size = record { rows = many; cols = width }; cells = cells })
whole_array rows width many cells some h has = rows_are_of rows width many cells some h (omega (arith, has))

-- ---- the first place, or the length

place_few : (p : ℕ → Bool) (xs : List ℕ) → position_or_len p xs ≤ length xs
place_few p xs = prefix_len-le-length _ xs

pub unwrap_position : (p : ℕ → Bool) (xs : List ℕ) → unwrap_or (position p xs) (length xs) ≡ position_or_len p xs
unwrap_position p xs = by_test (ltb (position_or_len p xs) (length xs)) refl where
  by_test : (b : Bool) → ltb (position_or_len p xs) (length xs) ≡ b → unwrap_or (cond b (Some (position_or_len p xs)) None) (length xs) ≡ position_or_len p xs
  by_test true e = refl
  by_test false e = let most = place_few p xs in let least = ltb-false (position_or_len p xs) (length xs) e in omega (arith, most, least)
