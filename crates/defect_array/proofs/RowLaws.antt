-- Rows that are taken one after another.
use Rattle.std.proofs.Common.{◌≡◌, ◌⊎◌, inl, inr, ℕ, suc, ◌+◌, ◌*◌, ◌<◌, ◌≤◌, ◌||◌, ◌&&◌, Bool, true, false, not, cond, eqb, List, [], ◌∷◌, ◌++◌, length, map, refl, sym, ap, ◌∙◌, subst, arith, append_assoc, length-append, None, Some}
use Rattle.std.specs.declared.option.Option.{Option}
use Rattle.std.specs.Prelude.{All}
use Rattle.std.specs.List.{list_all, flat_map}
use Rattle.std.proofs.lemmas.Bool.{eqb-true, ltb-false, leb-false}
use Rattle.std.proofs.lemmas.List.{append-nil, get_or_append_left, length-map}
use Rattle.std.proofs.Math.Seq.{get_or-append_seam}
use Rattle.std.proofs.lemmas.List.Concat.{flat_map-append}
use Rattle.std.proofs.lemmas.List.Elements.{All-nil, All-cons, All-head, All-tail}
use Rattle.lattice_grid.specs.declared.array.Defect.{Defect}
use Rattle.report_text.specs.Cells.{defect_byte, rows_of}
use Rattle.report_text.proofs.Tools.{cells_of, rows_of-cells, length-cells}
use Rattle.defect_array.specs.Reading.{is_switch, row_fault, row_at, fault_at, IsFirstFault, AreRowsOf}
use Rattle.defect_array.specs.Rows.{Row, row_of}
use Rattle.defect_array.specs.Taking.{defect_of, switches_of, HasTaken, IsSome}
use Rattle.defect_array.specs.declared.read.ArrayRefusal.{ArrayRefusal}
use Rattle.defect_array.specs.declared.read.ArrayRefusal.TheVariants.{Ragged, Byte, TooLarge}

-- ---- one row

-- what is true of a row without fault
pub record IsSound (width before : ℕ) (row : Row) : Type 0 where
  pub long : length row.bytes ≡ width
  pub switches : list_all is_switch row.bytes ≡ true
  pub narrow : length row.bytes ≤ 16
  pub few : before < 16

if_none : (b : Bool) (r : ArrayRefusal) (rest : Option ArrayRefusal) → cond b (Some r) rest ≡ None → (b ≡ false) × (rest ≡ None)
if_none true r rest e = absurd cc
if_none false r rest e = (refl, e)

not_false : (b : Bool) → not b ≡ false → b ≡ true
not_false true e = refl
not_false false e = absurd cc

neither : (a b : Bool) → (a || b) ≡ false → (a ≡ false) × (b ≡ false)
neither true b e = absurd cc
neither false b e = (refl, e)

pub sound_row : (width before : ℕ) (row : Row) → row_fault width before row ≡ None → IsSound width before row
sound_row width before row e =
    let ragged = if_none (not (eqb (length row.bytes) width)) (Ragged row.line) _ e in
    let byte = if_none (not (list_all is_switch row.bytes)) (Byte row.line) _ ragged.1 in
    let large = if_none _ (TooLarge row.line) None byte.1 in
    let small = neither _ _ large.0 in
    record {
      long = eqb-true (length row.bytes) width (not_false _ ragged.0);
      switches = not_false _ byte.0;
      narrow = ltb-false 16 (length row.bytes) small.0;
      few = (let below = leb-false 16 before small.1 in omega (arith, below));
    }

-- a switch's byte is that of its defect
byte_back : (b : ℕ) → is_switch b ≡ true → defect_byte (defect_of b) ≡ b
byte_back b h = by_first (eqb b 46) (eqb b 111) (eqb b 99) refl refl refl h where
  by_first : (x y z : Bool) → eqb b 46 ≡ x → eqb b 111 ≡ y → eqb b 99 ≡ z → (x || y || z) ≡ true → defect_byte (defect_of b) ≡ b
  by_first true y z p q r h = rw p (sym (eqb-true b 46 p))
  by_first false true z p q r h = rw p rw q (sym (eqb-true b 111 q))
  by_first false false true p q r h = rw p rw q (sym (eqb-true b 99 r))
  by_first false false false p q r h = absurd cc

pub bytes_back : (bytes : List ℕ) → list_all is_switch bytes ≡ true → map defect_byte (map defect_of bytes) ≡ bytes
bytes_back [] h = refl
bytes_back (b ∷ bytes) h = λ i. byte_back b (both (is_switch b) (list_all is_switch bytes) h).0 i ∷ bytes_back bytes (both (is_switch b) (list_all is_switch bytes) h).1 i where
  both : (x y : Bool) → (x && y) ≡ true → (x ≡ true) × (y ≡ true)
  both true y e = (refl, e)
  both false y e = absurd cc

-- ---- rows in a longer list

pub at_left : (rows later : List Row) (k : ℕ) → k < length rows → row_at (rows ++ later) k ≡ row_at rows k
at_left rows later k less = get_or_append_left rows later _ k less

pub at_seam : (rows : List Row) (next : Row) (later : List Row) → row_at (rows ++ next ∷ later) (length rows) ≡ next
at_seam rows next later = get_or-append_seam rows next later _

-- the fault of a row does not rest on the rows behind it
pub fault_left : (rows later : List Row) (k : ℕ) → k < length rows → fault_at (rows ++ later) k ≡ fault_at rows k
fault_left rows later k less = λ i. row_fault (length (at_left rows later 0 (omega (arith, less)) i).bytes) k (at_left rows later k less i)

-- ---- rows are taken

pub taken_none : HasTaken [] 0 0 []
taken_none = record { many_are = refl; width_is = λ some. absurd (omega (arith, some)); cells_are = refl; sound = λ k less. absurd (omega (arith, less)) }

pub width_next : (rows : List Row) (width many : ℕ) (cells : List Defect) (next : Row) → HasTaken rows width many cells → (many ≡ 0 → (w : ℕ) → w ≡ length next.bytes → w ≡ length (row_at (rows ++ next ∷ []) 0).bytes)
    × (0 < many → width ≡ length (row_at (rows ++ next ∷ []) 0).bytes)
width_next rows width many cells next h = (
  λ none w e. e ∙ ap (λ (r : Row). length r.bytes) (first rows (sym h.many_are ∙ none)),
  λ some. h.width_is some ∙ ap (λ (r : Row). length r.bytes) (sym (at_left rows (next ∷ []) 0 (let m = h.many_are in omega (arith, m, some)))),
) where
  first : (rows : List Row) → length rows ≡ 0 → next ≡ row_at (rows ++ next ∷ []) 0
  first [] e = refl
  first (r ∷ rows) e = absurd (omega (arith, e))

pub taken_more : (rows : List Row) (width width' many : ℕ) (cells : List Defect) (next : Row) → HasTaken rows width many cells → width' ≡ length (row_at (rows ++ next ∷ []) 0).bytes → row_fault width' many next ≡ None
    → HasTaken (rows ++ next ∷ []) width' (many + 1) (cells ++ switches_of next)
taken_more rows width width' many cells next h is none = record {
  many_are = (let m = h.many_are in let l = length-append rows (next ∷ []) in omega (arith, m, l));
  width_is = λ some. is;
  cells_are = ap (λ w. w ++ switches_of next) h.cells_are ∙ sym (flat_map-append switches_of rows (next ∷ []) ∙ ap (λ w. flat_map switches_of rows ++ w) (append-nil (switches_of next)));
  sound = sound;
} where
  here : fault_at (rows ++ next ∷ []) (length rows) ≡ None
  here = (λ i. row_fault (sym is i) (sym h.many_are i) (at_seam rows next [] i)) ∙ none

  sound : (k : ℕ) → k < length (rows ++ next ∷ []) → fault_at (rows ++ next ∷ []) k ≡ None
  sound k less = elim (before_or_last k (length rows) (let l = length-append rows (next ∷ []) in omega (arith, less, l))) [
    | inl before ↦ fault_left rows (next ∷ []) k before ∙ h.sound k before
    | inr last ↦ subst (λ n. fault_at (rows ++ next ∷ []) n ≡ None) (sym last) here
  ] where
    before_or_last : (k n : ℕ) → k < n + 1 → (k < n) ⊎ (k ≡ n)
    before_or_last k n less = grind (arith, less)

pub fault_here : (rows : List Row) (width width' many : ℕ) (cells : List Defect) (next : Row) (refusal : ArrayRefusal) → HasTaken rows width many cells → width' ≡ length (row_at (rows ++ next ∷ []) 0).bytes → row_fault width' many next ≡ Some refusal
    → fault_at (rows ++ next ∷ []) (length rows) ≡ Some refusal
fault_here rows width width' many cells next refusal h is fault = (λ i. row_fault (sym is i) (sym h.many_are i) (at_seam rows next [] i)) ∙ fault

-- ---- the rows of a text are taken

-- the row behind those that were taken has a fault
pub first_fault : (all rows : List Row) (next : Row) (later : List Row) (width many : ℕ) (cells : List Defect) (refusal : ArrayRefusal) → all ≡ rows ++ next ∷ later → HasTaken rows width many cells
    → fault_at (rows ++ next ∷ []) (length rows) ≡ Some refusal → IsFirstFault all refusal
first_fault all rows next later width many cells refusal is h fault = subst (λ rs. IsFirstFault rs refusal) (sym is) (record {
  row = length rows;
  within = (let l = length-append rows (next ∷ later) in omega (arith, l));
  before = λ k less. fault_left rows (next ∷ later) k less ∙ h.sound k less;
  here = subst (λ rs. fault_at rs (length rows) ≡ Some refusal) (append_assoc rows (next ∷ []) later)
      (fault_left (rows ++ next ∷ []) later (length rows) (let l = length-append rows (next ∷ []) in omega (arith, l)) ∙ fault);
})

pub some_row_of : (number : ℕ) (bytes : List ℕ) → All IsSome (row_of number bytes)
some_row_of number [] = All-nil IsSome
some_row_of number (b ∷ bytes) = All-cons IsSome (record { line = number; bytes = b ∷ bytes }) [] (λ e. cc e) (All-nil IsSome)

-- ---- an array of rows

-- the rows without fault from some row on
all_sound : (width before : ℕ) (rows : List Row) → ((k : ℕ) → k < length rows → row_fault width (before + k) (row_at rows k) ≡ None) → All (λ row. length row.bytes ≡ width) rows × All (λ row. list_all is_switch row.bytes ≡ true) rows
all_sound width before [] h = (All-nil _, All-nil _)
all_sound width before (row ∷ rows) h =
    let one = sound_row width (before + 0) row (h 0 (omega arith)) in
    let more = all_sound width (before + 1) rows (λ k less. let shift : before + suc k ≡ (before + 1) + k = omega arith in subst (λ n. row_fault width n (row_at rows k) ≡ None) shift (h (suc k) (omega (arith, less)))) in
    (All-cons (λ (r : Row). length r.bytes ≡ width) row rows one.long more.0, All-cons (λ (r : Row). list_all is_switch r.bytes ≡ true) row rows one.switches more.1)

wide_switches : (width : ℕ) (rows : List Row) → All (λ row. length row.bytes ≡ width) rows → All (λ (ds : List Defect). length ds ≡ width) (map switches_of rows)
wide_switches width [] h = All-nil _
wide_switches width (row ∷ rows) h =
    All-cons (λ (ds : List Defect). length ds ≡ width) (switches_of row) (map switches_of rows) (length-map row.bytes defect_of ∙ All-head (λ (r : Row). length r.bytes ≡ width) row rows h)
    (wide_switches width rows (All-tail (λ (r : Row). length r.bytes ≡ width) row rows h))

rows_back : (rows : List Row) → All (λ row. list_all is_switch row.bytes ≡ true) rows → map (λ (r : Row). r.bytes) rows ≡ map (map defect_byte) (map switches_of rows)
rows_back [] h = refl
rows_back (row ∷ rows) h = λ i. sym (bytes_back row.bytes (All-head (λ (r : Row). list_all is_switch r.bytes ≡ true) row rows h)) i ∷ rows_back rows (All-tail (λ (r : Row). list_all is_switch r.bytes ≡ true) row rows h) i

cells_joined : (rows : List Row) → flat_map switches_of rows ≡ cells_of (map switches_of rows)
cells_joined [] = refl
cells_joined (row ∷ rows) = ap (λ w. switches_of row ++ w) (cells_joined rows)

some_bytes : (bytes : List ℕ) → (bytes ≡ [] → ⊥) → 1 ≤ length bytes
some_bytes [] n = absurd (n refl)
some_bytes (b ∷ bytes) n = omega arith

pub rows_are_of : (rows : List Row) (width many : ℕ) (cells : List Defect) → All IsSome rows → HasTaken rows width many cells → 0 < many → AreRowsOf rows (record { size = record { rows = many; cols = width }; cells = cells })
rows_are_of [] width many cells some h has = absurd (let m = h.many_are in omega (arith, m, has))
rows_are_of (row ∷ rows) width many cells some h has =
    let w : width ≡ length row.bytes = h.width_is has in
    let all = all_sound width 0 (row ∷ rows) (λ k less. let same : k ≡ 0 + k = omega arith in subst (λ n. row_fault width n (row_at (row ∷ rows) k) ≡ None) same ((λ i. row_fault (w i) k (row_at (row ∷ rows) k)) ∙ h.sound k less)) in
    let last = sound_row width (length rows) (row_at (row ∷ rows) (length rows)) ((λ i. row_fault (w i) (length rows) (row_at (row ∷ rows) (length rows))) ∙ h.sound (length rows) (omega arith)) in
    let one = sound_row width 0 row ((λ i. row_fault (w i) 0 row) ∙ h.sound 0 (omega arith)) in
    let wide = wide_switches width (row ∷ rows) all.0 in
    let joined : cells ≡ cells_of (map switches_of (row ∷ rows)) = h.cells_are ∙ cells_joined (row ∷ rows) in
    let many_rows : length (map switches_of (row ∷ rows)) ≡ many = length-map (row ∷ rows) switches_of ∙ sym h.many_are in
    let filled = some_bytes row.bytes (All-head IsSome row rows some) in
    record {
      array = record {
        some_rows = omega (arith, has);
        some_cols = omega (arith, w, filled);
        few_rows = (let m = h.many_are in let f = last.few in omega (arith, m, f));
        few_cols = (let n = one.narrow in omega (arith, w, n));
        whole = ap length joined ∙ length-cells width (map switches_of (row ∷ rows)) wide ∙ ap (λ n. n * width) many_rows;
      };
      bytes = rows_back (row ∷ rows) all.1
          ∙ ap (map (map defect_byte)) (sym ((λ i. rows_of width (sym many_rows i) (joined i)) ∙ rows_of-cells width (map switches_of (row ∷ rows)) wide));
    }
