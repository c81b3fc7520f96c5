-- Each text of an array is read or refused, in one way.
use Rattle.std.proofs.Common.{◌≡◌, ◌⊎◌, inl, inr, ℕ, suc, zero, ◌+◌, ◌<◌, ◌≤◌, ◌||◌, Bool, true, false, not, cond, eqb, List, [], ◌∷◌, length, map, refl, sym, ap, ◌∙◌, subst, arith, None, Some}
use Rattle.std.specs.declared.option.Option.{Option}
use Rattle.std.specs.Prelude.{All}
use Rattle.std.specs.List.{list_all, flat_map}
use Rattle.std.proofs.lemmas.Bool.{eq-eqb, le-ltb, lt-leb}
use Rattle.std.proofs.lemmas.List.{length-map}
use Rattle.std.proofs.lemmas.List.Elements.{All-nil, All-append, All-head, All-tail}
use Rattle.lattice_grid.specs.declared.array.Defect.{Defect}
use Rattle.lattice_grid.specs.declared.array.Defect.TheVariants.{Sound, StuckOpen, StuckClosed}
use Rattle.lattice_grid.specs.Defects.{Defects, IsArray}
use Rattle.report_text.specs.Cells.{defect_byte}
use Rattle.report_text.specs.Pieces.{pieces}
use Rattle.report_text.proofs.Tools.{cells_of, cells-rows_of, array_rows, rows_are}
use Rattle.defect_array.specs.Reading.{is_switch, row_fault, row_at, fault_at, IsFirstFault, AreRowsOf, IsReadOneWay, IsRefusedOneWay, IsReadOrRefused, IsNeverBoth}
use Rattle.defect_array.specs.Rows.{Row, counted, row_of, rows_from, rows_in}
use Rattle.defect_array.specs.Taking.{defect_of, switches_of, HasTaken, IsSome}
use Rattle.defect_array.specs.declared.read.ArrayRefusal.{ArrayRefusal}
use Rattle.defect_array.specs.declared.read.ArrayRefusal.TheVariants.{Empty, Ragged, Byte, TooLarge}
use Rattle.defect_array.proofs.RowLaws.{IsSound, some_row_of, rows_are_of}

-- ---- rows of an array

defect_back : (d : Defect) → defect_of (defect_byte d) ≡ d
defect_back Sound = refl
defect_back StuckOpen = refl
defect_back StuckClosed = refl

defects_back : (ds : List Defect) → map defect_of (map defect_byte ds) ≡ ds
defects_back [] = refl
defects_back (d ∷ ds) = λ i. defect_back d i ∷ defects_back ds i

rows_back : (rows : List (List Defect)) → map (map defect_of) (map (map defect_byte) rows) ≡ rows
rows_back [] = refl
rows_back (row ∷ rows) = λ i. defects_back row i ∷ rows_back rows i

abbrev bytes_of : List Row → List (List ℕ)
bytes_of rows = map (λ (r : Row). r.bytes) rows

-- the rows of the array are told by the text
array_told : (rows : List Row) (a : Defects) → AreRowsOf rows a → array_rows a ≡ map (map defect_of) (bytes_of rows)
array_told rows a h = sym (ap (map (map defect_of)) h.bytes ∙ rows_back (array_rows a))

first_wide : (a b : ℕ) (rows : List (List Defect)) → 1 ≤ length rows → All (λ ds. length ds ≡ a) rows → All (λ ds. length ds ≡ b) rows → a ≡ b
first_wide a b [] some h k = absurd (omega (arith, some))
first_wide a b (row ∷ rows) some h k = sym (All-head (λ (ds : List Defect). length ds ≡ a) row rows h) ∙ All-head (λ (ds : List Defect). length ds ≡ b) row rows k

same_array : (a b : Defects) → IsArray a → IsArray b → array_rows a ≡ array_rows b → a ≡ b
same_array a b h k e =
    let x = rows_are a h in
    let y = rows_are b k in
    let rows : a.size.rows ≡ b.size.rows = sym x.0 ∙ ap length e ∙ y.0 in
    let some : 1 ≤ length (array_rows a) = (let m = h.some_rows in let l = x.0 in omega (arith, m, l)) in
    let cols : a.size.cols ≡ b.size.cols = first_wide a.size.cols b.size.cols (array_rows a) some x.1 (subst (All (λ (ds : List Defect). length ds ≡ b.size.cols)) (sym e) y.1) in
    let cells : a.cells ≡ b.cells = sym (cells-rows_of a.size.cols a.size.rows a.cells h.whole) ∙ ap cells_of e ∙ cells-rows_of b.size.cols b.size.rows b.cells k.whole in
    λ i. record { size = record { rows = rows i; cols = cols i }; cells = cells i }

pub one_reading : IsReadOneWay
one_reading text a b h k = same_array a b h.array k.array (array_told (rows_in text) a h ∙ sym (array_told (rows_in text) b k))

-- ---- one refusal

some_same : (r s : ArrayRefusal) → Some r ≡ Some s → r ≡ s
some_same r s e = ap (λ (o : Option ArrayRefusal). inside o) e where
  inside : Option ArrayRefusal → ArrayRefusal
  inside (Some x) = x
  inside None = r

some_none : (o : Option ArrayRefusal) (r : ArrayRefusal) → o ≡ None → o ≡ Some r → ⊥
some_none o r e f = cc (sym e ∙ f)

three : (j k : ℕ) → (j < k) ⊎ ((j ≡ k) ⊎ (k < j))
three j k = grind arith

same_first : (rows : List Row) (r s : ArrayRefusal) → IsFirstFault rows r → IsFirstFault rows s → r ≡ s
same_first rows r s h k = elim (three h.row k.row) [
  | inl earlier ↦ absurd (some_none (fault_at rows h.row) r (k.before h.row earlier) h.here)
  | inr (inl same) ↦ some_same r s (sym h.here ∙ ap (fault_at rows) same ∙ k.here)
  | inr (inr later) ↦ absurd (some_none (fault_at rows k.row) s (h.before k.row later) k.here)
]

no_first : (rows : List Row) (r : ArrayRefusal) → rows ≡ [] → IsFirstFault rows r → ⊥
no_first rows r e h = let less = h.within in let none = ap length e in omega (arith, less, none)

pub one_refusal : IsRefusedOneWay
one_refusal text r s (inl h) (inl k) = h.1 ∙ sym k.1
one_refusal text r s (inl h) (inr k) = absurd (no_first (rows_in text) s h.0 k)
one_refusal text r s (inr h) (inl k) = absurd (no_first (rows_in text) r k.0 h)
one_refusal text r s (inr h) (inr k) = same_first (rows_in text) r s h k

-- ---- never both

row_sound : (width before : ℕ) (row : Row) → IsSound width before row → row_fault width before row ≡ None
row_sound width before row h =
    by_tests (eqb (length row.bytes) width) (list_all is_switch row.bytes) _ _ (eq-eqb (length row.bytes) width h.long) h.switches (le-ltb 16 (length row.bytes) h.narrow) (lt-leb 16 before h.few) where
      by_tests : (a b c d : Bool) → a ≡ true → b ≡ true → c ≡ false → d ≡ false → cond (not a) (Some (Ragged row.line)) (cond (not b) (Some (Byte row.line)) (cond (c || d) (Some (TooLarge row.line)) None)) ≡ None
      by_tests a b c d p q r s = rw p rw q rw r rw s refl

all_switches : (ds : List Defect) → list_all is_switch (map defect_byte ds) ≡ true
all_switches [] = refl
all_switches (Sound ∷ ds) = all_switches ds
all_switches (StuckOpen ∷ ds) = all_switches ds
all_switches (StuckClosed ∷ ds) = all_switches ds

row_told : (width : ℕ) (rows : List Row) (switches : List (List Defect)) → bytes_of rows ≡ map (map defect_byte) switches → All (λ ds. length ds ≡ width) switches → (k : ℕ) → k < length rows
    → (length (row_at rows k).bytes ≡ width) × (list_all is_switch (row_at rows k).bytes ≡ true)
row_told width [] switches e wide k less = absurd (omega (arith, less))
row_told width (row ∷ rows) [] e wide k less = absurd cc
row_told width (row ∷ rows) (ds ∷ switches) e wide zero less =
    let same : row.bytes ≡ map defect_byte ds = cc in
    (ap length same ∙ length-map ds defect_byte ∙ All-head (λ (x : List Defect). length x ≡ width) ds switches wide, ap (list_all is_switch) same ∙ all_switches ds)
row_told width (row ∷ rows) (ds ∷ switches) e wide (suc k) less =
    let more : bytes_of rows ≡ map (map defect_byte) switches = cc in
    row_told width rows switches more (All-tail (λ (x : List Defect). length x ≡ width) ds switches wide) k (omega (arith, less))

as_many : (rows : List Row) (a : Defects) → AreRowsOf rows a → length rows ≡ a.size.rows
as_many rows a h = sym (length-map rows (λ (r : Row). r.bytes)) ∙ ap length h.bytes ∙ length-map (array_rows a) (map defect_byte) ∙ (rows_are a h.array).0

read_sound : (rows : List Row) (a : Defects) → AreRowsOf rows a → (k : ℕ) → k < length rows → fault_at rows k ≡ None
read_sound rows a h k less =
    let wide = (rows_are a h.array).1 in
    let here = row_told a.size.cols rows (array_rows a) h.bytes wide k less in
    let first = row_told a.size.cols rows (array_rows a) h.bytes wide 0 (omega (arith, less)) in
    row_sound (length (row_at rows 0).bytes) k (row_at rows k) (record {
      long = here.0 ∙ sym first.0;
      switches = here.1;
      narrow = (let w = here.0 in let n = h.array.few_cols in omega (arith, w, n));
      few = (let m = as_many rows a h in let n = h.array.few_rows in omega (arith, less, m, n));
    })

pub never_both : IsNeverBoth
never_both text a r h (inl k) = let m = as_many (rows_in text) a h in let some = h.array.some_rows in let none = ap length k.0 in omega (arith, m, some, none)
never_both text a r h (inr k) = some_none (fault_at (rows_in text) k.row) r (read_sound (rows_in text) a h k.row k.within) k.here

-- ---- one of the two

pub some_rows : (number : ℕ) (lines : List (List ℕ)) → All IsSome (rows_from number lines)
some_rows number [] = All-nil IsSome
some_rows number (line ∷ lines) = All-append IsSome (row_of number (counted line)) (rows_from (number + 1) lines) (some_row_of number (counted line)) (some_rows (number + 1) lines)

tell : (o : Option ArrayRefusal) → (o ≡ None) ⊎ ((r : ArrayRefusal) × (o ≡ Some r))
tell None = inl refl
tell (Some r) = inr (r, refl)

below_or_last : (k n : ℕ) → k < suc n → (k < n) ⊎ (k ≡ n)
below_or_last k n less = grind (arith, less)

search_first : (rows : List Row) (n : ℕ) → n ≤ length rows → ((k : ℕ) → k < n → fault_at rows k ≡ None) ⊎ ((r : ArrayRefusal) × IsFirstFault rows r)
search_first rows zero few = inl (λ k less. absurd (omega (arith, less)))
search_first rows (suc n) few = elim (search_first rows n (omega (arith, few))) [
  | inr found ↦ inr found
  | inl before ↦ elim (tell (fault_at rows n)) [
    | inr (r, here) ↦ inr (r, record { row = n; within = omega (arith, few); before = before; here = here })
    | inl none ↦ inl (λ k less. elim (below_or_last k n less) [
      | inl earlier ↦ before k earlier
      | inr same ↦ ap (fault_at rows) same ∙ none
    ])
  ]
]

array_there : (rows : List Row) → All IsSome rows → ((k : ℕ) → k < length rows → fault_at rows k ≡ None) → (rows ≡ []) ⊎ ((a : Defects) × AreRowsOf rows a)
array_there [] some sound = inl refl
array_there (row ∷ rows) some sound =
    let width = length row.bytes in
    let many = length (row ∷ rows) in
    let cells = flat_map switches_of (row ∷ rows) in
    let taken : HasTaken (row ∷ rows) width many cells = record { many_are = refl; width_is = λ _. refl; cells_are = refl; sound = sound } in
    inr (record { size = record { rows = many; cols = width }; cells = cells }, rows_are_of (row ∷ rows) width many cells some taken (omega arith))

pub either : IsReadOrRefused
either text = elim (search_first (rows_in text) (length (rows_in text)) (omega arith)) [
  | inr (r, first) ↦ inr (r, inr first)
  | inl sound ↦ elim (array_there (rows_in text) (some_rows 1 (pieces 10 text)) sound) [
    | inl none ↦ inr (Empty, inl (none, refl))
    | inr read ↦ inl read
  ]
]
