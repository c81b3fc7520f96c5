-- The words of numbers, names, cells, sizes, arrays and proofs.
use Rattle.std.proofs.Common.{◌≡◌, ◌≢◌, ℕ, suc, ◌+◌, ◌*◌, ◌^◌, ◌≤◌, ◌<◌, ◌⊎◌, inl, inr, List, [], ◌∷◌, ◌++◌, length, get_or, map, refl, sym, ap, ◌∙◌, subst, arith, codes, mul-le-mul}
use Rattle.std.specs.Prelude.{All}
use Rattle.std.specs.Fmt.{decimal}
use Rattle.std.specs.List.{AllByRecursion, join_with_byte}
use Rattle.std.proofs.lemmas.List.{length-map}
use Rattle.std.proofs.lemmas.List.Elements.{recursion_from_All, All-nil, All-cons, All-head, All-tail}
use Rattle.lattice_grid.specs.Control.{NamesBelow}
use Rattle.lattice_grid.specs.declared.array.Defect.{Defect}
use Rattle.lattice_grid.specs.declared.array.Defect.TheVariants.{Sound, StuckOpen, StuckClosed}
use Rattle.lattice_grid.specs.declared.control.Control.{Control}
use Rattle.lattice_grid.specs.declared.control.Control.TheVariants.{Zero, One, Plain, Bar}
use Rattle.lattice_grid.specs.Defects.{Defects, IsArray}
use Rattle.lattice_grid.specs.Rectangle.{Size, IsSize}
use Rattle.pla_reader.specs.Name.{IsName, IsNameByte}
use Rattle.report_text.specs.Bounds.{IsProof}
use Rattle.report_text.specs.Cells.{control_text, defect_byte, array_text, size_text, proof_text, rows_of}
use Rattle.report_text.specs.Pieces.{Without}
use Rattle.report_text.specs.declared.answer.Proof.{Proof}
use Rattle.report_text.proofs.JoinLaws.{joined}
use Rattle.report_text.proofs.NumberLaws.{Without-decimal, same_number}
use Rattle.report_text.proofs.PiecesLaws.{Without-between, Without-append}
use Rattle.report_text.proofs.RowsLaws.{cells_of, rows_of-are, cells-rows_of, rows_of-cells, length-cells}
use Rattle.report_text.proofs.SizeLaws.{factor_le}
use Rattle.report_text.proofs.SpellLaws.{Spells, SpellsLine, nothing, then, only, seen_as, each}
use Rattle.report_text.proofs.TestedLaws.{Tested, tested_both, tested_as, tested_eq, tested_lt, tested_le, tested_list, tested_all, some_up_to}

-- ---- numbers

pub numbers : (most : ℕ) → most < 2 ^ 32 → Spells ℕ (λ n. n ≤ most) decimal
numbers most small = record {
  same = λ m n p q e. same_number m n (omega (arith, p, small)) (omega (arith, q, small)) e;
  plain = λ at h n p. Without-decimal at n (omega (arith, p, small)) (inl (omega (arith, h)));
  tested = λ w. some_up_to (λ n. w ≡ decimal n) (λ n. tested_list w (decimal n)) most;
}

-- ---- names

pub tested_name : (w : List ℕ) → Tested (IsName w)
tested_name w = tested_as ((0 < length w) × All IsNameByte w) (IsName w) (λ h. record { some = h.0; each = h.1 }) (λ h. (h.some, h.each))
    (tested_both (0 < length w) (All IsNameByte w) (tested_lt 0 (length w)) (tested_all IsNameByte (λ b. tested_both (33 ≤ b) (b ≤ 126) (tested_le 33 b) (tested_le b 126)) w))

pub names : Spells (List ℕ) IsName (λ name. name)
names = record {
  same = λ x y p q e. e;
  plain = λ at h x p. Without-between at 33 126 x (inl h) (recursion_from_All IsNameByte x p.each);
  tested = λ w. tested_as (IsName w) ((x : List ℕ) × IsName x × (w ≡ x)) (λ h. (w, h, refl)) (λ (x, h, e). subst IsName (sym e) h) (tested_name w);
}

-- ---- cells

-- texts with different first bytes, or of different lengths
firsts : (xs ys : List ℕ) → xs ≡ ys → (get_or xs 0 0 ≡ get_or ys 0 0) × (length xs ≡ length ys)
firsts xs ys e = (ap (λ w. get_or w 0 0) e, ap length e)

same_control : (c d : Control) → control_text c ≡ control_text d → c ≡ d
same_control Zero Zero e = refl
same_control One One e = refl
same_control (Plain i) (Plain j) e = let digit : 48 + i ≡ 48 + j = ap (λ w. get_or w 1 0) e in let same : i ≡ j = omega (arith, digit) in ap Plain same
same_control (Bar i) (Bar j) e = let digit : 48 + i ≡ 48 + j = ap (λ w. get_or w 1 0) e in let same : i ≡ j = omega (arith, digit) in ap Bar same
same_control Zero One e = let apart = firsts _ _ e in absurd (omega (arith, apart.0, apart.1))
same_control Zero (Plain j) e = let apart = firsts _ _ e in absurd (omega (arith, apart.0, apart.1))
same_control Zero (Bar j) e = let apart = firsts _ _ e in absurd (omega (arith, apart.0, apart.1))
same_control One Zero e = let apart = firsts _ _ e in absurd (omega (arith, apart.0, apart.1))
same_control One (Plain j) e = let apart = firsts _ _ e in absurd (omega (arith, apart.0, apart.1))
same_control One (Bar j) e = let apart = firsts _ _ e in absurd (omega (arith, apart.0, apart.1))
same_control (Plain i) Zero e = let apart = firsts _ _ e in absurd (omega (arith, apart.0, apart.1))
same_control (Plain i) One e = let apart = firsts _ _ e in absurd (omega (arith, apart.0, apart.1))
same_control (Plain i) (Bar j) e = let apart = firsts _ _ e in absurd (omega (arith, apart.0, apart.1))
same_control (Bar i) Zero e = let apart = firsts _ _ e in absurd (omega (arith, apart.0, apart.1))
same_control (Bar i) One e = let apart = firsts _ _ e in absurd (omega (arith, apart.0, apart.1))
same_control (Bar i) (Plain j) e = let apart = firsts _ _ e in absurd (omega (arith, apart.0, apart.1))

plain_control : (at : ℕ) → at < 33 → (c : Control) → NamesBelow 10 c → Without at (control_text c)
plain_control at h Zero is = ((λ e. omega (arith, e, h)), tt)
plain_control at h One is = ((λ e. omega (arith, e, h)), tt)
plain_control at h (Plain i) is = ((λ e. omega (arith, e, h)), ((λ e. omega (arith, e, h)), tt))
plain_control at h (Bar i) is = ((λ e. omega (arith, e, h)), ((λ e. omega (arith, e, h)), ((λ e. omega (arith, e, h)), tt)))

tested_control : (w : List ℕ) → Tested ((c : Control) × NamesBelow 10 c × (w ≡ control_text c))
tested_control w = elim (tested_list w (control_text Zero)) [
  | inl e ↦ inl (Zero, tt, e)
  | inr zero ↦ elim (tested_list w (control_text One)) [
    | inl e ↦ inl (One, tt, e)
    | inr one ↦ elim (some_up_to (λ i. w ≡ control_text (Plain i)) (λ i. tested_list w (control_text (Plain i))) 9) [
      | inl (i, few, e) ↦ inl (Plain i, omega (arith, few), e)
      | inr plain ↦ elim (some_up_to (λ i. w ≡ control_text (Bar i)) (λ i. tested_list w (control_text (Bar i))) 9) [
        | inl (i, few, e) ↦ inl (Bar i, omega (arith, few), e)
        | inr bar ↦ inr (λ (c, is, e). no_control w zero one plain bar c is e)
      ]
    ]
  ]
] where
  no_control : (w : List ℕ) → w ≢ control_text Zero → w ≢ control_text One → (((i : ℕ) × (i ≤ 9) × (w ≡ control_text (Plain i))) → ⊥) → (((i : ℕ) × (i ≤ 9) × (w ≡ control_text (Bar i))) → ⊥)
      → (c : Control) → NamesBelow 10 c → w ≡ control_text c → ⊥
  no_control w zero one plain bar Zero is e = zero e
  no_control w zero one plain bar One is e = one e
  no_control w zero one plain bar (Plain i) is e = plain (i, omega (arith, is), e)
  no_control w zero one plain bar (Bar i) is e = bar (i, omega (arith, is), e)

pub controls : Spells Control (NamesBelow 10) control_text
controls = record { same = λ x y p q e. same_control x y e; plain = λ at h x p. plain_control at h x p; tested = λ w. tested_control w }

-- ---- sizes

pub most_rows : (s : Size) → IsSize s → s.rows ≤ 1048576
most_rows s h = factor_le s.rows s.cols 1048576 h.some_cols h.few

pub most_cols : (s : Size) → IsSize s → s.cols ≤ 1048576
most_cols s h = let few = h.few in factor_le s.cols s.rows 1048576 h.some_rows (omega (arith, few))

tested_size : (r c : ℕ) → Tested (IsSize (record { rows = r; cols = c }))
tested_size r c = tested_as ((1 ≤ r) × ((1 ≤ c) × (r * c ≤ 1048576))) (IsSize (record { rows = r; cols = c })) (λ h. record { some_rows = h.0; some_cols = h.1.0; few = h.1.1 }) (λ h. (h.some_rows, (h.some_cols, h.few)))
    (tested_both (1 ≤ r) ((1 ≤ c) × (r * c ≤ 1048576)) (tested_le 1 r) (tested_both (1 ≤ c) (r * c ≤ 1048576) (tested_le 1 c) (tested_le (r * c) 1048576)))

abbrev size_words : Size → List (List ℕ)
size_words s = decimal s.rows ∷ decimal s.cols ∷ []

abbrev pair_size : ℕ × (ℕ × Unit {0}) → Size
pair_size p = record { rows = p.0; cols = p.1.0 }

small : 1048576 < 2 ^ 32
small = omega arith

size_line : SpellsLine Size IsSize size_words
size_line =
    seen_as pair_size (λ s. (s.rows, (s.cols, tt))) (λ s h. refl) (λ p h. h.1) (λ s h. ((most_rows s h, (most_cols s h, tt)), h)) (λ p h. refl) (λ s. refl)
    (only (λ p. IsSize (pair_size p)) (λ p. tested_size p.0 p.1.0) (then (numbers 1048576 small) (then (numbers 1048576 small) nothing)))

pub Without-size : (at : ℕ) (s : Size) → IsSize s → 57 < at → at ≢ 120 → Without at (size_text s)
Without-size at s h above ne =
    let rows = most_rows s h in
    let cols = most_cols s h in
    Without-append at (decimal s.rows) (120 ∷ decimal s.cols) (Without-decimal at s.rows (omega (arith, rows)) (inr above)) ((λ e. ne (sym e)), Without-decimal at s.cols (omega (arith, cols)) (inr above))

size_apart : (s : Size) → IsSize s → (0 < length (size_words s)) × AllByRecursion (Without 120) (size_words s)
size_apart s h =
    let rows = most_rows s h in
    let cols = most_cols s h in
    (omega arith, (Without-decimal 120 s.rows (omega (arith, rows)) (inr (omega arith)), (Without-decimal 120 s.cols (omega (arith, cols)) (inr (omega arith)), tt)))

pub sizes : Spells Size IsSize size_text
sizes = joined 120 (omega arith) size_apart size_line

-- ---- proofs

abbrev proof_words : Proof → List (List ℕ)
proof_words p = size_text p.shape ∷ decimal p.steps ∷ []

abbrev pair_proof : Size × (ℕ × Unit {0}) → Proof
pair_proof p = record { shape = p.0; steps = p.1.0 }

proof_line : SpellsLine Proof IsProof proof_words
proof_line =
    seen_as pair_proof (λ p. (p.shape, (p.steps, tt))) (λ p h. refl) (λ p h. record { size = h.0.0; some = h.1; few = h.0.1.0 }) (λ p h. ((h.size, (h.few, tt)), h.some)) (λ p h. refl) (λ p. refl)
    (only (λ p. 1 ≤ p.1.0) (λ p. tested_le 1 p.1.0) (then sizes (then (numbers 2147483647 (omega arith)) nothing)))

proof_apart : (p : Proof) → IsProof p → (0 < length (proof_words p)) × AllByRecursion (Without 58) (proof_words p)
proof_apart p h = let few = h.few in (omega arith, (Without-size 58 p.shape h.size (omega arith) (λ e. omega (arith, e)), (Without-decimal 58 p.steps (omega (arith, few)) (inr (omega arith)), tt)))

pub proofs : Spells Proof IsProof proof_text
proofs = joined 58 (omega arith) proof_apart proof_line

-- ---- arrays

pub same_defect : (c d : Defect) → defect_byte c ≡ defect_byte d → c ≡ d
same_defect Sound Sound e = refl
same_defect StuckOpen StuckOpen e = refl
same_defect StuckClosed StuckClosed e = refl
same_defect Sound StuckOpen e = absurd (omega (arith, e))
same_defect Sound StuckClosed e = absurd (omega (arith, e))
same_defect StuckOpen Sound e = absurd (omega (arith, e))
same_defect StuckOpen StuckClosed e = absurd (omega (arith, e))
same_defect StuckClosed Sound e = absurd (omega (arith, e))
same_defect StuckClosed StuckOpen e = absurd (omega (arith, e))

same_defects : (xs ys : List Defect) → map defect_byte xs ≡ map defect_byte ys → xs ≡ ys
same_defects [] [] e = refl
same_defects [] (y ∷ ys) e = absurd cc
same_defects (x ∷ xs) [] e = absurd cc
same_defects (x ∷ xs) (y ∷ ys) e =
    let head : defect_byte x ≡ defect_byte y = cc in
    let tail : map defect_byte xs ≡ map defect_byte ys = cc in
    let first = same_defect x y head in
    let later = same_defects xs ys tail in
    λ i. first i ∷ later i

plain_defect : (at : ℕ) → at < 33 → (d : Defect) → defect_byte d ≢ at
plain_defect at h Sound e = omega (arith, e, h)
plain_defect at h StuckOpen e = omega (arith, e, h)
plain_defect at h StuckClosed e = omega (arith, e, h)

plain_defects : (at : ℕ) → at < 33 → (ds : List Defect) → Without at (map defect_byte ds)
plain_defects at h [] = tt
plain_defects at h (d ∷ ds) = (plain_defect at h d, plain_defects at h ds)

tested_defect : (b : ℕ) → Tested ((d : Defect) × (b ≡ defect_byte d))
tested_defect b = elim (tested_eq b 46) [
  | inl e ↦ inl (Sound, e)
  | inr sound ↦ elim (tested_eq b 111) [
    | inl e ↦ inl (StuckOpen, e)
    | inr open_ ↦ elim (tested_eq b 99) [
      | inl e ↦ inl (StuckClosed, e)
      | inr closed ↦ inr (λ (d, e). no_defect b sound open_ closed d e)
    ]
  ]
] where
  no_defect : (b : ℕ) → b ≢ 46 → b ≢ 111 → b ≢ 99 → (d : Defect) → b ≡ defect_byte d → ⊥
  no_defect b x y z Sound e = x e
  no_defect b x y z StuckOpen e = y e
  no_defect b x y z StuckClosed e = z e

tested_defects : (w : List ℕ) → Tested ((ds : List Defect) × (w ≡ map defect_byte ds))
tested_defects [] = inl ([], refl)
tested_defects (b ∷ w) = elim (tested_defect b) [
  | inl (d, e) ↦ elim (tested_defects w) [
    | inl (ds, f) ↦ inl (d ∷ ds, (λ i. e i ∷ f i))
    | inr none ↦ inr (λ (ds, f). others none ds f)
  ]
  | inr none ↦ inr (λ (ds, f). first none ds f)
] where
  others : (((ds : List Defect) × (w ≡ map defect_byte ds)) → ⊥) → (ds : List Defect) → b ∷ w ≡ map defect_byte ds → ⊥
  others none [] f = absurd cc
  others none (d ∷ ds) f = none (ds, cc)

  first : (((d : Defect) × (b ≡ defect_byte d)) → ⊥) → (ds : List Defect) → b ∷ w ≡ map defect_byte ds → ⊥
  first none [] f = absurd cc
  first none (d ∷ ds) f = none (d, cc)

pub defect_rows : (cols : ℕ) → Spells (List Defect) (λ ds. length ds ≡ cols) (map defect_byte)
defect_rows cols = record {
  same = λ x y p q e. same_defects x y e;
  plain = λ at h ds p. plain_defects at h ds;
  tested = λ w. elim (tested_defects w) [
    | inl (ds, e) ↦ elim (tested_eq (length ds) cols) [
      | inl many ↦ inl (ds, many, e)
      | inr other ↦ inr (λ (x, p, f). other (ap length (same_defects ds x (sym e ∙ f)) ∙ p))
    ]
    | inr none ↦ inr (λ (x, p, f). none (x, f))
  ];
}

-- at least one and at most sixteen rows and columns
record AreSides (s : Size) : Type 0 where
  some_rows : 1 ≤ s.rows
  some_cols : 1 ≤ s.cols
  few_rows : s.rows ≤ 16
  few_cols : s.cols ≤ 16

tested_sides : (s : Size) → Tested (AreSides s)
tested_sides s = tested_as ((1 ≤ s.rows) × ((1 ≤ s.cols) × ((s.rows ≤ 16) × (s.cols ≤ 16)))) (AreSides s)
    (λ h. record { some_rows = h.0; some_cols = h.1.0; few_rows = h.1.1.0; few_cols = h.1.1.1 }) (λ h. (h.some_rows, (h.some_cols, (h.few_rows, h.few_cols))))
    (tested_both (1 ≤ s.rows) _ (tested_le 1 s.rows) (tested_both (1 ≤ s.cols) _ (tested_le 1 s.cols) (tested_both (s.rows ≤ 16) (s.cols ≤ 16) (tested_le s.rows 16) (tested_le s.cols 16))))

abbrev pub array_rows : Defects → List (List Defect)
array_rows a = rows_of a.size.cols a.size.rows a.cells

abbrev array_words : Defects → List (List ℕ)
array_words a = map (map defect_byte) (array_rows a)

abbrev IsAny : Defect → Type 0
IsAny d = Unit {0}

any_defect : (cells : List Defect) → All IsAny cells
any_defect [] = All-nil IsAny
any_defect (d ∷ ds) = All-cons IsAny d ds tt (any_defect ds)

-- an array's cells are in rows
pub rows_are : (a : Defects) → IsArray a → (length (array_rows a) ≡ a.size.rows) × All (λ ds. length ds ≡ a.size.cols) (array_rows a)
rows_are a h = let are = rows_of-are IsAny a.size.cols a.size.rows a.cells h.whole (any_defect a.cells) in (are.many_are, are.wide)

abbrev array_of : Size → List (List Defect) → Defects
array_of s rows = record { size = s; cells = cells_of rows }

array_round : (s : Size) (a : Defects) → IsArray a → a.size ≡ s → array_of s (array_rows a) ≡ a
array_round s a h e = let cells = cells-rows_of a.size.cols a.size.rows a.cells h.whole in λ i. record { size = sym e i; cells = cells i }

array_there : (s : Size) (rows : List (List Defect)) → All (λ ds. length ds ≡ s.cols) rows → length rows ≡ s.rows → AreSides s → IsArray (array_of s rows)
array_there s rows wide many sides = record {
  some_rows = sides.some_rows;
  some_cols = sides.some_cols;
  few_rows = sides.few_rows;
  few_cols = sides.few_cols;
  whole = length-cells s.cols rows wide ∙ ap (λ n. n * s.cols) many;
}

array_back : (s : Size) (a : Defects) → IsArray a → a.size ≡ s → All (λ ds. length ds ≡ s.cols) (array_rows a) × ((length (array_rows a) ≡ s.rows) × AreSides s)
array_back s a h e =
    let are = rows_are a h in (
      subst (λ (z : Size). All (λ ds. length ds ≡ z.cols) (array_rows a)) e are.1,
      (are.0 ∙ ap (λ z. z.rows) e, subst AreSides e (record { some_rows = h.some_rows; some_cols = h.some_cols; few_rows = h.few_rows; few_cols = h.few_cols })),
    )

array_line : (s : Size) → SpellsLine Defects (λ a. IsArray a × (a.size ≡ s)) array_words
array_line s =
    seen_as (array_of s) array_rows (λ a h. array_round s a h.0 h.1) (λ rows h. (array_there s rows h.0 h.1.0 h.1.1, refl)) (λ a h. array_back s a h.0 h.1)
    (λ rows h. ap (map (map defect_byte)) (ap (λ n. rows_of s.cols n (cells_of rows)) (sym h.1.0) ∙ rows_of-cells s.cols rows h.0)) (λ a. refl)
    (only (λ rows. (length rows ≡ s.rows) × AreSides s) (λ rows. tested_both (length rows ≡ s.rows) (AreSides s) (tested_eq (length rows) s.rows) (tested_sides s)) (each (defect_rows s.cols)))

no_slash : (d : Defect) → defect_byte d ≢ 47
no_slash Sound e = omega (arith, e)
no_slash StuckOpen e = omega (arith, e)
no_slash StuckClosed e = omega (arith, e)

no_slash_row : (ds : List Defect) → Without 47 (map defect_byte ds)
no_slash_row [] = tt
no_slash_row (d ∷ ds) = (no_slash d, no_slash_row ds)

pub no_slash_rows : (rows : List (List Defect)) → AllByRecursion (Without 47) (map (map defect_byte) rows)
no_slash_rows [] = tt
no_slash_rows (row ∷ rows) = (no_slash_row row, no_slash_rows rows)

array_apart : (s : Size) (a : Defects) → IsArray a × (a.size ≡ s) → (0 < length (array_words a)) × AllByRecursion (Without 47) (array_words a)
array_apart s a h =
    let are = (rows_are a h.0).0 in
    let some = h.0.some_rows in
    (omega (arith, are, some, length-map (array_rows a) (map defect_byte)), no_slash_rows (array_rows a))

pub arrays : (s : Size) → Spells Defects (λ a. IsArray a × (a.size ≡ s)) array_text
arrays s = joined 47 (omega arith) (array_apart s) (array_line s)

pub size_of_array : (a : Defects) → IsArray a → IsSize a.size
size_of_array a h = let few_rows = h.few_rows in let few_cols = h.few_cols in record { some_rows = h.some_rows; some_cols = h.some_cols; few = area_few a.size.rows a.size.cols few_rows few_cols } where
  area_few : (r c : ℕ) → r ≤ 16 → c ≤ 16 → r * c ≤ 1048576
  area_few r c p q = let most : r * c ≤ 16 * 16 = mul-le-mul p q in omega (arith, most)
