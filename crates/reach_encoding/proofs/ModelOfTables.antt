-- Lists that are written row by row.
use Rattle.std.proofs.Common.{◌≡◌, ℕ, suc, zero, ◌+◌, ◌-◌, ◌*◌, ◌<◌, ◌≤◌, ◌^◌, inl, inr, Bool, true, false, List, [], ◌∷◌, ◌++◌, length, get_or, map, refl, sym, ap, ◌∙◌, subst, arith, add-one, length-append}
use Rattle.std.specs.List.{All, flat_map, range_with_len}
use Rattle.std.specs.FinSet as set
use Rattle.std.proofs.lemmas.Bool.{cases_eq, cond-true, cond-false}
use Rattle.std.proofs.lemmas.List.{append-nil, append_assoc, flat_map_more, get_or_append_left, get_or-append_right}
use Rattle.std.proofs.lemmas.List.Elements.{All-head, All-tail}
use Rattle.std.proofs.lemmas.List.FromFn.{map-range_with_len_more}
use Rattle.std.proofs.lemmas.Nat.{mul-le}
use Rattle.cube_core.specs.Members.{Assignments}
use Rattle.cube_core.specs.Rising.{rising}
use Rattle.lattice_grid.specs.Defects.{Defects}
use Rattle.lattice_grid.specs.Lattice.{Lattice}
use Rattle.std.specs.declared.option.Option.{Option}
use Rattle.reach_encoding.specs.ModelOf.{IsRowOfMarks, HasMarks}

-- the numbers below n + 1
range_more : (a n : ℕ) → range_with_len a (suc n) ≡ range_with_len a n ++ (a + n) ∷ []
range_more a zero = let e : a ≡ a + 0 = omega arith in ap (λ b. b ∷ []) e
range_more a (suc n) = let e : a + 1 + n ≡ a + suc n = omega arith in ap (λ xs. a ∷ xs) (range_more (a + 1) n ∙ ap (λ b. range_with_len (a + 1) n ++ b ∷ []) e)

pub below_more : (n : ℕ) → range_with_len 0 (n + 1) ≡ range_with_len 0 n ++ n ∷ []
below_more n =
    let e : 0 + n ≡ n = omega arith in
    ap (range_with_len 0) (add-one n) ∙ range_more 0 n ∙ ap (λ b. range_with_len 0 n ++ b ∷ []) e

-- one more entry, and one more row
pub entry_more : (f : ℕ → Bool) (n : ℕ) (old new : List Bool) (b : Bool) → old ≡ map f (range_with_len 0 n) → b ≡ f n → new ≡ old ++ b ∷ [] → new ≡ map f (range_with_len 0 (n + 1))
entry_more f n old new b is entry pushed =
    let e : 0 + n ≡ n = omega arith in
    pushed ∙ ap (λ xs. xs ++ b ∷ []) is ∙ ap (λ c. map f (range_with_len 0 n) ++ c ∷ []) entry ∙ sym (map-range_with_len_more f 0 n n e)

pub entry_more_after : (first : List Bool) (f : ℕ → Bool) (n : ℕ) (old new : List Bool) (b : Bool) → old ≡ first ++ map f (range_with_len 0 n) → b ≡ f n → new ≡ old ++ b ∷ []
    → new ≡ first ++ map f (range_with_len 0 (n + 1))
entry_more_after first f n old new b is entry pushed =
    let e : 0 + n ≡ n = omega arith in
    pushed ∙ ap (λ xs. xs ++ b ∷ []) is ∙ append_assoc first (map f (range_with_len 0 n)) (b ∷ [])
    ∙ ap (λ c. first ++ (map f (range_with_len 0 n) ++ c ∷ [])) entry ∙ ap (λ xs. first ++ xs) (sym (map-range_with_len_more f 0 n n e))

pub row_more : {X : Type 0} (f : X → List Bool) (first : List Bool) (xs : List X) (x : X) (old new row : List Bool) → old ≡ first ++ flat_map f xs → row ≡ f x → new ≡ old ++ row
    → new ≡ first ++ flat_map f (xs ++ x ∷ [])
row_more f first xs x old new row is entry pushed = pushed ∙ ap (λ ys. ys ++ row) is ∙ ap (λ r. (first ++ flat_map f xs) ++ r) entry ∙ flat_map_more f first xs x

-- a number that is a member, or is not
pub rising_more : (n : ℕ) (s : Assignments) (old new : List ℕ) → old ≡ rising n s → set.contains s n ≡ true → new ≡ old ++ n ∷ [] → new ≡ rising (n + 1) s
rising_more n s old new is has pushed = pushed ∙ ap (λ xs. xs ++ n ∷ []) is ∙ sym (cond-true (set.contains s n) (rising n s ++ n ∷ []) (rising n s) has) ∙ sym (ap (λ k. rising k s) (add-one n))

pub rising_same : (n : ℕ) (s : Assignments) (old new : List ℕ) → old ≡ rising n s → set.contains s n ≡ false → new ≡ old → new ≡ rising (n + 1) s
rising_same n s old new is lacks same = same ∙ is ∙ sym (cond-false (set.contains s n) (rising n s ++ n ∷ []) (rising n s) lacks) ∙ sym (ap (λ k. rising k s) (add-one n))

-- rows of one width
abbrev pub AreRows : {X : Type 0} → (X → List Bool) → ℕ → List X → Type 0
AreRows f w xs = All (λ x. length (f x) ≡ w) xs

pub rows_length : {X : Type 0} (f : X → List Bool) (w : ℕ) (xs : List X) → AreRows f w xs → length (flat_map f xs) ≡ length xs * w
rows_length f w [] all = omega arith
rows_length f w (x ∷ xs) all =
    let here = All-head (λ x. length (f x) ≡ w) x xs all in
    let rest = rows_length f w xs (All-tail (λ x. length (f x) ≡ w) x xs all) in
    let whole = length-append (f x) (flat_map f xs) in
    omega arith

pub rows_entry : {X : Type 0} (f : X → List Bool) (w : ℕ) (xs : List X) → AreRows f w xs → (d : X) (t c i : ℕ) → i ≡ t * w + c → t < length xs → c < w
    → get_or (flat_map f xs) i false ≡ get_or (f (get_or xs t d)) c false
rows_entry f w [] all d t c i e inside within = absurd (omega arith)
rows_entry f w (x ∷ xs) all d zero c i e inside within =
    let here = All-head (λ x. length (f x) ≡ w) x xs all in
    let same : i ≡ c = omega arith in
    get_or_append_left (f x) (flat_map f xs) false i (omega arith) ∙ ap (λ j. get_or (f x) j false) same
rows_entry f w (x ∷ xs) all d (suc t) c i e inside within =
    let here = All-head (λ x. length (f x) ≡ w) x xs all in
    get_or-append_right (f x) (flat_map f xs) w i false here (omega arith)
    ∙ rows_entry f w xs (All-tail (λ x. length (f x) ≡ w) x xs all) d t c (i - w) (omega arith) (omega arith) within

-- an entry of one of three lists, one after another
module _ (A B C values : List Bool) (is : values ≡ (A ++ B) ++ C) where
  pub in_first : (i : ℕ) → i < length A → get_or values i false ≡ get_or A i false
  in_first i within =
      let long = length-append A B in
      ap (λ xs. get_or xs i false) is ∙ get_or_append_left (A ++ B) C false i (omega arith) ∙ get_or_append_left A B false i within

  pub in_second : (i j : ℕ) → i ≡ length A + j → j < length B → get_or values i false ≡ get_or B j false
  in_second i j e within =
      let long = length-append A B in
      let same : i - length A ≡ j = omega arith in
      ap (λ xs. get_or xs i false) is ∙ get_or_append_left (A ++ B) C false i (omega arith) ∙ get_or-append_right A B (length A) i false refl (omega arith)
      ∙ ap (λ k. get_or B k false) same

  pub in_third : (i j : ℕ) → i ≡ length A + length B + j → get_or values i false ≡ get_or C j false
  in_third i j e =
      let same : i - (length A + length B) ≡ j = omega arith in
      ap (λ xs. get_or xs i false) is ∙ get_or-append_right (A ++ B) C (length A + length B) i false (length-append A B) (omega arith)
      ∙ ap (λ k. get_or C k false) same

none_left : (t : ℕ) → t - t ≡ 0
none_left t = omega arith

-- the marks of one more assignment
pub marks_none : (on : Assignments) (g : Lattice) (array : Option Defects) (values : List Bool) → HasMarks on g array [] values values
marks_none on g array values = record { rows = []; added = sym (append-nil values); many = refl; each = λ t within. absurd (omega arith) }

pub marks_more : (on : Assignments) (g : Lattice) (array : Option Defects) (asked : List ℕ) (x : ℕ) (old mid new row : List Bool)
    → HasMarks on g array asked old mid → IsRowOfMarks on g array x row → new ≡ mid ++ row → HasMarks on g array (asked ++ x ∷ []) old new
marks_more on g array asked x old mid new row h is pushed = record {
  rows = h.rows ++ row ∷ [];
  added = row_more (λ r. r) old h.rows row mid new row h.added refl pushed;
  many = (
      let a = length-append h.rows (row ∷ []) in
      let b = length-append asked (x ∷ []) in
      let many = h.many in
      omega arith
      );
  each = λ t within.
      let many = h.many in
      let long = length-append asked (x ∷ []) in
      elim (cases_eq t (length asked)) [
        | inl e ↦
            let last : get_or (asked ++ x ∷ []) t 0 ≡ x = get_or-append_right asked (x ∷ []) t t 0 (sym e) (omega arith) ∙ ap (λ k. get_or (x ∷ []) k 0) (none_left t) in
            let end : get_or (h.rows ++ row ∷ []) t [] ≡ row = get_or-append_right h.rows (row ∷ []) t t [] (many ∙ sym e) (omega arith) ∙ ap (λ k. get_or (row ∷ []) k []) (none_left t) in
            subst (λ r. IsRowOfMarks on g array (get_or (asked ++ x ∷ []) t 0) r) (sym end) (subst (λ y. IsRowOfMarks on g array y row) (sym last) is)
        | inr ne ↦
            let before : t < length asked = omega arith in
            subst (λ r. IsRowOfMarks on g array (get_or (asked ++ x ∷ []) t 0) r) (sym (get_or_append_left h.rows (row ∷ []) [] t (omega arith)))
            (subst (λ y. IsRowOfMarks on g array y (get_or h.rows t [])) (sym (get_or_append_left asked (x ∷ []) 0 t before)) (h.each t before))
      ];
}

-- not too many values
pub few_values : (P k m n : ℕ) → P ≤ 32768 → k ≤ 22 → m ≤ 1024 → n ≡ P * k + m * P + m * P → n < 2 ^ 31
few_values P k m n few_cells few_controls few_asked e =
    let a : P * k ≤ 720896 = mul-le P k 32768 22 few_cells few_controls in
    let b : m * P ≤ 33554432 = mul-le m P 1024 32768 few_asked few_cells in
    omega arith
