-- The literals and controls that rails allow.
use Rattle.std.proofs.Common.{◌≡◌, ℕ, suc, zero, ◌+◌, ◌*◌, ◌≤◌, ◌<◌, inl, inr, IsTrue, List, [], ◌∷◌, ◌++◌, length, refl, sym, ap, ◌∙◌, subst, arith, append_assoc, length-append, Bool, true, false, cond, get_or}
use Rattle.std.specs.Prelude.{All}
use Rattle.std.proofs.Math.ListN.{get_or-eq_default}
use Rattle.std.proofs.lemmas.Bool.{cases_lt}
use Rattle.std.specs.List.{Contains, filter}
use Rattle.std.proofs.lemmas.List.Elements.{All-nil, All-cons, All-append, All-filter, All-weaker, filter_passes, filter-append, Contains-append_left, Contains-append_right, Contains-push}
use Rattle.cube_core.specs.Assignment.{bit}
use Rattle.lattice_grid.specs.declared.control.Control.{Control}
use Rattle.lattice_grid.specs.declared.control.Control.TheVariants.{Zero, One, Plain, Bar}
use Rattle.lattice_grid.specs.Control.{NamesBelow}
use Rattle.lattice_grid.specs.declared.shape.Place.{Place}
use Rattle.lattice_grid.specs.Lattice.{Lattice, control_at}
use Rattle.lattice_grid.specs.Rails.{is_allowed, MayStand, IsOverRails, literals_below, literals_of, controls_of}
use Rattle.lattice_grid.proofs.Lists.{flat_map_range_more}

-- all bits of the greatest rails are set
pub all_bits : (i : ℕ) → i < 10 → IsTrue (bit 1048575 (2 * i)) × IsTrue (bit 1048575 (2 * i + 1))
all_bits zero h = (refl, refl)
all_bits (suc zero) h = (refl, refl)
all_bits (suc (suc zero)) h = (refl, refl)
all_bits (suc (suc (suc zero))) h = (refl, refl)
all_bits (suc (suc (suc (suc zero)))) h = (refl, refl)
all_bits (suc (suc (suc (suc (suc zero))))) h = (refl, refl)
all_bits (suc (suc (suc (suc (suc (suc zero)))))) h = (refl, refl)
all_bits (suc (suc (suc (suc (suc (suc (suc zero))))))) h = (refl, refl)
all_bits (suc (suc (suc (suc (suc (suc (suc (suc zero)))))))) h = (refl, refl)
all_bits (suc (suc (suc (suc (suc (suc (suc (suc (suc zero))))))))) h = (refl, refl)
all_bits (suc (suc (suc (suc (suc (suc (suc (suc (suc (suc i)))))))))) h = absurd (omega arith)

-- what names an input below a number names one below each larger number
pub NamesBelow-more : (n m : ℕ) → n ≤ m → (c : Control) → NamesBelow n c → NamesBelow m c
NamesBelow-more n m more Zero h = tt
NamesBelow-more n m more One h = tt
NamesBelow-more n m more (Plain i) h = omega arith
NamesBelow-more n m more (Bar i) h = omega arith

-- the literals of one input more
pub literals_of-more : (n rails : ℕ) → literals_of (n + 1) rails ≡ (literals_of n rails ++ filter (is_allowed rails) (Plain n ∷ [])) ++ filter (is_allowed rails) (Bar n ∷ [])
literals_of-more n rails =
    ap (filter (is_allowed rails)) (flat_map_range_more (λ i. Plain i ∷ Bar i ∷ []) n)
    ∙ filter-append (is_allowed rails) (literals_below n) (Plain n ∷ Bar n ∷ [])
    ∙ ap (λ xs. literals_of n rails ++ xs) (filter-append (is_allowed rails) (Plain n ∷ []) (Bar n ∷ []))
    ∙ sym (append_assoc (literals_of n rails) (filter (is_allowed rails) (Plain n ∷ [])) (filter (is_allowed rails) (Bar n ∷ [])))

-- two literals of one input are added
pub literals_pushed : (n rails : ℕ) (start old mid new : List Control) → old ≡ start ++ literals_of n rails → mid ≡ old ++ filter (is_allowed rails) (Plain n ∷ []) → new ≡ mid ++ filter (is_allowed rails) (Bar n ∷ [])
    → new ≡ start ++ literals_of (n + 1) rails
literals_pushed n rails start old mid new e f g =
    let plain : List Control = filter (is_allowed rails) (Plain n ∷ []) in
    let bar : List Control = filter (is_allowed rails) (Bar n ∷ []) in
    g ∙ ap (λ xs. xs ++ bar) (f ∙ ap (λ xs. xs ++ plain) e ∙ append_assoc start (literals_of n rails) plain)
    ∙ append_assoc start (literals_of n rails ++ plain) bar ∙ ap (λ xs. start ++ xs) (sym (literals_of-more n rails))

-- each of the literals names one of the inputs
names_of_below : (n : ℕ) → All (NamesBelow n) (literals_below n)
names_of_below zero = All-nil (NamesBelow zero)
names_of_below (suc n) =
    let next : suc n ≡ n + 1 = omega arith in
    let more : literals_below (suc n) ≡ literals_below n ++ Plain n ∷ Bar n ∷ [] = ap literals_below next ∙ flat_map_range_more (λ i. Plain i ∷ Bar i ∷ []) n in
    subst (All (NamesBelow (suc n))) (sym more) (All-append (NamesBelow (suc n)) (literals_below n) (Plain n ∷ Bar n ∷ [])
    (All-weaker (NamesBelow n) (NamesBelow (suc n)) (NamesBelow-more n (suc n) (omega arith)) (literals_below n) (names_of_below n))
    (All-cons (NamesBelow (suc n)) (Plain n) (Bar n ∷ []) (omega arith) (All-cons (NamesBelow (suc n)) (Bar n) [] (omega arith) (All-nil (NamesBelow (suc n))))))

pub literals-MayStand : (n rails : ℕ) → All (MayStand n rails) (literals_of n rails)
literals-MayStand n rails k d within = (All-filter (is_allowed rails) (NamesBelow n) (literals_below n) (names_of_below n) k d within, filter_passes (is_allowed rails) (literals_below n) k d within)

pub controls-MayStand : (n rails : ℕ) → All (MayStand n rails) (controls_of n rails)
unfolding controls_of
controls-MayStand n rails =
    All-cons (MayStand n rails) Zero (One ∷ literals_of n rails) (tt, refl) (All-cons (MayStand n rails) One (literals_of n rails) (tt, refl) (literals-MayStand n rails))

-- what may stand names an input below ten
pub MayStand-NamesBelow : (n rails : ℕ) → n ≤ 10 → (cells : List Control) → All (MayStand n rails) cells → All (NamesBelow 10) cells
MayStand-NamesBelow n rails few cells all = All-weaker (MayStand n rails) (NamesBelow 10) (λ c h. NamesBelow-more n 10 few c h.0) cells all

-- the same of lists that are these
pub literals_stand : (n rails : ℕ) (found : List Control) → found ≡ literals_of n rails → All (MayStand n rails) found
literals_stand n rails found e = subst (All (MayStand n rails)) (sym e) (literals-MayStand n rails)

pub controls_stand : (n rails : ℕ) (found : List Control) → found ≡ controls_of n rails → All (MayStand n rails) found
controls_stand n rails found e = subst (All (MayStand n rails)) (sym e) (controls-MayStand n rails)

-- the control at any place of a lattice may stand
pub stands_at : (n rails : ℕ) (g : Lattice) (p : Place) → IsOverRails n rails g → MayStand n rails (control_at g p)
stands_at n rails g p over =
    let i : ℕ = p.row * g.size.cols + p.col in
    elim (cases_lt i (length g.cells)) [
      | inl within ↦ over i Zero within
      | inr past ↦ subst (MayStand n rails) (sym (get_or-eq_default g.cells Zero past)) (tt, refl)
    ]

-- ---- which literals there are
filter_one : (p : Control → Bool) (c : Control) → p c ≡ true → Contains (filter p (c ∷ [])) c
filter_one p c e = subst (λ b. Contains (cond b (c ∷ []) []) c) (sym e) (Contains-push [] c)

-- each allowed literal of an input below n is one of them
pub literals-Plain : (n rails i : ℕ) → i < n → is_allowed rails (Plain i) ≡ true → Contains (literals_of n rails) (Plain i)
literals-Plain zero rails i h e = absurd (omega arith)
literals-Plain (suc n) rails i h e =
    let next : suc n ≡ n + 1 = omega arith in
    let before : List Control = literals_of n rails in
    let plain : List Control = filter (is_allowed rails) (Plain n ∷ []) in
    let bar : List Control = filter (is_allowed rails) (Bar n ∷ []) in
    subst (λ xs. Contains xs (Plain i)) (sym (ap (λ k. literals_of k rails) next ∙ literals_of-more n rails)) (elim (cases_lt i n) [
      | inl below ↦ Contains-append_left (before ++ plain) bar (Plain i) (Contains-append_left before plain (Plain i) (literals-Plain n rails i below e))
      | inr past ↦
          let same : n ≡ i = omega arith in
          Contains-append_left (before ++ plain) bar (Plain i) (Contains-append_right before plain (Plain i) (subst (λ k. Contains (filter (is_allowed rails) (Plain k ∷ [])) (Plain i)) (sym same) (filter_one (is_allowed rails) (Plain i) e)))
    ])

pub literals-Bar : (n rails i : ℕ) → i < n → is_allowed rails (Bar i) ≡ true → Contains (literals_of n rails) (Bar i)
literals-Bar zero rails i h e = absurd (omega arith)
literals-Bar (suc n) rails i h e =
    let next : suc n ≡ n + 1 = omega arith in
    let before : List Control = literals_of n rails in
    let plain : List Control = filter (is_allowed rails) (Plain n ∷ []) in
    let bar : List Control = filter (is_allowed rails) (Bar n ∷ []) in
    subst (λ xs. Contains xs (Bar i)) (sym (ap (λ k. literals_of k rails) next ∙ literals_of-more n rails)) (elim (cases_lt i n) [
      | inl below ↦ Contains-append_left (before ++ plain) bar (Bar i) (Contains-append_left before plain (Bar i) (literals-Bar n rails i below e))
      | inr past ↦
          let same : n ≡ i = omega arith in
          Contains-append_right (before ++ plain) bar (Bar i) (subst (λ k. Contains (filter (is_allowed rails) (Bar k ∷ [])) (Bar i)) (sym same) (filter_one (is_allowed rails) (Bar i) e))
    ])

-- ---- the controls
-- each control that may stand is one of them
pub controls-Contains : (n rails : ℕ) (c : Control) → MayStand n rails c → Contains (controls_of n rails) c
unfolding controls_of
controls-Contains n rails Zero h = (0, omega arith, refl)
controls-Contains n rails One h = (1, omega arith, refl)
controls-Contains n rails (Plain i) h = Contains-append_right (Zero ∷ One ∷ []) (literals_of n rails) (Plain i) (literals-Plain n rails i h.0 h.1)
controls-Contains n rails (Bar i) h = Contains-append_right (Zero ∷ One ∷ []) (literals_of n rails) (Bar i) (literals-Bar n rails i h.0 h.1)

-- a control by its number
pub control_at_number : (n rails c : ℕ) → MayStand n rails (get_or (controls_of n rails) c Zero)
control_at_number n rails c = elim (cases_lt c (length (controls_of n rails))) [
  | inl within ↦ controls-MayStand n rails c Zero within
  | inr past ↦ subst (MayStand n rails) (sym (get_or-eq_default (controls_of n rails) Zero past)) (tt, refl)
]

filter_few : (p : Control → Bool) (xs : List Control) → length (filter p xs) ≤ length xs
filter_few p [] = omega arith
filter_few p (x ∷ xs) = let few = filter_few p xs in elim (p x) as (λ b. length (cond b (x ∷ filter p xs) (filter p xs)) ≤ suc (length xs)) [ true ↦ omega arith | false ↦ omega arith ]

length-literals_below : (n : ℕ) → length (literals_below n) ≡ 2 * n
length-literals_below zero = refl
length-literals_below (suc n) =
    let next : suc n ≡ n + 1 = omega arith in
    let more : length (literals_below (suc n)) ≡ length (literals_below n ++ Plain n ∷ Bar n ∷ []) = ap (λ k. length (literals_below k)) next ∙ ap length (flat_map_range_more (λ i. Plain i ∷ Bar i ∷ []) n) in
    let before = length-literals_below n in
    let both = length-append (literals_below n) (Plain n ∷ Bar n ∷ []) in
    omega arith

-- there are at most two for each input, and the constants
pub length-controls_of : (n rails : ℕ) → length (controls_of n rails) ≤ 2 * n + 2
unfolding controls_of
length-controls_of n rails =
    let few = filter_few (is_allowed rails) (literals_below n) in
    let all = length-literals_below n in
    omega arith

pub some_controls : (n rails : ℕ) → 2 ≤ length (controls_of n rails)
unfolding controls_of
some_controls n rails = omega arith

-- each of them names an input below ten
pub names_at_number : (n rails c : ℕ) → n ≤ 10 → NamesBelow 10 (get_or (controls_of n rails) c Zero)
names_at_number n rails c few = NamesBelow-more n 10 few (get_or (controls_of n rails) c Zero) (control_at_number n rails c).0
