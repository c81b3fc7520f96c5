-- The members of a set in rising order.
use Rattle.std.proofs.Common.{◌≡◌, ◌≢◌, ℕ, suc, zero, ◌+◌, ◌^◌, ◌≤◌, ◌<◌, inl, inr, true, false, cond, List, [], ◌∷◌, ◌++◌, length, get_or, refl, sym, ap, ◌∙◌, subst, arith, length-append, add-zero}
use Rattle.std.specs.Prelude.{All}
use Rattle.std.specs.FinSet as set
use Rattle.std.proofs.lemmas.Bool.{cases_lt}
use Rattle.std.proofs.lemmas.Bool.Decides.{eqb_tells}
use Rattle.std.proofs.lemmas.List.{get_or_append_left, get_or-append-add}
use Rattle.std.proofs.lemmas.List.Elements.{All-nil, All-push, All-weaker}
use Rattle.std.proofs.Math.Pow.{pow_mono}
use Rattle.cube_core.specs.Members.{Assignments}
use Rattle.cube_core.specs.Rising.{rising}
use Rattle.cube_core.specs.Function.{Function, IsFunction}
use Rattle.lattice_grid.specs.Told.{AreTold}

-- a member below n
abbrev pub IsBelowIn : ℕ → Assignments → ℕ → Type 0
IsBelowIn n s x = (x < n) × (set.contains s x ≡ true)

pub All-rising : (n : ℕ) (s : Assignments) → All (IsBelowIn n s) (rising n s)
All-rising zero s = All-nil (IsBelowIn zero s)
All-rising (suc n) s =
    let before : All (IsBelowIn (suc n) s) (rising n s) = All-weaker (IsBelowIn n s) (IsBelowIn (suc n) s) (λ x h. (omega (arith, h.0), h.1)) (rising n s) (All-rising n s) in
    elim (set.contains s n) as (λ b. set.contains s n ≡ b → All (IsBelowIn (suc n) s) (cond b (rising n s ++ n ∷ []) (rising n s))) [
      | true ↦ λ here. All-push (IsBelowIn (suc n) s) (rising n s) n before (omega arith, here)
      | false ↦ λ _. before
    ] refl

pub length-rising : (n : ℕ) (s : Assignments) → length (rising n s) ≤ n
length-rising zero s = omega arith
length-rising (suc n) s =
    let before = length-rising n s in
    elim (set.contains s n) as (λ b. length (cond b (rising n s ++ n ∷ []) (rising n s)) ≤ suc n) [
      | true ↦ omega (arith, length-append (rising n s) (n ∷ []), before)
      | false ↦ omega (arith, before)
    ]

-- an element of a list, with its place
pub record HasPlace (xs : List ℕ) (x : ℕ) : Type 0 where
  pub place : ℕ
  pub within : place < length xs
  pub here : (d : ℕ) → get_or xs place d ≡ x

HasPlace-append : (xs ys : List ℕ) (x : ℕ) → HasPlace xs x → HasPlace (xs ++ ys) x
HasPlace-append xs ys x h = record {
  place = h.place;
  within = omega (arith, h.within, length-append xs ys);
  here = λ d. get_or_append_left xs ys d h.place h.within ∙ h.here d;
}

HasPlace-push : (xs : List ℕ) (x : ℕ) → HasPlace (xs ++ x ∷ []) x
HasPlace-push xs x = record {
  place = length xs;
  within = omega (arith, length-append xs (x ∷ []));
  here = λ d. ap (λ i. get_or (xs ++ x ∷ []) i d) (sym (add-zero (length xs))) ∙ get_or-append-add xs (x ∷ []) 0 d;
}

pub HasPlace-rising : (n : ℕ) (s : Assignments) (x : ℕ) → x < n → set.contains s x ≡ true → HasPlace (rising n s) x
HasPlace-rising zero s x below here = absurd (omega arith)
HasPlace-rising (suc n) s x below here = elim (eqb_tells x n) [
  | inl same ↦ subst (λ b. HasPlace (cond b (rising n s ++ n ∷ []) (rising n s)) x) (sym (ap (set.contains s) (sym same.1) ∙ here))
      (subst (λ y. HasPlace (rising n s ++ n ∷ []) y) (sym same.1) (HasPlace-push (rising n s) n))
  | inr other ↦
      let ne : x ≢ n = other.1 in
      let before : HasPlace (rising n s) x = HasPlace-rising n s x (omega arith) here in
      elim (set.contains s n) as (λ b. HasPlace (cond b (rising n s ++ n ∷ []) (rising n s)) x) [
        | true ↦ HasPlace-append (rising n s) (n ∷ []) x before
        | false ↦ before
      ]
]

few_assignments : (n : ℕ) → n ≤ 10 → 2 ^ n ≤ 1024
few_assignments n few = pow_mono few

pub length-rising_few : (f : Function) (s : Assignments) → IsFunction f → length (rising (2 ^ f.inputs) s) ≤ 1024
length-rising_few f s h = let few = few_assignments f.inputs h.few in omega (arith, length-rising (2 ^ f.inputs) s, few)

pub rising_below : (f : Function) (s : Assignments) → IsFunction f → All (λ x. x < 1024) (rising (2 ^ f.inputs) s)
rising_below f s h = let few = few_assignments f.inputs h.few in All-weaker (IsBelowIn (2 ^ f.inputs) s) (λ x. x < 1024) (λ x k. omega (arith, k.0, few)) _ (All-rising (2 ^ f.inputs) s)

-- the members, rising, by their places
pub rising_at : (n : ℕ) (s : Assignments) (k d : ℕ) → k < length (rising n s) → (get_or (rising n s) k d < n) × (set.contains s (get_or (rising n s) k d) ≡ true)
rising_at n s k d within = All-rising n s k d within

-- what is true of each on and each off assignment is true of the two lists
pub rising_AreTold : (f : Function) (CanTell : ℕ → ℕ → Type 0) → IsFunction f → ((x y : ℕ) → IsBelowIn (2 ^ f.inputs) f.on x → IsBelowIn (2 ^ f.inputs) f.off y → CanTell x y) → AreTold CanTell (rising (2 ^ f.inputs) f.on) (rising (2 ^ f.inputs) f.off)
rising_AreTold f CanTell h each = record {
  told = λ j d within k e inside. each _ _ (All-rising (2 ^ f.inputs) f.on k e inside) (All-rising (2 ^ f.inputs) f.off j d within);
  few_ons = length-rising_few f f.on h;
  few_offs = length-rising_few f f.off h;
}

-- no assignment is both
pub not_both : (f : Function) → IsFunction f → (x y : ℕ) → set.contains f.on x ≡ true → set.contains f.off y ≡ true → x ≢ y
not_both f h x y on off same = h.disjoint x on (subst (λ z. set.contains f.off z ≡ true) (sym same) off)

-- the on and off assignments are apart, as lists that are these
pub AreApart-read : (f : Function) → IsFunction f → (ons offs : List ℕ) → ons ≡ rising (2 ^ f.inputs) f.on → offs ≡ rising (2 ^ f.inputs) f.off → AreTold (λ on off. on ≢ off) ons offs
AreApart-read f h ons offs p q = rw (p, q) (rising_AreTold f (λ on off. on ≢ off) h (λ x y on off. not_both f h x y on.1 off.1))

-- at most 1,024 of them, in a list that is this
pub few_read : (f : Function) (s : Assignments) (xs : List ℕ) → IsFunction f → xs ≡ rising (2 ^ f.inputs) s → length xs ≤ 1024
few_read f s xs h e = rw e (length-rising_few f s h)

-- the members rise
pub rising_rises : (n : ℕ) (s : Assignments) (k j : ℕ) → k < j → j < length (rising n s) → get_or (rising n s) k 0 < get_or (rising n s) j 0
rising_rises zero s k j h within = absurd (omega arith)
rising_rises (suc n) s k j h within = elim (set.contains s n) as (λ b. j < length (cond b (rising n s ++ n ∷ []) (rising n s)) → get_or (cond b (rising n s ++ n ∷ []) (rising n s)) k 0 < get_or (cond b (rising n s ++ n ∷ []) (rising n s)) j 0) [
  | true ↦ λ w. pushed w (rising_rises n s k j h)
  | false ↦ λ w. rising_rises n s k j h w
] within where
  pushed : j < length (rising n s ++ n ∷ []) → (j < length (rising n s) → get_or (rising n s) k 0 < get_or (rising n s) j 0) → get_or (rising n s ++ n ∷ []) k 0 < get_or (rising n s ++ n ∷ []) j 0
  pushed w before =
      let long = length-append (rising n s) (n ∷ []) in
      elim (cases_lt j (length (rising n s))) [
        | inl inside ↦ subst (λ a. a < get_or (rising n s ++ n ∷ []) j 0) (sym (get_or_append_left (rising n s) (n ∷ []) 0 k (omega arith)))
            (subst (λ b. get_or (rising n s) k 0 < b) (sym (get_or_append_left (rising n s) (n ∷ []) 0 j inside)) (before inside))
        | inr last ↦
            let at : j ≡ length (rising n s) + 0 = omega arith in
            let end : get_or (rising n s ++ n ∷ []) j 0 ≡ n = ap (λ i. get_or (rising n s ++ n ∷ []) i 0) at ∙ get_or-append-add (rising n s) (n ∷ []) 0 0 in
            let first : get_or (rising n s ++ n ∷ []) k 0 ≡ get_or (rising n s) k 0 = get_or_append_left (rising n s) (n ∷ []) 0 k (omega arith) in
            let small = (All-rising n s k 0 (omega arith)).0 in
            omega arith
      ]

-- a smaller member stands before a larger one
pub place_before : (n : ℕ) (s : Assignments) (j a : ℕ) (at : HasPlace (rising n s) a) → j < length (rising n s) → a < get_or (rising n s) j 0 → at.place < j
place_before n s j a at within less = elim (cases_lt at.place j) [
  | inl before ↦ before
  | inr past ↦
      let here : get_or (rising n s) at.place 0 ≡ a = at.here 0 in
      elim (eqb_tells j at.place) [
        | inl same ↦ let e : get_or (rising n s) j 0 ≡ get_or (rising n s) at.place 0 = ap (λ i. get_or (rising n s) i 0) same.1 in absurd (omega arith)
        | inr other ↦ let ne : j ≢ at.place = other.1 in let rises = rising_rises n s j at.place (omega arith) at.within in absurd (omega arith)
      ]
]
