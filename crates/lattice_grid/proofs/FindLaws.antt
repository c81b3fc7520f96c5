-- What the first element that passes a test is, and that there is none.
use Rattle.std.proofs.Common.{◌≡◌, ℕ, suc, zero, ◌+◌, ◌<◌, Bool, true, false, cond, List, [], ◌∷◌, ◌++◌, length, get_or, map, take, drop, Option, Some, None, refl, sym, ap, ◌∙◌, subst, arith}
use Rattle.std.specs.Prelude.{All, find, IfSome}
use Rattle.std.specs.Option.{option_map, option_or}
use Rattle.std.specs.List.{Contains}
use Rattle.std.proofs.lemmas.List.{take-append-drop, take_more}
use Rattle.std.proofs.Math.Seq.{drop-cons}
use Rattle.std.proofs.lemmas.List.Concat.{flat_map-append}
use Rattle.std.proofs.lemmas.List.Elements.{All-head, All-tail}
use Rattle.std.proofs.lemmas.List.Folds.{find-append}
use Rattle.std.proofs.lemmas.Option.{none-some, same_Some, some_pair_parts}
use Rattle.lattice_grid.specs.Start.{pairs_in}

pub find-map : {X Y : Type 0} (p : Y → Bool) (f : X → Y) (xs : List X) → find p (map f xs) ≡ option_map f (find (λ x. p (f x)) xs)
find-map p f [] = refl
find-map p f (x ∷ xs) = elim (p (f x)) as (λ b. cond b (Some (f x)) (find p (map f xs)) ≡ option_map f (cond b (Some x) (find (λ x. p (f x)) xs))) [
  | true ↦ refl
  | false ↦ find-map p f xs
]

-- what is found is an element, and passes
pub IfSome-find : {X : Type 0} (P : X → Type 0) (p : X → Bool) (xs : List X) → All P xs → IfSome (find p xs) (λ x. P x × (p x ≡ true))
IfSome-find P p [] all = tt
IfSome-find P p (x ∷ xs) all = elim (p x) as (λ b. p x ≡ b → IfSome (cond b (Some x) (find p xs)) (λ y. P y × (p y ≡ true))) [
  | true ↦ λ e. (All-head P x xs all, e)
  | false ↦ λ _. IfSome-find P p xs (All-tail P x xs all)
] refl

-- where nothing is found the first element does not pass, and nothing is found after it
find-None-first : {X : Type 0} (p : X → Bool) (x : X) (xs : List X) → find p (x ∷ xs) ≡ None → (p x ≡ false) × (find p xs ≡ None)
find-None-first p x xs e = elim (p x) as (λ b. p x ≡ b → cond b (Some x) (find p xs) ≡ None → (p x ≡ false) × (find p xs ≡ None)) [
  | true ↦ λ _ none. absurd (none-some x (sym none))
  | false ↦ λ first none. (first, none)
] refl e

-- so no element passes
pub find-None : {X : Type 0} (p : X → Bool) (xs : List X) → find p xs ≡ None → (k : ℕ) (d : X) → k < length xs → p (get_or xs k d) ≡ false
find-None p [] e k d within = absurd (omega arith)
find-None p (x ∷ xs) e zero d within = (find-None-first p x xs e).0
find-None p (x ∷ xs) e (suc k) d within = find-None p xs (find-None-first p x xs e).1 k d (omega arith)

pub find-None-Contains : {X : Type 0} (p : X → Bool) (xs : List X) (x : X) → find p xs ≡ None → Contains xs x → p x ≡ false
find-None-Contains p xs x none h = ap p (sym h.2) ∙ find-None p xs none h.0 x h.1

-- where something is found, its place: no element before it passes
pub record IsFoundAt {X : Type 0} (p : X → Bool) (xs : List X) (x : X) : Type 0 where
  pub place : ℕ
  pub within : place < length xs
  pub at : (d : X) → get_or xs place d ≡ x
  pub passes : p x ≡ true
  pub before : (k : ℕ) (d : X) → k < place → p (get_or xs k d) ≡ false

pub find-Some : {X : Type 0} (p : X → Bool) (xs : List X) (x : X) → find p xs ≡ Some x → IsFoundAt p xs x
find-Some p [] x e = absurd (none-some x e)
find-Some {X} p (y ∷ xs) x e = elim (p y) as (λ b. p y ≡ b → cond b (Some y) (find p xs) ≡ Some x → IsFoundAt p (y ∷ xs) x) [
  | true ↦ λ here is. let same : y ≡ x = same_Some y x is in record { place = 0; within = omega arith; at = λ _. same; passes = ap p (sym same) ∙ here; before = λ k d none. absurd (omega arith) }
  | false ↦ λ fails is.
      let rest = find-Some p xs x is in
      record {
        place = suc rest.place;
        within = omega (arith, rest.within);
        at = rest.at;
        passes = rest.passes;
        before = first fails rest;
      }
] refl e where
  first : p y ≡ false → (rest : IsFoundAt p xs x) → (k : ℕ) (d : X) → k < suc rest.place → p (get_or (y ∷ xs) k d) ≡ false
  first fails rest zero d h = fails
  first fails rest (suc k) d h = rest.before k d (omega arith)

-- ---- pairs
abbrev pub pair_with : {X Y : Type 0} → X → Y → X × Y
pair_with x y = (x, y)

-- the first pair that passes
pub find-pairs_in : (p : ℕ × ℕ → Bool) (x : ℕ) (ons offs : List ℕ) → find p (pairs_in (x ∷ ons) offs) ≡ option_or (option_map (pair_with x) (find (λ y. p (x, y)) offs)) (find p (pairs_in ons offs))
find-pairs_in p x ons offs = find-append p (map (λ y. (x, y)) offs) (pairs_in ons offs) ∙ ap (λ o. option_or o (find p (pairs_in ons offs))) (find-map p (λ y. (x, y)) offs)

-- where none is found there is none of the first on assignment, and none of the later ones
pairs_in-None-first : (p : ℕ × ℕ → Bool) (x : ℕ) (ons offs : List ℕ) → find p (pairs_in (x ∷ ons) offs) ≡ None → (find (λ y. p (x, y)) offs ≡ None) × (find p (pairs_in ons offs) ≡ None)
pairs_in-None-first p x ons offs e = elim (find (λ y. p (x, y)) offs) as (λ o. find (λ y. p (x, y)) offs ≡ o → option_or (option_map (pair_with x) o) (find p (pairs_in ons offs)) ≡ None → (find (λ y. p (x, y)) offs ≡ None) × (find p (pairs_in ons offs) ≡ None)) [
  | None ↦ λ none rest. (none, rest)
  | Some y ↦ λ _ some. absurd (none-some (x, y) (sym some))
] refl (sym (find-pairs_in p x ons offs) ∙ e)

-- so no pair passes
pub pairs_in-None : (p : ℕ × ℕ → Bool) (ons offs : List ℕ) → find p (pairs_in ons offs) ≡ None → (k j : ℕ) → k < length ons → j < length offs → p (get_or ons k 0, get_or offs j 0) ≡ false
pairs_in-None p [] offs e k j inside within = absurd (omega arith)
pairs_in-None p (x ∷ ons) offs e zero j inside within = find-None (λ y. p (x, y)) offs (pairs_in-None-first p x ons offs e).0 j 0 within
pairs_in-None p (x ∷ ons) offs e (suc k) j inside within = pairs_in-None p ons offs (pairs_in-None-first p x ons offs e).1 k j (omega arith) within

-- where one is found, its places
pub record IsPairAt (p : ℕ × ℕ → Bool) (ons offs : List ℕ) (x y : ℕ) : Type 0 where
  pub column : ℕ
  pub in_ons : column < length ons
  pub at_on : (d : ℕ) → get_or ons column d ≡ x
  pub off : IsFoundAt (λ b. p (x, b)) offs y
  pub before : (k j : ℕ) → k < column → j < length offs → p (get_or ons k 0, get_or offs j 0) ≡ false

pub pairs_in-Some : (p : ℕ × ℕ → Bool) (ons offs : List ℕ) (x y : ℕ) → find p (pairs_in ons offs) ≡ Some (x, y) → IsPairAt p ons offs x y
pairs_in-Some p [] offs x y e = absurd (none-some (x, y) e)
pairs_in-Some p (a ∷ ons) offs x y e = elim (find (λ b. p (a, b)) offs) as (λ o. find (λ b. p (a, b)) offs ≡ o → option_or (option_map (pair_with a) o) (find p (pairs_in ons offs)) ≡ Some (x, y) → IsPairAt p (a ∷ ons) offs x y) [
  | None ↦ λ none rest.
      let more = pairs_in-Some p ons offs x y rest in
      record { column = suc more.column; in_ons = omega (arith, more.in_ons); at_on = more.at_on; off = more.off; before = first none more }
  | Some b ↦ λ some is.
      let same = some_pair_parts a x b y is in
      record {
        column = 0;
        in_ons = omega arith;
        at_on = λ _. same.0;
        off = subst (λ z. IsFoundAt (λ b. p (z, b)) offs y) same.0 (find-Some (λ b. p (a, b)) offs y (some ∙ ap (λ z. Some z) same.1));
        before = λ k j none _. absurd (omega arith);
      }
] refl (sym (find-pairs_in p a ons offs) ∙ e) where
  first : find (λ b. p (a, b)) offs ≡ None → (more : IsPairAt p ons offs x y) → (k j : ℕ) → k < suc more.column → j < length offs → p (get_or (a ∷ ons) k 0, get_or offs j 0) ≡ false
  first none more zero j h within = find-None (λ b. p (a, b)) offs none j 0 within
  first none more (suc k) j h within = more.before k j (omega arith) within

-- ---- a loop over the on assignments
pub pairs_in-append : (xs ys offs : List ℕ) → pairs_in (xs ++ ys) offs ≡ pairs_in xs offs ++ pairs_in ys offs
pairs_in-append xs ys offs = flat_map-append (λ x. map (λ y. (x, y)) offs) xs ys

-- the pairs of one on assignment alone
only : (p : ℕ × ℕ → Bool) (x : ℕ) (offs : List ℕ) → find p (pairs_in (x ∷ []) offs) ≡ option_map (pair_with x) (find (λ y. p (x, y)) offs)
only p x offs = find-pairs_in p x [] offs ∙ go (find (λ y. p (x, y)) offs) where
  go : (o : Option ℕ) → option_or (option_map (pair_with x) o) None ≡ option_map (pair_with x) o
  go None = refl
  go (Some y) = refl

-- no pair of one on assignment more passes
pub none_more : (p : ℕ × ℕ → Bool) (ons offs : List ℕ) (i x : ℕ) → i < length ons → x ≡ get_or ons i x → find p (pairs_in (take i ons) offs) ≡ None → find (λ y. p (x, y)) offs ≡ None → find p (pairs_in (take (i + 1) ons) offs) ≡ None
none_more p ons offs i x below is before here =
    ap (λ xs. find p (pairs_in xs offs)) (take_more ons i x below ∙ ap (λ y. take i ons ++ y ∷ []) (sym is))
    ∙ ap (find p) (pairs_in-append (take i ons) (x ∷ []) offs) ∙ find-append p (pairs_in (take i ons) offs) (pairs_in (x ∷ []) offs)
    ∙ ap (λ o. option_or o (find p (pairs_in (x ∷ []) offs))) before ∙ only p x offs ∙ ap (option_map (pair_with x)) here

-- a pair of the next on assignment is the first that passes
pub some_found : (p : ℕ × ℕ → Bool) (ons offs : List ℕ) (i x y : ℕ) → i < length ons → x ≡ get_or ons i x → find p (pairs_in (take i ons) offs) ≡ None → find (λ y. p (x, y)) offs ≡ Some y → find p (pairs_in ons offs) ≡ Some (x, y)
some_found p ons offs i x y below is before here =
    let rest : List ℕ = drop (suc i) ons in
    ap (λ xs. find p (pairs_in xs offs)) (sym (take-append-drop i ons) ∙ ap (λ xs. take i ons ++ xs) (drop-cons ons i x below ∙ ap (λ z. z ∷ rest) (sym is)))
    ∙ ap (find p) (pairs_in-append (take i ons) (x ∷ rest) offs) ∙ find-append p (pairs_in (take i ons) offs) (pairs_in (x ∷ rest) offs)
    ∙ ap (λ o. option_or o (find p (pairs_in (x ∷ rest) offs))) before ∙ find-pairs_in p x rest offs
    ∙ ap (λ o. option_or (option_map (pair_with x) o) (find p (pairs_in rest offs))) here
