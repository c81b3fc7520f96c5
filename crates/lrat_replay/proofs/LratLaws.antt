-- Words of a line, up to a 0 and behind it.
use Rattle.std.proofs.Common.{◌≡◌, ℕ, true, false, cond, List, [], ◌∷◌, map, refl, sym, ap, ◌∙◌, inl, inr, ◌⊎◌, Option, None, Some, ℤ}
use Rattle.std.specs.List.{slice_split, onto_first}
use Rattle.std.specs.Option.{option_map, is_some}
use Rattle.std.specs.Prelude.{MatchOption}
use Rattle.std.proofs.lemmas.Bool.{cases_Bool, cond-true, cond-false}
use Rattle.std.proofs.lemmas.List.Splits.{slice_split-cons_yes, slice_split-cons_no}
use Rattle.clause_core.specs.Literal.{Literal}
use Rattle.clause_core.specs.declared.number.Number.{Number}
use Rattle.clause_core.specs.Number.{is_zero}
use Rattle.clause_core.specs.CnfRead.{literal_from}
use Rattle.lrat_replay.specs.declared.line.LineKind.TheVariants.{Add, Delete}
use Rattle.lrat_replay.specs.LratRead.{small_number, value_of, both, numbers_in, cut_in, addition_from, deletion_from, until, until_from, onto}

-- one more word
cut-bad : (w : List ℕ) (ws : List (List ℕ)) → small_number w ≡ None → cut_in (w ∷ ws) ≡ None
cut-bad w ws e = ap (λ o. option_map (slice_split is_zero) (both o (numbers_in ws))) e

cut-zero : (w : List ℕ) (ws : List (List ℕ)) (n : Number) → small_number w ≡ Some n → is_zero n ≡ true → cut_in (w ∷ ws) ≡ option_map (λ ps. [] ∷ ps) (cut_in ws)
cut-zero w ws n e z = ap (λ o. option_map (slice_split is_zero) (both o (numbers_in ws))) e ∙ by (numbers_in ws) where
  by : (o : Option (List Number)) → option_map (slice_split is_zero) (both (Some n) o) ≡ option_map (λ ps. [] ∷ ps) (option_map (slice_split is_zero) o)
  by None = refl
  by (Some ms) = ap Some (slice_split-cons_yes is_zero n ms z)

cut-number : (w : List ℕ) (ws : List (List ℕ)) (n : Number) → small_number w ≡ Some n → is_zero n ≡ false → cut_in (w ∷ ws) ≡ option_map (onto_first n) (cut_in ws)
cut-number w ws n e z = ap (λ o. option_map (slice_split is_zero) (both o (numbers_in ws))) e ∙ by (numbers_in ws) where
  by : (o : Option (List Number)) → option_map (slice_split is_zero) (both (Some n) o) ≡ option_map (onto_first n) (option_map (slice_split is_zero) o)
  by None = refl
  by (Some ms) = ap Some (slice_split-cons_no is_zero n ms z)

-- no 0 among the words that are numbers
abbrev pub NoZero : List (List ℕ) → Type 0
NoZero words = (cut_in words ≡ None) ⊎ ((one : List Number) × (cut_in words ≡ Some (one ∷ [])))

-- numbers before the first 0
pub record Zero {X : Type 0} (f : Number → X) (words : List (List ℕ)) (xs : List X) (rest : List (List ℕ)) : Type 0 where
  pub numbers : List Number
  pub are : xs ≡ map f numbers
  pub cut : cut_in words ≡ option_map (λ ps. numbers ∷ ps) (cut_in rest)

module _ {X : Type 0} (f : Number → X) where
  some_pair : (p q : List X × List (List ℕ)) → Some p ≡ Some q → p ≡ q
  some_pair p q h = cc

  not_some : (p : List X × List (List ℕ)) → Some p ≡ None → ⊥
  not_some p h = cc

  onto_none : (xs : List X) (o : Option (List X × List (List ℕ))) → onto xs o ≡ None → o ≡ None
  onto_none xs None h = refl
  onto_none xs (Some p) h = absurd (cc)

  pub until-none : (words : List (List ℕ)) → until f words ≡ None → NoZero words
  until-none [] h = inr ([], refl)
  until-none (w ∷ ws) h = by (small_number w) refl (until-none ws) where
    by : (o : Option Number) → small_number w ≡ o → (until f ws ≡ None → NoZero ws) → NoZero (w ∷ ws)
    by None e later = inl (cut-bad w ws e)
    by (Some n) e later = elim (cases_Bool (is_zero n)) [
      | inl z ↦ absurd (not_some ([], ws) (sym (ap (λ o. until_from f o ws (until f ws)) e ∙ cond-true (is_zero n) (Some ([], ws)) (onto (f n ∷ []) (until f ws)) z) ∙ h))
      | inr z ↦
          let k = sym (ap (λ o. until_from f o ws (until f ws)) e ∙ cond-false (is_zero n) (Some ([], ws)) (onto (f n ∷ []) (until f ws)) z) ∙ h in
          elim (later (onto_none (f n ∷ []) (until f ws) k)) [
            | inl a ↦ inl (cut-number w ws n e z ∙ ap (option_map (onto_first n)) a)
            | inr b ↦ inr (n ∷ b.0, cut-number w ws n e z ∙ ap (option_map (onto_first n)) b.1)
          ]
    ]

  -- a number before others
  more_numbers : (n : Number) (ns : List Number) (o : Option (List (List Number))) → option_map (onto_first n) (option_map (λ ps. ns ∷ ps) o) ≡ option_map (λ ps. (n ∷ ns) ∷ ps) o
  more_numbers n ns None = refl
  more_numbers n ns (Some ps) = refl

  -- what is found behind a number
  found_behind : (w : List ℕ) (ws : List (List ℕ)) (n : Number) (xs : List X) (rest : List (List ℕ)) (o : Option (List X × List (List ℕ))) → small_number w ≡ Some n → is_zero n ≡ false
      → ((ys : List X) (later : List (List ℕ)) → o ≡ Some (ys, later) → Zero f ws ys later) → onto (f n ∷ []) o ≡ Some (xs, rest) → Zero f (w ∷ ws) xs rest
  found_behind w ws n xs rest None e z later k = absurd (cc)
  found_behind w ws n xs rest (Some p) e z later k =
      let same = some_pair (f n ∷ p.0, p.1) (xs, rest) k in
      let s = later p.0 p.1 refl in
      record {
        numbers = n ∷ s.numbers;
        are = sym (ap (λ q. q.0) same) ∙ ap (λ r. f n ∷ r) s.are;
        cut = cut-number w ws n e z ∙ ap (option_map (onto_first n)) s.cut ∙ more_numbers n s.numbers (cut_in p.1) ∙ ap (λ r. option_map (λ ps. (n ∷ s.numbers) ∷ ps) (cut_in r)) (ap (λ q. q.1) same);
      }

  pub until-some : (words : List (List ℕ)) (xs : List X) (rest : List (List ℕ)) → until f words ≡ Some (xs, rest) → Zero f words xs rest
  until-some [] xs rest h = absurd (cc)
  until-some (w ∷ ws) xs rest h = by (small_number w) refl (until-some ws) where
    by : (o : Option Number) → small_number w ≡ o → ((ys : List X) (later : List (List ℕ)) → until f ws ≡ Some (ys, later) → Zero f ws ys later) → Zero f (w ∷ ws) xs rest
    by None e later = absurd (not_some (xs, rest) (sym h ∙ ap (λ o. until_from f o ws (until f ws)) e))
    by (Some n) e later = elim (cases_Bool (is_zero n)) [
      | inl z ↦
          let k = sym (ap (λ o. until_from f o ws (until f ws)) e ∙ cond-true (is_zero n) (Some ([], ws)) (onto (f n ∷ []) (until f ws)) z) ∙ h in
          let same = some_pair ([], ws) (xs, rest) k in
          record {
            numbers = [];
            are = sym (ap (λ q. q.0) same);
            cut = cut-zero w ws n e z ∙ ap (λ r. option_map (λ ps. [] ∷ ps) (cut_in r)) (ap (λ q. q.1) same);
          }
      | inr z ↦
          let k = sym (ap (λ o. until_from f o ws (until f ws)) e ∙ cond-false (is_zero n) (Some ([], ws)) (onto (f n ∷ []) (until f ws)) z) ∙ h in
          found_behind w ws n xs rest (until f ws) e z later k
    ]

-- a list of pieces that is not one empty piece
abbrev More : List (List Number) → Type 0
More [] = ⊥
More ([] ∷ []) = ⊥
More ([] ∷ p ∷ ps) = Unit {0}
More ((n ∷ ns) ∷ ps) = Unit {0}

split_more : (numbers : List Number) (n : Number) → More (slice_split is_zero (n ∷ numbers))
split_more numbers n = elim (is_zero n) as (λ b. More (cond b ([] ∷ slice_split is_zero numbers) (onto_first n (slice_split is_zero numbers)))) [
  | true ↦ behind_zero (slice_split is_zero numbers) (some_split numbers)
  | false ↦ onto_more (slice_split is_zero numbers)
] where
  behind_zero : (ps : List (List Number)) → (ps ≡ [] → ⊥) → More ([] ∷ ps)
  behind_zero [] h = h refl
  behind_zero (p ∷ ps) h = tt

  onto_more : (ps : List (List Number)) → More (onto_first n ps)
  onto_more [] = tt
  onto_more (p ∷ ps) = tt

  some_split : (ms : List Number) → slice_split is_zero ms ≡ [] → ⊥
  some_split [] = λ e. cc
  some_split (m ∷ ms) = elim (is_zero m) as (λ b. cond b ([] ∷ slice_split is_zero ms) (onto_first m (slice_split is_zero ms)) ≡ [] → ⊥) [
    | true ↦ λ e. cc
    | false ↦ onto_some m (slice_split is_zero ms)
  ] where
    onto_some : (m : Number) (ps : List (List Number)) → onto_first m ps ≡ [] → ⊥
    onto_some m [] e = cc
    onto_some m (p ∷ ps) e = cc

-- behind some words there is more than one empty piece
cut-more : (w : List ℕ) (ws : List (List ℕ)) → (cut_in (w ∷ ws) ≡ None) ⊎ ((ps : List (List Number)) × (cut_in (w ∷ ws) ≡ Some ps) × More ps)
cut-more w ws = by (small_number w) (numbers_in ws) refl refl where
  by : (o : Option Number) (numbers : Option (List Number)) → small_number w ≡ o → numbers_in ws ≡ numbers → (cut_in (w ∷ ws) ≡ None) ⊎ ((ps : List (List Number)) × (cut_in (w ∷ ws) ≡ Some ps) × More ps)
  by None numbers e f = inl (cut-bad w ws e)
  by (Some n) None e f = inl (λ i. option_map (slice_split is_zero) (both (e i) (f i)))
  by (Some n) (Some ms) e f = inr (slice_split is_zero (n ∷ ms), (λ i. option_map (slice_split is_zero) (both (e i) (f i))), split_more ms n)

-- a deletion
pub deletion-none : (words : List (List ℕ)) → until value_of words ≡ None → None ≡ deletion_from (cut_in words)
deletion-none words h = elim (until-none value_of words h) [
  | inl a ↦ sym (ap deletion_from a)
  | inr b ↦ sym (ap deletion_from b.1)
]

pub deletion-more : (words : List (List ℕ)) (xs : List ℤ) (w : List ℕ) (ws : List (List ℕ)) → until value_of words ≡ Some (xs, w ∷ ws) → None ≡ deletion_from (cut_in words)
deletion-more words xs w ws h =
    let s = until-some value_of words xs (w ∷ ws) h in
    elim (cut-more w ws) [
      | inl a ↦ sym (ap deletion_from (s.cut ∙ ap (option_map (λ ps. s.numbers ∷ ps)) a))
      | inr b ↦ sym (ap deletion_from (s.cut ∙ ap (option_map (λ ps. s.numbers ∷ ps)) b.1) ∙ none s.numbers b.0 b.2)
    ] where
      none : (ns : List Number) (ps : List (List Number)) → More ps → deletion_from (Some (ns ∷ ps)) ≡ None
      none ns [] h = refl
      none ns ([] ∷ []) h = absurd h
      none ns ([] ∷ p ∷ ps) h = refl
      none ns ((m ∷ ms) ∷ ps) h = refl

pub deletion-end : (words : List (List ℕ)) (xs : List ℤ) (rest : List (List ℕ)) → until value_of words ≡ Some (xs, rest) → rest ≡ [] → Some (Delete xs) ≡ deletion_from (cut_in words)
deletion-end words xs rest h e =
    let s = until-some value_of words xs rest h in
    sym (ap deletion_from (s.cut ∙ ap (λ r. option_map (λ ps. s.numbers ∷ ps) (cut_in r)) e) ∙ ap (λ ys. Some (Delete ys)) (sym s.are))

-- an addition
pub addition-none : (id : ℕ) (words : List (List ℕ)) → until literal_from words ≡ None → None ≡ addition_from id (cut_in words)
addition-none id words h = elim (until-none literal_from words h) [
  | inl a ↦ sym (ap (addition_from id) a)
  | inr b ↦ sym (ap (addition_from id) b.1)
]

pub addition-none-2 : (id : ℕ) (words : List (List ℕ)) (lits : List Literal) (rest : List (List ℕ)) → until literal_from words ≡ Some (lits, rest) → until value_of rest ≡ None → None ≡ addition_from id (cut_in words)
addition-none-2 id words lits rest h k =
    let s = until-some literal_from words lits rest h in
    elim (until-none value_of rest k) [
      | inl a ↦ sym (ap (addition_from id) (s.cut ∙ ap (option_map (λ ps. s.numbers ∷ ps)) a))
      | inr b ↦ sym (ap (addition_from id) (s.cut ∙ ap (option_map (λ ps. s.numbers ∷ ps)) b.1))
    ]

pub addition-more : (id : ℕ) (words : List (List ℕ)) (lits : List Literal) (rest : List (List ℕ)) (hints : List ℤ) (w : List ℕ) (ws : List (List ℕ)) → until literal_from words ≡ Some (lits, rest)
    → until value_of rest ≡ Some (hints, w ∷ ws) → None ≡ addition_from id (cut_in words)
addition-more id words lits rest hints w ws h k =
    let s = until-some literal_from words lits rest h in
    let t = until-some value_of rest hints (w ∷ ws) k in
    elim (cut-more w ws) [
      | inl a ↦ sym (ap (addition_from id) (s.cut ∙ ap (option_map (λ ps. s.numbers ∷ ps)) (t.cut ∙ ap (option_map (λ ps. t.numbers ∷ ps)) a)))
      | inr b ↦ sym (ap (addition_from id) (s.cut ∙ ap (option_map (λ ps. s.numbers ∷ ps)) (t.cut ∙ ap (option_map (λ ps. t.numbers ∷ ps)) b.1)) ∙ none s.numbers t.numbers b.0 b.2)
    ] where
      none : (ns ms : List Number) (ps : List (List Number)) → More ps → addition_from id (Some (ns ∷ ms ∷ ps)) ≡ None
      none ns ms [] h = refl
      none ns ms ([] ∷ []) h = absurd h
      none ns ms ([] ∷ p ∷ ps) h = refl
      none ns ms ((k ∷ ks) ∷ ps) h = refl

pub addition-end : (id : ℕ) (words : List (List ℕ)) (lits : List Literal) (rest : List (List ℕ)) (hints : List ℤ) (last : List (List ℕ)) → until literal_from words ≡ Some (lits, rest)
    → until value_of rest ≡ Some (hints, last) → last ≡ [] → Some (Add (record { id = id; clause = lits; hints = hints })) ≡ addition_from id (cut_in words)
addition-end id words lits rest hints last h k e =
    let s = until-some literal_from words lits rest h in
    let t = until-some value_of rest hints last k in
    sym (ap (addition_from id) (s.cut ∙ ap (option_map (λ ps. s.numbers ∷ ps)) (t.cut ∙ ap (λ r. option_map (λ ps. t.numbers ∷ ps) (cut_in r)) e))
    ∙ (λ i. Some (Add (record { id = id; clause = sym s.are i; hints = sym t.are i }))))

-- what a test of an option tells
pub when_some : {X : Type 0} (o : Option X) (P : Type 0) (Q : X → Type 0) → true ≡ is_some o → MatchOption o P Q → (x : X) × Q x
when_some None P Q e h = absurd (cc)
when_some (Some x) P Q e h = (x, h)

pub when_none : {X : Type 0} (o : Option X) (P : Type 0) (Q : X → Type 0) → false ≡ is_some o → MatchOption o P Q → P
when_none None P Q e h = h
when_none (Some x) P Q e h = absurd (cc)
