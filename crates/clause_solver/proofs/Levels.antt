-- Decisions, and the values before the newest one.
use Rattle.std.proofs.Common.{◌≡◌, ℕ, zero, suc, ◌+◌, ◌-◌, ◌<◌, ◌≤◌, Bool, true, false, List, [], ◌∷◌, length, drop, ◌⊎◌, inl, inr, refl, sym, ap, ◌∙◌, subst, arith, Option, None, Some, length-drop}
use Rattle.std.proofs.Math.ListN.{drop_of_length-le}
use Rattle.std.proofs.lemmas.Bool.{false_from_ne_true, both_ways}
use Rattle.clause_core.specs.Literal.{Literal}
use Rattle.clause_solver.specs.Trail.{known_by, oldest, before_last, has_decision}
use Rattle.clause_solver.specs.declared.value.Value.{Value}
use Rattle.clause_solver.proofs.Reduce.{value-older}

pub before-forced : (v : Value) (older : List Value) (id : ℕ) → v.reason ≡ Some id → before_last (v ∷ older) ≡ before_last older
before-forced v older id e = ap (λ (o : Option ℕ). elim o as (λ _. List Value) [ None ↦ older | Some i ↦ before_last older ]) e

pub before-decided : (v : Value) (older : List Value) → v.reason ≡ None → before_last (v ∷ older) ≡ older
before-decided v older e = ap (λ (o : Option ℕ). elim o as (λ _. List Value) [ None ↦ older | Some i ↦ before_last older ]) e

pub decision-forced : (v : Value) (older : List Value) (id : ℕ) → v.reason ≡ Some id → has_decision (v ∷ older) ≡ has_decision older
decision-forced v older id e = ap (λ (o : Option ℕ). elim o as (λ _. Bool) [ None ↦ true | Some i ↦ has_decision older ]) e

pub decision-decided : (v : Value) (older : List Value) → v.reason ≡ None → has_decision (v ∷ older) ≡ true
decision-decided v older e = ap (λ (o : Option ℕ). elim o as (λ _. Bool) [ None ↦ true | Some i ↦ has_decision older ]) e

pub oldest-all : (values : List Value) (n : ℕ) → n ≡ length values → oldest n values ≡ values
oldest-all values n e = let none : length values - n ≡ 0 = omega arith in ap (λ m. drop m values) none

pub oldest-none : (values : List Value) (n : ℕ) → n ≤ 0 → oldest n values ≡ []
oldest-none values n e = let long : length values ≤ length values - n = omega arith in drop_of_length-le values long

pub length-oldest : (values : List Value) (n : ℕ) → n ≤ length values → length (oldest n values) ≡ n
length-oldest values n h = let e = length-drop (length values - n) values in omega arith

-- older values are values
drop-known : (values : List Value) (n : ℕ) (l : Literal) → known_by (drop n values) l ≡ true → known_by values l ≡ true
drop-known values zero l h = h
drop-known [] (suc n) l h = h
drop-known (e ∷ older) (suc n) l h = value-older e older l (drop-known older n l h)

drop-nil : (k : ℕ) → drop k (let none : List Value = [] in none) ≡ []
drop-nil zero = refl
drop-nil (suc k) = refl

drop-drop : (values : List Value) (m n : ℕ) → drop m (drop n values) ≡ drop (n + m) values
drop-drop values m zero = let e : m ≡ 0 + m = omega arith in ap (λ k. drop k values) e
drop-drop [] m (suc n) = drop-nil m ∙ sym (drop-nil (suc n + m))
drop-drop (e ∷ older) m (suc n) = let k : suc (n + m) ≡ suc n + m = omega arith in drop-drop older m n ∙ ap (λ j. drop j (e ∷ older)) k

pub known-oldest : (values : List Value) (m n : ℕ) (l : Literal) → m ≤ n → known_by (oldest m values) l ≡ true → known_by (oldest n values) l ≡ true
known-oldest values m n l h k =
    let gap : (length values - n) + ((length values - m) - (length values - n)) ≡ length values - m = omega arith in
    drop-known (oldest n values) ((length values - m) - (length values - n)) l
    (subst (λ vs. known_by vs l ≡ true) (sym (drop-drop values ((length values - m) - (length values - n)) (length values - n) ∙ ap (λ j. drop j values) gap)) k)

pub unknown-oldest : (values : List Value) (m n : ℕ) (l : Literal) → m ≤ n → known_by (oldest n values) l ≡ false → known_by (oldest m values) l ≡ false
unknown-oldest values m n l h u = false_from_ne_true (known_by (oldest m values) l) (λ k. both_ways (known_by (oldest n values) l) u (known-oldest values m n l h k))

pub oldest-oldest : (values : List Value) (m n : ℕ) → m ≤ n → n ≤ length values → oldest m (oldest n values) ≡ oldest m values
oldest-oldest values m n h k =
    let long = length-oldest values n k in
    let gap : (length values - n) + (length (oldest n values) - m) ≡ length values - m = omega arith in
    drop-drop values (length (oldest n values) - m) (length values - n) ∙ ap (λ j. drop j values) gap

-- what is known before the newest decision is known
pub known-before : (values : List Value) (l : Literal) → known_by (before_last values) l ≡ true → known_by values l ≡ true
known-before [] l h = h
known-before (e ∷ older) l h = by (e.reason) (known-before older l) h where
  by : (o : Option ℕ) → (known_by (before_last older) l ≡ true → known_by older l ≡ true) → known_by (elim o as (λ _. List Value) [ None ↦ older | Some id ↦ before_last older ]) l ≡ true → known_by (e ∷ older) l ≡ true
  by None more h = value-older e older l h
  by (Some id) more h = value-older e older l (more h)

-- what has no value among the older ones has none before the newest decision
pub unknown-before : (v : Value) (older : List Value) (l : Literal) → known_by older l ≡ false → known_by (before_last (v ∷ older)) l ≡ false
unknown-before v older l u = by (v.reason) where
  by : (o : Option ℕ) → known_by (elim o as (λ _. List Value) [ None ↦ older | Some id ↦ before_last older ]) l ≡ false
  by None = u
  by (Some id) = false_from_ne_true (known_by (before_last older) l) (λ k. both_ways (known_by older l) u (known-before older l k))

-- a decision is not newer than the newest one
pub decision_before : (values : List Value) (place : ℕ) (v : Value) → place < length values → oldest (place + 1) values ≡ v ∷ oldest place values → v.reason ≡ None → place ≤ length (before_last values)
decision_before [] place v h e d = absurd (omega arith)
decision_before (x ∷ older) place v h e d = elim (last place (length older) (omega arith)) [
  | inl here ↦
      let all : oldest (place + 1) (x ∷ older) ≡ x ∷ older = oldest-all (x ∷ older) (place + 1) (omega arith) in
      let first : x ≡ v = head-same (sym all ∙ e) in
      let old : before_last (x ∷ older) ≡ older = before-decided x older (ap (λ (w : Value). w.reason) first ∙ d) in
      let long = ap length old in omega arith
  | inr below ↦
      let inner : oldest (place + 1) older ≡ v ∷ oldest place older =
      sym (skip (place + 1) (omega arith)) ∙ e ∙ ap (λ r. v ∷ r) (skip place (omega arith)) in
      let r = decision_before older place v below inner d in by (x.reason) r
] where
  last : (a b : ℕ) → a < b + 1 → (a ≡ b) ⊎ (a < b)
  last a b k = grind arith

  head-same : {x v : Value} {older rest : List Value} → x ∷ older ≡ v ∷ rest → x ≡ v
  head-same e = cc

  skip : (n : ℕ) → n ≤ length older → oldest n (x ∷ older) ≡ oldest n older
  skip n k = let e : length (x ∷ older) - n ≡ suc (length older - n) = omega arith in ap (λ m. drop m (x ∷ older)) e

  by : (o : Option ℕ) → place ≤ length (before_last older) → place ≤ length (elim o as (λ _. List Value) [ None ↦ older | Some id ↦ before_last older ])
  by None r = omega arith
  by (Some id) r = r

-- one more of the oldest values
pub oldest-step : (values : List Value) (place : ℕ) → place < length values → (v : Value) × (oldest (place + 1) values ≡ v ∷ oldest place values)
oldest-step [] place h = absurd (omega arith)
oldest-step (x ∷ older) place h = elim (last place (length older) (omega arith)) [
  | inl here ↦ (x, oldest-all (x ∷ older) (place + 1) (omega arith) ∙ ap (λ r. x ∷ r) (sym (skip place (omega arith) ∙ oldest-all older place here)))
  | inr below ↦ let r = oldest-step older place below in (r.0, skip (place + 1) (omega arith) ∙ r.1 ∙ ap (λ s. r.0 ∷ s) (sym (skip place (omega arith))))
] where
  last : (a b : ℕ) → a < b + 1 → (a ≡ b) ⊎ (a < b)
  last a b k = grind arith

  skip : (n : ℕ) → n ≤ length older → oldest n (x ∷ older) ≡ oldest n older
  skip n k = let e : length (x ∷ older) - n ≡ suc (length older - n) = omega arith in ap (λ m. drop m (x ∷ older)) e
