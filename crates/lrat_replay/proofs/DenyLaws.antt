-- The tests of a clause before its hints.
use Rattle.std.proofs.Common.{◌≡◌, ℕ, zero, suc, ◌+◌, ◌*◌, ◌<◌, ◌≤◌, Bool, true, false, not, cond, ◌||◌, List, [], ◌∷◌, ◌++◌, take, drop, length, get_or, sym, ap, ◌∙◌, subst, arith, inl, inr, ◌⊎◌, drop-cons, add-one, Some, ℤ}
use Rattle.std.specs.Prelude.{nat_lt}
use Rattle.std.proofs.lemmas.Bool.{cases_Bool, or_cases, or_left, or_right, both_ways, cond-true, cond-false}
use Rattle.std.proofs.lemmas.Bool.Decides.{nat_tests}
use Rattle.std.proofs.lemmas.List.{take_more}
use Rattle.std.proofs.lemmas.List.Elements.{All-push}
use Rattle.clause_core.specs.Literal.{Literal, flip, same, has}
use Rattle.clause_core.specs.Formula.{IsOver}
use Rattle.clause_core.proofs.Tools.{flip-flip, same-true, same-at, same-flip, has-first, has-rest, has-cases}
use Rattle.lrat_replay.specs.Status.{with_literal}
use Rattle.lrat_replay.specs.Hints.{FitsIn}
use Rattle.lrat_replay.specs.declared.fault.StepFault.TheVariants.{Order, Variable, Tautology}
use Rattle.lrat_replay.specs.Book.{Book, last_id, live, denied, run, fault_of_outcome, some_flip, some_above, addition_fault}

sign_bound : (b : Bool) → cond b 1 0 ≤ 1
sign_bound true = omega arith
sign_bound false = omega arith

-- literals over so many variables have marks
pub fits_over : (vars width : ℕ) (clause : List Literal) → IsOver vars clause → 2 * vars + 2 ≤ width → FitsIn width clause
fits_over vars width clause over wide = λ k d h.
    let x = get_or clause k d in
    let o = over k d h in
    let a = sign_bound x.negated in
    let b = sign_bound (not x.negated) in
    (omega (arith, o.1, a, wide), omega (arith, o.1, b, wide))

-- one more literal
module _ (clause : List Literal) (i : ℕ) (x : Literal) (h : i < length clause) (e : x ≡ get_or clause i x) where
  pub more : take (i + 1) clause ≡ take i clause ++ x ∷ []
  more = take_more clause i x h ∙ ap (λ y. take i clause ++ y ∷ []) (sym e)

  pub over_more : (vars : ℕ) → IsOver vars (take i clause) → 1 ≤ x.var → x.var ≤ vars → IsOver vars (take (i + 1) clause)
  over_more vars o a b = subst (IsOver vars) (sym more) (All-push (λ l. (1 ≤ l.var) × (l.var ≤ vars)) (take i clause) x o (a, b))

  pub above_more : (vars : ℕ) → x.var ≤ vars → some_above vars (drop (i + 1) clause) ≡ some_above vars (drop i clause)
  above_more vars b =
      let below : nat_lt vars x.var ≡ false = grind (arith, nat_tests) in
      sym (ap (some_above vars) (drop-cons clause i x h) ∙ (λ j. nat_lt vars (sym e j).var || some_above vars (drop (sym (add-one i) j) clause)) ∙ ap (λ t. t || some_above vars (drop (i + 1) clause)) below)

-- a literal and one more clause literal
pub has-push : (c : List Literal) (x l : Literal) → has (c ++ x ∷ []) l ≡ (has c l || same x l)
has-push [] x l = shape (same x l) where
  shape : (b : Bool) → (b || false) ≡ (false || b)
  shape b = grind arith
has-push (y ∷ c) x l = ap (λ b. same y l || b) (has-push c x l) ∙ shape (same y l) (has c l) (same x l) where
  shape : (a b c : Bool) → (a || (b || c)) ≡ ((a || b) || c)
  shape a b c = grind arith

same-turned : (x l : Literal) → same (flip x) l ≡ same x (flip l)
same-turned x l = elim (cases_Bool (same (flip x) l)) [
  | inl t ↦ t ∙ sym (same-at x (flip l) (sym (flip-flip x) ∙ ap flip (same-true (flip x) l t)))
  | inr f ↦ elim (cases_Bool (same x (flip l))) [
    | inl t ↦ absurd (both_ways (same (flip x) l) f (same-at (flip x) l (ap flip (same-true x (flip l) t) ∙ flip-flip l)))
    | inr g ↦ f ∙ sym g
  ]
]

-- the complement of one more literal
pub denied-more : (c : List Literal) (x : Literal) (l : Literal) → with_literal (denied c) (flip x) l ≡ denied (c ++ x ∷ []) l
denied-more c x l = ap (λ b. b || has c (flip l)) (same-turned x l) ∙ shape (same x (flip l)) (has c (flip l)) ∙ sym (has-push c x (flip l)) where
  shape : (a b : Bool) → (a || b) ≡ (b || a)
  shape a b = grind arith

-- a literal with its complement
pub some_flip-true : (c ls : List Literal) (l : Literal) → has ls l ≡ true → has c (flip l) ≡ true → some_flip c ls ≡ true
some_flip-true c [] l h k = absurd (cc)
some_flip-true c (x ∷ ls) l h k = elim (has-cases x l ls h) [
  | inl e ↦ or_left (has c (flip x)) (some_flip c ls) (ap (λ y. has c (flip y)) e ∙ k)
  | inr e ↦ or_right (has c (flip x)) (some_flip c ls) (some_flip-true c ls l e k)
]

pub some_flip-some : (c ls : List Literal) → some_flip c ls ≡ true → (l : Literal) × (has ls l ≡ true) × (has c (flip l) ≡ true)
some_flip-some c [] h = absurd (cc)
some_flip-some c (x ∷ ls) h = elim (or_cases (has c (flip x)) (some_flip c ls) h) [
  | inl e ↦ (x, has-first x ls, e)
  | inr e ↦ let r = some_flip-some c ls e in (r.0, has-rest x r.0 ls r.1, r.2)
]

has-push_cases : (c : List Literal) (x l : Literal) → has (c ++ x ∷ []) l ≡ true → (has c l ≡ true) ⊎ (x ≡ l)
has-push_cases c x l h = elim (or_cases (has c l) (same x l) (sym (has-push c x l) ∙ h)) [ inl e ↦ inl e | inr e ↦ inr (same-true x l e) ]

pub no_flip-more : (c : List Literal) (x : Literal) → some_flip c c ≡ false → has c (flip x) ≡ false → some_flip (c ++ x ∷ []) (c ++ x ∷ []) ≡ false
no_flip-more c x none new = elim (cases_Bool (some_flip (c ++ x ∷ []) (c ++ x ∷ []))) [
  | inr f ↦ f
  | inl t ↦
      let r = some_flip-some (c ++ x ∷ []) (c ++ x ∷ []) t in
      absurd (elim (has-push_cases c x r.0 r.1) [
        | inl a ↦ elim (has-push_cases c x (flip r.0) r.2) [
          | inl b ↦ both_ways (some_flip c c) none (some_flip-true c c r.0 a b)
          | inr b ↦ both_ways (has c (flip x)) new (ap (λ y. has c (flip y)) b ∙ ap (has c) (flip-flip r.0) ∙ a)
        ]
        | inr a ↦ elim (has-push_cases c x (flip r.0) r.2) [
          | inl b ↦ both_ways (has c (flip x)) new (ap (λ y. has c (flip y)) a ∙ b)
          | inr b ↦ same-flip x (same-at x (flip x) (b ∙ ap flip (sym a)))
        ]
      ])
]

-- a literal of a front is one of the whole
pub has-take : (c : List Literal) (i : ℕ) (l : Literal) → has (take i c) l ≡ true → has c l ≡ true
has-take c zero l h = absurd (cc)
has-take [] (suc i) l h = absurd (cc)
has-take (x ∷ c) (suc i) l h = elim (has-cases x l (take i c) h) [
  | inl e ↦ or_left (same x l) (has c l) (same-at x l e)
  | inr e ↦ or_right (same x l) (has c l) (has-take c i l e)
]

pub has-at : (c : List Literal) (i : ℕ) (x : Literal) → i < length c → x ≡ get_or c i x → has c x ≡ true
has-at [] i x h e = absurd (omega arith)
has-at (y ∷ c) zero x h e = or_left (same y x) (has c x) (same-at y x (sym e))
has-at (y ∷ c) (suc i) x h e = or_right (same y x) (has c x) (has-at c i x (omega arith) e)

-- what an addition is refused for, test by test
module _ (book : Book) (id : ℕ) (clause : List Literal) (hints : List ℤ) where
  order_passed : last_id book < id → id ≤ 2147483647 → (not (nat_lt (last_id book) id) || nat_lt 2147483647 id) ≡ false
  order_passed a b = grind (arith, nat_tests)

  pub order-fault : (id ≤ last_id book) ⊎ (2147483647 < id) → addition_fault book id clause hints ≡ Some Order
  unfolding addition_fault
  order-fault h = cond-true (not (nat_lt (last_id book) id) || nat_lt 2147483647 id) _ _ (test h) where
    test : (id ≤ last_id book) ⊎ (2147483647 < id) → (not (nat_lt (last_id book) id) || nat_lt 2147483647 id) ≡ true
    test (inl a) = grind (arith, nat_tests)
    test (inr b) = grind (arith, nat_tests)

  pub variable-fault : last_id book < id → id ≤ 2147483647 → some_above book.formula.vars clause ≡ true → addition_fault book id clause hints ≡ Some Variable
  unfolding addition_fault
  variable-fault a b v = cond-false (not (nat_lt (last_id book) id) || nat_lt 2147483647 id) _ _ (order_passed a b) ∙ cond-true (some_above book.formula.vars clause) _ _ v

  pub tautology-fault : last_id book < id → id ≤ 2147483647 → some_above book.formula.vars clause ≡ false → some_flip clause clause ≡ true → addition_fault book id clause hints ≡ Some Tautology
  unfolding addition_fault
  tautology-fault a b v t = cond-false (not (nat_lt (last_id book) id) || nat_lt 2147483647 id) _ _ (order_passed a b) ∙ cond-false (some_above book.formula.vars clause) _ _ v ∙ cond-true (some_flip clause clause) _ _ t

  pub hints-fault : last_id book < id → id ≤ 2147483647 → some_above book.formula.vars clause ≡ false → some_flip clause clause ≡ false
      → addition_fault book id clause hints ≡ fault_of_outcome (run (live book) (denied clause) hints)
  unfolding addition_fault
  hints-fault a b v t = cond-false (not (nat_lt (last_id book) id) || nat_lt 2147483647 id) _ _ (order_passed a b) ∙ cond-false (some_above book.formula.vars clause) _ _ v ∙ cond-false (some_flip clause clause) _ _ t
