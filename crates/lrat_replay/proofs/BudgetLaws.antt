-- Clauses as numbers in base three: new steps have different ones.
use Rattle.std.proofs.Common.{◌≡◌, ℕ, zero, suc, ◌+◌, ◌*◌, ◌<◌, ◌≤◌, ◌^◌, Bool, true, false, cond, List, [], ◌∷◌, length, ◌⊎◌, inl, inr, refl, sym, ap, ◌∙◌, subst, arith, eqb, append_assoc}
use Rattle.std.specs.List.{Contains, IsDistinct, AllByRecursion, list_any}
use Rattle.std.proofs.Math.Nat.{pow-suc}
use Rattle.std.proofs.lemmas.Bool.{both_ways, true≢false, or_cases, ne_eqb, eqb-true, false_from_ne_true}
use Rattle.std.proofs.lemmas.List.Elements.{recursion_from_All, Contains-append_left, Contains-append_right}
use Rattle.std.proofs.lemmas.Map.Steps.{length-le_from_distinct_below}
use Rattle.std.proofs.lemmas.Map.Keys.{IsDistinct-cons}
use Rattle.clause_core.specs.Literal.{Literal, has}
use Rattle.clause_core.proofs.Tools.{has-first}
use Rattle.clause_core.specs.Formula.{IsOver}
use Rattle.lrat_replay.specs.Book.{Book, Numbered, all_of, after_addition, some_flip, start, numbered}
use Rattle.lrat_replay.specs.New.{IsSubset, AreAccepted, AreNew}
use Rattle.lrat_replay.specs.Budget.{AreFewerThanSets}
use Rattle.lrat_replay.proofs.Sound.{addition-passed, Contains-cases, Contains-head}
use Rattle.lrat_replay.proofs.DenyLaws.{some_flip-true}
use Rattle.lrat_replay.proofs.HintsLaws.{has_all}

abbrev positive : ℕ → Literal
positive v = record { var = v; negated = false }

abbrev negative : ℕ → Literal
negative v = record { var = v; negated = true }

-- one digit a variable: which literal of it the clause has
abbrev digit_of : Bool → Bool → ℕ
digit_of a b = cond a 1 (cond b 2 0)

abbrev digit : List Literal → ℕ → ℕ
digit clause v = digit_of (has clause (positive v)) (has clause (negative v))

abbrev code : ℕ → List Literal → ℕ
code zero clause = 0
code (suc v) clause = code v clause * 3 + digit clause (suc v)

digit_few : (clause : List Literal) (v : ℕ) → digit clause v ≤ 2
digit_few clause v = by (has clause (positive v)) (has clause (negative v)) where
  by : (a b : Bool) → digit_of a b ≤ 2
  by true b = omega arith
  by false true = omega arith
  by false false = omega arith

code_few : (v : ℕ) (clause : List Literal) → code v clause < 3 ^ v
code_few zero clause = omega arith
code_few (suc v) clause = let r = code_few v clause in let d = digit_few clause (suc v) in let p = pow-suc 3 v in omega arith

-- the same number, the same digits
code_same : (v : ℕ) (a b : List Literal) → code v a ≡ code v b → (k : ℕ) → 1 ≤ k → k ≤ v → digit a k ≡ digit b k
code_same zero a b e k h m = absurd (omega arith)
code_same (suc v) a b e k h m =
    let d = digit_few a (suc v) in
    let f = digit_few b (suc v) in
    let parts = cut (code v a) (code v b) (digit a (suc v)) (digit b (suc v)) d f e in
    elim (last k v (omega arith)) [
      | inl here ↦ ap (digit a) here ∙ parts.1 ∙ ap (digit b) (sym here)
      | inr below ↦ code_same v a b parts.0 k h below
    ] where
      cut : (x y d f : ℕ) → d ≤ 2 → f ≤ 2 → x * 3 + d ≡ y * 3 + f → (x ≡ y) × (d ≡ f)
      cut x y d f h k e = (omega arith, omega arith)

      last : (k v : ℕ) → k ≤ v + 1 → (k ≡ suc v) ⊎ (k ≤ v)
      last k v h = grind arith

digit-positive : (clause : List Literal) (v : ℕ) → has clause (positive v) ≡ true → digit clause v ≡ 1
digit-positive clause v h = ap (λ b. digit_of b (has clause (negative v))) h

digit-negative : (clause : List Literal) (v : ℕ) → has clause (positive v) ≡ false → has clause (negative v) ≡ true → digit clause v ≡ 2
digit-negative clause v h k = ap (λ b. digit_of b (has clause (negative v))) h ∙ ap (λ b. digit_of false b) k

positive-digit : (clause : List Literal) (v : ℕ) → digit clause v ≡ 1 → has clause (positive v) ≡ true
positive-digit clause v e = by (has clause (positive v)) (has clause (negative v)) e where
  by : (a b : Bool) → digit_of a b ≡ 1 → a ≡ true
  by true b e = refl
  by false true e = absurd (omega arith)
  by false false e = absurd (omega arith)

negative-digit : (clause : List Literal) (v : ℕ) → digit clause v ≡ 2 → has clause (negative v) ≡ true
negative-digit clause v e = by (has clause (positive v)) (has clause (negative v)) e where
  by : (a b : Bool) → digit_of a b ≡ 2 → b ≡ true
  by true b e = absurd (omega arith)
  by false true e = refl
  by false false e = absurd (omega arith)

-- the same number: each literal of the one clause is in the other
code-subset : (vars : ℕ) (a b : List Literal) → IsOver vars a → some_flip a a ≡ false → code vars a ≡ code vars b → IsSubset a b
code-subset vars a b over none e l h =
    let v = has_all (λ (x : Literal). (1 ≤ x.var) × (x.var ≤ vars)) a l (recursion_from_All (λ (x : Literal). (1 ≤ x.var) × (x.var ≤ vars)) a over) h in
    by l.negated l.var refl h (code_same vars a b e l.var v.0 v.1) where
      by : (n : Bool) (v : ℕ) → l ≡ record { var = v; negated = n } → has a l ≡ true → digit a v ≡ digit b v → has b l ≡ true
      by false v i h d = ap (has b) i ∙ positive-digit b v (sym d ∙ digit-positive a v (ap (has a) (sym i) ∙ h))
      by true v i h d =
          let here : has a (negative v) ≡ true = ap (has a) (sym i) ∙ h in
          let other : has a (positive v) ≡ false = false_from_ne_true (has a (positive v)) (λ k. both_ways (some_flip a a) none (some_flip-true a a (negative v) here k)) in
          ap (has b) i ∙ negative-digit b v (sym d ∙ digit-negative a v other here)

abbrev codes : ℕ → List Numbered → List ℕ
codes vars [] = []
codes vars (step ∷ steps) = code vars step.clause ∷ codes vars steps

-- a clause of the book is no subset of a later new one
later_new : (book : Book) (steps : List Numbered) (old : Numbered) → AreNew book steps → Contains (all_of book) old → (step : Numbered) → Contains steps step → IsSubset old.clause step.clause → ⊥
later_new book [] old h m step k sub = omega arith
later_new book (x ∷ steps) old h m step k sub = elim (Contains-cases x steps step k) [
  | inl e ↦ h.0.none_within old m (subst (λ (s : Numbered). IsSubset old.clause s.clause) (sym e) sub)
  | inr e ↦ later_new (after_addition book x.id x.clause) steps old h.1 (kept book x old m) step e sub
] where
  kept : (book : Book) (x old : Numbered) → Contains (all_of book) old → Contains (all_of (after_addition book x.id x.clause)) old
  kept book x old m = subst (λ es. Contains es old) (append_assoc (numbered 1 book.formula.clauses) book.steps (record { id = x.id; clause = x.clause } ∷ []))
      (Contains-append_left (all_of book) (record { id = x.id; clause = x.clause } ∷ []) old m)

added : (book : Book) (x : Numbered) → Contains (all_of (after_addition book x.id x.clause)) x
added book x = subst (λ es. Contains es x) (append_assoc (numbered 1 book.formula.clauses) book.steps (x ∷ []))
    (Contains-append_right (all_of book) (x ∷ []) x (0, omega arith, refl))

-- no later step has this number
apart : (vars n : ℕ) (steps : List Numbered) → ((step : Numbered) → Contains steps step → n ≡ code vars step.clause → ⊥) → AllByRecursion (λ q. eqb n q ≡ false) (codes vars steps)
apart vars n [] h = tt
apart vars n (x ∷ steps) h = (ne_eqb n (code vars x.clause) (h x (Contains-head x steps)), apart vars n steps (λ s m. h s (Contains-append_right (x ∷ []) steps s m)))

distinct : (vars : ℕ) (book : Book) (steps : List Numbered) → AreAccepted book steps → AreNew book steps → ((step : Numbered) → Contains steps step → IsOver vars step.clause) → IsDistinct eqb (codes vars steps)
unfolding IsDistinct
distinct vars book [] a h o = tt
distinct vars book (x ∷ steps) a h o =
    let taut = (addition-passed book x.id x.clause a.0.0 a.0.1).no_tautology in
    IsDistinct-cons eqb (code vars x.clause) (codes vars steps)
    (apart vars (code vars x.clause) steps (λ s m e. later_new (after_addition book x.id x.clause) steps x h.1 (added book x) s m (code-subset vars x.clause s.clause (o x (Contains-head x steps)) taut e)))
    (distinct vars (after_addition book x.id x.clause) steps a.1 h.1 (λ s m. o s (Contains-append_right (x ∷ []) steps s m)))

below : (vars q : ℕ) (steps : List Numbered) → list_any (eqb q) (codes vars steps) ≡ true → q < 3 ^ vars
below vars q [] h = absurd (true≢false (sym h))
below vars q (x ∷ steps) h = elim (or_cases (eqb q (code vars x.clause)) (list_any (eqb q) (codes vars steps)) h) [
  | inl e ↦ subst (λ n. n < 3 ^ vars) (sym (eqb-true q (code vars x.clause) e)) (code_few vars x.clause)
  | inr e ↦ below vars q steps e
]

many : (vars : ℕ) (steps : List Numbered) → length (codes vars steps) ≡ length steps
many vars [] = refl
many vars (x ∷ steps) = ap suc (many vars steps)

-- new steps are not empty
each_some : (book : Book) (steps : List Numbered) → AreNew book steps → (step : Numbered) → Contains steps step → step.clause ≡ [] → ⊥
each_some book [] h step m = λ e. omega arith
each_some book (x ∷ steps) h step m = λ e. elim (Contains-cases x steps step m) [
  | inl q ↦ h.0.some (ap (λ (s : Numbered). s.clause) q ∙ e)
  | inr q ↦ each_some (after_addition book x.id x.clause) steps h.1 step q e
]

each_passed : (book : Book) (steps : List Numbered) → AreAccepted book steps → (step : Numbered) → Contains steps step → some_flip step.clause step.clause ≡ false
each_passed book [] h step m = absurd (omega arith)
each_passed book (x ∷ steps) h step m = elim (Contains-cases x steps step m) [
  | inl q ↦ subst (λ (s : Numbered). some_flip s.clause s.clause ≡ false) q (addition-passed book x.id x.clause h.0.0 h.0.1).no_tautology
  | inr q ↦ each_passed (after_addition book x.id x.clause) steps h.1 step q
]

-- the empty clause has a number of its own
not_zero : (vars : ℕ) (clause : List Literal) → IsOver vars clause → some_flip clause clause ≡ false → (clause ≡ [] → ⊥) → code vars [] ≡ code vars clause → ⊥
not_zero vars clause over taut some e = by clause refl where
  by : (c : List Literal) → clause ≡ c → ⊥
  by [] q = some q
  by (l ∷ ls) q = true≢false (sym (code-subset vars clause [] over taut (sym e) l (ap (λ c. has c l) q ∙ has-first l ls)))

pub fewer_than_sets : AreFewerThanSets
fewer_than_sets formula steps a h o =
    let vars = formula.vars in
    let none : Numbered = record { id = 0; clause = [] } in
    let all = distinct vars (start formula) steps a h o in
    let first = apart vars (code vars []) steps (λ s m e. not_zero vars s.clause (o s m) (each_passed (start formula) steps a s m) (each_some (start formula) steps h s m) e) in
    let most : length (codes vars (none ∷ steps)) ≤ 3 ^ vars = length-le_from_distinct_below (codes vars (none ∷ steps)) (3 ^ vars) (IsDistinct-cons eqb (code vars []) (codes vars steps) first all) (λ q k. below vars q (none ∷ steps) k) in
    let l = many vars (none ∷ steps) in
    omega arith
