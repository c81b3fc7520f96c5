-- Laws of literals, and of clauses seen as sets.
use Rattle.std.specs.List.{Contains}
use Rattle.std.proofs.lemmas.List.Elements.{Contains-append_right}
use Rattle.std.proofs.Common.{◌≡◌, ◌↔◌, ℕ, zero, suc, ◌+◌, ◌*◌, Bool, true, false, not, cond, List, [], ◌∷◌, ◌⊎◌, inl, inr, refl, ap, sym, ◌∙◌, arith}
use Rattle.std.proofs.lemmas.Bool.{eqb-true, eq-eqb, or_cases, or_parts, or_left, or_right}
use Rattle.clause_core.specs.Literal.{Literal, flip, number, same, has, is_true, clause_is_true, IsByVariableAndSign, HasItsLiterals}

not-not : (b : Bool) → not (not b) ≡ b
not-not true = refl
not-not false = refl

pub flip-flip : (l : Literal) → flip (flip l) ≡ l
flip-flip l = λ i. record { var = l.var; negated = not-not l.negated i }

bits : (m n : ℕ) (a b : Bool) → 2 * m + cond a 1 0 ≡ 2 * n + cond b 1 0 → (m ≡ n) × (a ≡ b)
bits m n true true h = (omega arith, refl)
bits m n true false h = absurd (omega arith)
bits m n false true h = absurd (omega arith)
bits m n false false h = (omega arith, refl)

pub same-true : (a b : Literal) → same a b ≡ true → a ≡ b
same-true a b h = let e = bits a.var b.var a.negated b.negated (eqb-true (number a) (number b) h) in λ i. record { var = e.0 i; negated = e.1 i }

pub same-refl : (a : Literal) → same a a ≡ true
same-refl a = eq-eqb (number a) (number a) refl

pub same-at : (a b : Literal) → a ≡ b → same a b ≡ true
same-at a b e = ap (same a) (sym e) ∙ same-refl a

-- a literal is never its own complement
pub same-flip : (a : Literal) → same a (flip a) ≡ true → ⊥
same-flip a h = let e : not a.negated ≡ a.negated = ap (λ l. l.negated) (sym (same-true a (flip a) h)) in never a.negated e where
  never : (b : Bool) → not b ≡ b → ⊥
  never true e = cc
  never false e = cc

pub has-first : (l : Literal) (ls : List Literal) → has (l ∷ ls) l ≡ true
has-first l ls = or_left (same l l) (has ls l) (same-refl l)

pub has-rest : (x l : Literal) (ls : List Literal) → has ls l ≡ true → has (x ∷ ls) l ≡ true
has-rest x l ls h = or_right (same x l) (has ls l) h

pub has-cases : (x l : Literal) (ls : List Literal) → has (x ∷ ls) l ≡ true → (x ≡ l) ⊎ (has ls l ≡ true)
has-cases x l ls h = elim (or_cases (same x l) (has ls l) h) [ inl e ↦ inl (same-true x l e) | inr e ↦ inr e ]

pub is_true-flip : (v : ℕ → Bool) (l : Literal) → is_true v (flip l) ≡ not (is_true v l)
unfolding is_true
is_true-flip v l = by l.negated where
  by : (b : Bool) → cond (not b) (not (v l.var)) (v l.var) ≡ not (cond b (not (v l.var)) (v l.var))
  by true = sym (not-not (v l.var))
  by false = refl

-- a true clause has a true literal, and none where it is false
pub clause_is_true-some : (v : ℕ → Bool) (c : List Literal) → clause_is_true v c ≡ true → (l : Literal) × (has c l ≡ true) × (is_true v l ≡ true)
clause_is_true-some v [] h = absurd (cc)
clause_is_true-some v (x ∷ xs) h = elim (or_cases (is_true v x) (clause_is_true v xs) h) [
  | inl e ↦ (x, has-first x xs, e)
  | inr e ↦ let r = clause_is_true-some v xs e in (r.0, has-rest x r.0 xs r.1, r.2)
]

pub clause_is_true-none : (v : ℕ → Bool) (c : List Literal) → clause_is_true v c ≡ false → (l : Literal) → has c l ≡ true → is_true v l ≡ false
clause_is_true-none v [] h l m = absurd (cc)
clause_is_true-none v (x ∷ xs) h l m = let p = or_parts (is_true v x) (clause_is_true v xs) h in elim (has-cases x l xs m) [
  | inl e ↦ ap (is_true v) (sym e) ∙ p.0
  | inr e ↦ clause_is_true-none v xs p.1 l e
]

pub by_variable_and_sign : IsByVariableAndSign
by_variable_and_sign a b = (λ h. let e = same-true a b h in (ap (λ l. l.var) e, ap (λ l. l.negated) e), λ h. same-at a b (λ i. record { var = h.0 i; negated = h.1 i }))

has-contains : (clause : List Literal) (l : Literal) → has clause l ≡ true → Contains clause l
has-contains [] l h = absurd (cc)
has-contains (x ∷ xs) l h = elim (has-cases x l xs h) [
  | inl e ↦ (0, omega arith, e)
  | inr e ↦ Contains-append_right (x ∷ []) xs l (has-contains xs l e)
]

contains-has : (clause : List Literal) (l : Literal) → Contains clause l → has clause l ≡ true
contains-has [] l (k, h, e) = absurd (omega arith)
contains-has (x ∷ xs) l (zero, h, e) = or_left (same x l) (has xs l) (same-at x l e)
contains-has (x ∷ xs) l (suc k, h, e) = or_right (same x l) (has xs l) (contains-has xs l (k, omega arith, e))

pub has_its_literals : HasItsLiterals
has_its_literals clause l = (has-contains clause l, contains-has clause l)

pub same-equal : (a b : Literal) (r : Bool) → r ≡ same a b → (r ≡ true) ↔ (a ≡ b)
same-equal a b r e = (λ h. same-true a b (sym e ∙ h), λ h. e ∙ same-at a b h)

pub clause_is_true-has : (v : ℕ → Bool) (c : List Literal) (l : Literal) → has c l ≡ true → is_true v l ≡ true → clause_is_true v c ≡ true
clause_is_true-has v [] l m h = absurd (cc)
clause_is_true-has v (x ∷ xs) l m h = elim (has-cases x l xs m) [
  | inl e ↦ or_left (is_true v x) (clause_is_true v xs) (ap (is_true v) e ∙ h)
  | inr e ↦ or_right (is_true v x) (clause_is_true v xs) (clause_is_true-has v xs l e h)
]
