-- A ledger's identifiers tell whether a step was kept.
use Rattle.std.proofs.Common.{◌≡◌, ℕ, ◌+◌, ◌<◌, ◌≤◌, nat_lt, false, not, ◌||◌, List, [], ◌∷◌, ◌++◌, length, inl, inr, refl, ap, sym, ◌∙◌, subst, ℤ, None, arith}
use Rattle.std.proofs.lemmas.Bool.Decides.{nat_tests}
use Rattle.clause_core.specs.Literal.{Literal}
use Rattle.lrat_replay.specs.Book.{Book, Numbered, last_of, last_id, addition_fault}
use Rattle.lrat_replay.specs.Ledger.{IsKeptOrAdded}
use Rattle.lrat_replay.proofs.Sound.{addition-passed}

last_of-push : (n : ℕ) (steps : List Numbered) (s : Numbered) → last_of n (steps ++ s ∷ []) ≡ s.id
last_of-push n [] s = refl
last_of-push n (x ∷ steps) s = last_of-push x.id steps s

count-push : (steps : List Numbered) (s : Numbered) → length (steps ++ s ∷ []) ≡ length steps + 1
count-push [] s = refl
count-push (x ∷ steps) s = let e = count-push steps s in omega arith

bounds : (a b : ℕ) → (not (nat_lt a b) || nat_lt 2147483647 b) ≡ false → (a < b) × (b ≤ 2147483647)
bounds a b h = (grind (arith, nat_tests), grind (arith, nat_tests))

module _ (old new : Book) (id : ℕ) (clause : List Literal) (hints : List ℤ) (count : ℕ) (accepted : addition_fault old id clause hints ≡ None) (either : IsKeptOrAdded old new id clause)
    (exact : count ≡ length old.steps) (few : count ≤ last_id old) where
  order : (last_id old < id) × (id ≤ 2147483647)
  order = bounds (last_id old) id (addition-passed old id clause hints accepted).order

  pub fits : count + 1 < 2147483648
  fits = let a = order.0 in let b = order.1 in omega arith

  pub added : last_id new ≡ id → (count + 1 ≡ length new.steps) × (count + 1 ≤ last_id new)
  added e = elim either [
    | inl k ↦ let f : last_id old ≡ id = ap last_id (sym k) ∙ e in absurd (let a = order.0 in omega arith)
    | inr k ↦ (ap (λ n. n + 1) exact ∙ sym (count-push old.steps (record { id = id; clause = clause })) ∙ ap (λ b. length b.steps) (sym k), (let a = order.0 in let f = e in omega arith))
  ]

  pub kept : (last_id new ≡ id → ⊥) → (count ≡ length new.steps) × (count ≤ last_id new)
  kept n = elim either [
    | inl k ↦ (exact ∙ ap (λ b. length b.steps) (sym k), subst (λ b. count ≤ last_id b) (sym k) few)
    | inr k ↦ absurd (n (ap last_id k ∙ last_of-push (length old.formula.clauses) old.steps (record { id = id; clause = clause })))
  ]
