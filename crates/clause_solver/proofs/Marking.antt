-- Marks of complements, one by one.
use Rattle.std.proofs.Common.{◌≡◌, ℕ, ◌+◌, ◌<◌, true, List, [], ◌∷◌, ◌++◌, take, length, get_or, ◌⊎◌, inl, inr, sym, ap, ◌∙◌, subst}
use Rattle.std.proofs.lemmas.List.{take_more}
use Rattle.std.proofs.lemmas.Bool.{or_left, or_right, true≢false}
use Rattle.clause_core.specs.Literal.{Literal, flip, same, has}
use Rattle.clause_core.proofs.Tools.{has-cases, same-at}
use Rattle.lrat_replay.specs.Status.{Known}

pub record IsMarking (before now : Known) (clause : List Literal) : Type 0 where
  pub kept : (x : Literal) → before x ≡ true → now x ≡ true
  pub marked : (l : Literal) → has clause l ≡ true → now (flip l) ≡ true

pub has-push : (xs : List Literal) (x l : Literal) → has (xs ++ x ∷ []) l ≡ true → (has xs l ≡ true) ⊎ (x ≡ l)
has-push [] x l h = elim (has-cases x l [] h) [ inl e ↦ inr e | inr e ↦ absurd (true≢false (sym e)) ]
has-push (y ∷ ys) x l h = elim (has-cases y l (ys ++ x ∷ []) h) [
  | inl e ↦ inl (or_left (same y l) (has ys l) (same-at y l e))
  | inr e ↦ elim (has-push ys x l e) [ inl q ↦ inl (or_right (same y l) (has ys l) q) | inr q ↦ inr q ]
]

pub marking-none : (known : Known) → IsMarking known known []
marking-none known = record { kept = λ x h. h; marked = λ l h. absurd (true≢false (sym h)) }

pub marking-more : (before known now : Known) (clause : List Literal) (i : ℕ) (x : Literal) → i < length clause → x ≡ get_or clause i x → IsMarking before known (take i clause) → ((y : Literal) → known y ≡ true → now y ≡ true) → now (flip x) ≡ true
    → IsMarking before now (take (i + 1) clause)
marking-more before known now clause i x h e m more here =
    let longer : take (i + 1) clause ≡ take i clause ++ x ∷ [] = take_more clause i x h ∙ ap (λ y. take i clause ++ y ∷ []) (sym e) in
    record {
      kept = λ y k. more y (m.kept y k);
      marked = λ l k. elim (has-push (take i clause) x l (subst (λ c. has c l ≡ true) longer k)) [
        | inl q ↦ more (flip l) (m.marked l q)
        | inr q ↦ subst (λ y. now (flip y) ≡ true) q here
      ];
    }

-- the same, where the literal that a clause forced has no mark
pub record IsMarkingOthers (before now : Known) (one : Literal) (clause : List Literal) : Type 0 where
  pub kept : (x : Literal) → before x ≡ true → now x ≡ true
  pub marked : (l : Literal) → has clause l ≡ true → (one ≡ l) ⊎ (now (flip l) ≡ true)

pub others-none : (known : Known) (one : Literal) → IsMarkingOthers known known one []
others-none known one = record { kept = λ x h. h; marked = λ l h. absurd (true≢false (sym h)) }

pub others-more : (before known now : Known) (one : Literal) (clause : List Literal) (i : ℕ) (x : Literal) → i < length clause → x ≡ get_or clause i x → IsMarkingOthers before known one (take i clause) → ((y : Literal) → known y ≡ true → now y ≡ true) → (one ≡ x) ⊎ (now (flip x) ≡ true)
    → IsMarkingOthers before now one (take (i + 1) clause)
others-more before known now one clause i x h e m more here =
    let longer : take (i + 1) clause ≡ take i clause ++ x ∷ [] = take_more clause i x h ∙ ap (λ y. take i clause ++ y ∷ []) (sym e) in
    record {
      kept = λ y k. more y (m.kept y k);
      marked = λ l k. elim (has-push (take i clause) x l (subst (λ c. has c l ≡ true) longer k)) [
        | inl q ↦ elim (m.marked l q) [ inl o ↦ inl o | inr o ↦ inr (more (flip l) o) ]
        | inr q ↦ subst (λ y. (one ≡ y) ⊎ (now (flip y) ≡ true)) q here
      ];
    }
