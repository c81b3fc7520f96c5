-- A status, literal by literal.
use Rattle.std.proofs.Common.{◌≡◌, ℕ, zero, suc, ◌+◌, ◌<◌, ◌≤◌, Bool, true, false, cond, ◌&&◌, ◌||◌, List, [], ◌∷◌, ◌++◌, take, length, get_or, refl, sym, ap, ◌∙◌, arith}
use Rattle.std.proofs.lemmas.Bool.{cond-true, cond-false, or_left, or_right, or_from}
use Rattle.std.proofs.lemmas.List.{take_more, take_all}
use Rattle.clause_core.specs.Literal.{Literal, flip, same}
use Rattle.lrat_replay.specs.declared.status.Status.{Status}
use Rattle.lrat_replay.specs.declared.status.Status.TheVariants.{Satisfied, Unresolved, Forces}
use Rattle.lrat_replay.specs.Status.{Known, some_known, without_value, all_same, status_by, status}
use Rattle.lrat_replay.specs.StatusStep.{with_unassigned}

all_same-push : (x : Literal) (xs : List Literal) (l : Literal) → all_same x (xs ++ l ∷ []) ≡ (all_same x xs && same x l)
all_same-push x [] l = shape (same x l) where
  shape : (b : Bool) → (b && true) ≡ (true && b)
  shape b = grind arith
all_same-push x (y ∷ ys) l = ap (λ b. same x y && b) (all_same-push x ys l) ∙ shape (same x y) (all_same x ys) (same x l) where
  shape : (a b c : Bool) → (a && (b && c)) ≡ ((a && b) && c)
  shape a b c = grind arith

pub status_by-push : (xs : List Literal) (l : Literal) → status_by (xs ++ l ∷ []) ≡ with_unassigned (status_by xs) l
status_by-push [] l = refl
status_by-push (x ∷ xs) l = ap (λ b. cond b (Forces x) Unresolved) (all_same-push x xs l) ∙ both (all_same x xs) where
  both : (b : Bool) → cond (b && same x l) (Forces x) Unresolved ≡ with_unassigned (cond b (Forces x) Unresolved) l
  both true = refl
  both false = refl

module _ (known : Known) where
  pub without_value-push : (xs : List Literal) (l : Literal) → without_value known (xs ++ l ∷ []) ≡ cond (known l || known (flip l)) (without_value known xs) (without_value known xs ++ l ∷ [])
  without_value-push [] l = refl
  without_value-push (x ∷ xs) l = ap (λ r. cond (known x || known (flip x)) r (x ∷ r)) (without_value-push xs l) ∙ both (known x || known (flip x)) (known l || known (flip l)) where
    both : (a b : Bool) → cond a (cond b (without_value known xs) (without_value known xs ++ l ∷ [])) (x ∷ cond b (without_value known xs) (without_value known xs ++ l ∷ []))
        ≡ cond b (cond a (without_value known xs) (x ∷ without_value known xs)) (cond a (without_value known xs) (x ∷ without_value known xs) ++ l ∷ [])
    both true true = refl
    both true false = refl
    both false true = refl
    both false false = refl

  pub some_known-push : (xs : List Literal) (l : Literal) → some_known known (xs ++ l ∷ []) ≡ (some_known known xs || known l)
  some_known-push [] l = shape (known l) where
    shape : (b : Bool) → (b || false) ≡ (false || b)
    shape b = grind arith
  some_known-push (x ∷ xs) l = ap (λ b. known x || b) (some_known-push xs l) ∙ shape (known x) (some_known known xs) (known l) where
    shape : (a b c : Bool) → (a || (b || c)) ≡ ((a || b) || c)
    shape a b c = grind arith

  some_known-at : (c : List Literal) (i : ℕ) (x : Literal) → i < length c → x ≡ get_or c i x → known x ≡ true → some_known known c ≡ true
  some_known-at [] i x h e k = absurd (omega arith)
  some_known-at (y ∷ ys) zero x h e k = or_left (known y) (some_known known ys) (ap known (sym e) ∙ k)
  some_known-at (y ∷ ys) (suc i) x h e k = or_right (known y) (some_known known ys) (some_known-at ys i x (omega arith) e k)

  pub status-satisfied : (c : List Literal) (i : ℕ) (x : Literal) → i < length c → x ≡ get_or c i x → known x ≡ true → Satisfied ≡ status known c
  unfolding status
  status-satisfied c i x h e k = sym (cond-true (some_known known c) Satisfied (status_by (without_value known c)) (some_known-at c i x h e k))

  pub status-end : (c : List Literal) (i : ℕ) (t : Status) → length c ≤ i → some_known known (take i c) ≡ false → t ≡ status_by (without_value known (take i c)) → t ≡ status known c
  unfolding status
  status-end c i t h none so_far =
      let all : take i c ≡ c = take_all i c h in
      so_far ∙ ap (λ w. status_by (without_value known w)) all ∙ sym (cond-false (some_known known c) Satisfied (status_by (without_value known c)) (ap (some_known known) (sym all) ∙ none))

  module _ (c : List Literal) (i : ℕ) (x : Literal) (h : i < length c) (e : x ≡ get_or c i x) where
    more : take (i + 1) c ≡ take i c ++ x ∷ []
    more = take_more c i x h ∙ ap (λ y. take i c ++ y ∷ []) (sym e)

    pub none-more : some_known known (take i c) ≡ false → known x ≡ false → some_known known (take (i + 1) c) ≡ false
    none-more n k = ap (some_known known) more ∙ some_known-push (take i c) x ∙ or_from (some_known known (take i c)) (known x) n k

    -- a literal that is false
    pub status-same : (t : Status) → t ≡ status_by (without_value known (take i c)) → known (flip x) ≡ true → t ≡ status_by (without_value known (take (i + 1) c))
    status-same t s k = s ∙ ap status_by (sym (ap (without_value known) more ∙ without_value-push (take i c) x
        ∙ cond-true (known x || known (flip x)) (without_value known (take i c)) (without_value known (take i c) ++ x ∷ []) (or_right (known x) (known (flip x)) k)))

    -- one that has no value
    pub status-met : (t : Status) → t ≡ status_by (without_value known (take i c)) → known x ≡ false → known (flip x) ≡ false → with_unassigned t x ≡ status_by (without_value known (take (i + 1) c))
    status-met t s k f = ap (λ u. with_unassigned u x) s ∙ sym (status_by-push (without_value known (take i c)) x) ∙ ap status_by (sym (ap (without_value known) more ∙ without_value-push (take i c) x
        ∙ cond-false (known x || known (flip x)) (without_value known (take i c)) (without_value known (take i c) ++ x ∷ []) (or_from (known x) (known (flip x)) k f)))
