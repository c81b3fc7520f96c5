-- Deletions, one identifier after the other.
use Rattle.std.proofs.Common.{◌≡◌, ℕ, ◌+◌, ◌<◌, ◌≤◌, List, [], ◌∷◌, ◌++◌, length, get_or, take, drop, refl, sym, ap, ◌∙◌, inl, inr, ℤ, pos, negsuc, None, Some, add-one, drop-cons}
use Rattle.std.proofs.lemmas.Bool.{cases_Bool, cond-true, cond-false}
use Rattle.std.proofs.lemmas.List.{take_more, take_all, take-append-drop}
use Rattle.lrat_replay.specs.declared.fault.StepFault.TheVariants.{Unknown}
use Rattle.lrat_replay.specs.Book.{Book, is_live, without, deletion_fault, after_deletion}

-- what the first identifiers leave to the others
pub record Splits (book : Book) (xs ys : List ℤ) : Type 0 where
  pub fault : deletion_fault book (xs ++ ys) ≡ deletion_fault (after_deletion book xs) ys
  pub after : after_deletion book (xs ++ ys) ≡ after_deletion (after_deletion book xs) ys

pub splits : (book : Book) (xs ys : List ℤ) → deletion_fault book xs ≡ None → Splits book xs ys
splits book [] ys h = record { fault = refl; after = refl }
splits book (negsuc n ∷ xs) ys h = absurd (cc)
splits book (pos id ∷ xs) ys h = elim (cases_Bool (is_live book id)) [
  | inl t ↦
      let s = splits (without book id) xs ys (sym (cond-true (is_live book id) (deletion_fault (without book id) xs) (Some Unknown) t) ∙ h) in
      record { fault = cond-true (is_live book id) (deletion_fault (without book id) (xs ++ ys)) (Some Unknown) t ∙ s.fault; after = s.after }
  | inr f ↦ let e : Some Unknown ≡ None = sym (cond-false (is_live book id) (deletion_fault (without book id) xs) (Some Unknown) f) ∙ h in absurd (cc)
]

-- what the first one is refused for, all are
first_refused : (book : Book) (x : ℤ) (xs : List ℤ) → deletion_fault book (x ∷ []) ≡ Some Unknown → deletion_fault book (x ∷ xs) ≡ Some Unknown
first_refused book (negsuc n) xs h = refl
first_refused book (pos id) xs h = elim (cases_Bool (is_live book id)) [
  | inl t ↦ let e : None ≡ Some Unknown = sym (cond-true (is_live book id) None (Some Unknown) t) ∙ h in absurd (cc)
  | inr f ↦ cond-false (is_live book id) (deletion_fault (without book id) xs) (Some Unknown) f
]

-- this book stands after so many of the identifiers
pub record Stands (old : Book) (ids : List ℤ) (i : ℕ) (now : Book) : Type 0 where
  pub accepted : deletion_fault old (take i ids) ≡ None
  pub after : now ≡ after_deletion old (take i ids)

pub stands-none : (old : Book) (ids : List ℤ) → Stands old ids 0 old
stands-none old ids = record { accepted = refl; after = refl }

module _ (old : Book) (ids : List ℤ) (i : ℕ) (now : Book) (h : Stands old ids i now) where
  pub stands-more : (x : ℤ) (new : Book) → i < length ids → x ≡ get_or ids i (pos 0) → deletion_fault now (x ∷ []) ≡ None → new ≡ after_deletion now (x ∷ []) → Stands old ids (i + 1) new
  stands-more x new within is fault after =
      let more : take (i + 1) ids ≡ take i ids ++ x ∷ [] = take_more ids i (pos 0) within ∙ ap (λ y. take i ids ++ y ∷ []) (sym is) in
      let s = splits old (take i ids) (x ∷ []) h.accepted in
      record {
        accepted = ap (deletion_fault old) more ∙ s.fault ∙ ap (λ b. deletion_fault b (x ∷ [])) (sym h.after) ∙ fault;
        after = after ∙ ap (λ b. after_deletion b (x ∷ [])) h.after ∙ sym (ap (after_deletion old) more ∙ s.after);
      }

  pub stands-refused : (x : ℤ) → i < length ids → x ≡ get_or ids i (pos 0) → deletion_fault now (x ∷ []) ≡ Some Unknown → deletion_fault old ids ≡ Some Unknown
  stands-refused x within is fault =
      let parts : ids ≡ take i ids ++ (x ∷ drop (i + 1) ids) =
      sym (take-append-drop i ids) ∙ ap (λ w. take i ids ++ w) (drop-cons ids i (pos 0) within)
      ∙ (λ j. take i ids ++ (sym is j ∷ drop (sym (add-one i) j) ids)) in
      ap (deletion_fault old) parts ∙ (splits old (take i ids) (x ∷ drop (i + 1) ids) h.accepted).fault
      ∙ ap (λ b. deletion_fault b (x ∷ drop (i + 1) ids)) (sym h.after) ∙ first_refused now x (drop (i + 1) ids) fault

  pub stands-all : length ids ≤ i → (deletion_fault old ids ≡ None) × (now ≡ after_deletion old ids)
  stands-all past = let all : take i ids ≡ ids = take_all i ids past in (ap (deletion_fault old) (sym all) ∙ h.accepted, h.after ∙ ap (after_deletion old) all)

-- one identifier back, of the front of an accepted deletion
pub record Back (old : Book) (ids : List ℤ) (i : ℕ) (x : ℤ) : Type 0 where
  pub accepted : deletion_fault (after_deletion old (take i ids)) (x ∷ []) ≡ None
  pub after : after_deletion (after_deletion old (take i ids)) (x ∷ []) ≡ after_deletion old (take (i + 1) ids)

pub one_back : (old : Book) (ids : List ℤ) (i : ℕ) (x : ℤ) → deletion_fault old ids ≡ None → i < length ids → x ≡ get_or ids i (pos 0) → Back old ids i x
one_back old ids i x h within is =
    let more : take (i + 1) ids ≡ take i ids ++ x ∷ [] = take_more ids i (pos 0) within ∙ ap (λ y. take i ids ++ y ∷ []) (sym is) in
    let front = accepted_front old (take (i + 1) ids) (drop (i + 1) ids) (ap (deletion_fault old) (take-append-drop (i + 1) ids) ∙ h) in
    let first = accepted_front old (take i ids) (x ∷ []) (ap (deletion_fault old) (sym more) ∙ front) in
    let s = splits old (take i ids) (x ∷ []) first in
    record { accepted = sym s.fault ∙ ap (deletion_fault old) (sym more) ∙ front; after = sym (ap (after_deletion old) more ∙ s.after) } where
      accepted_front : (book : Book) (xs ys : List ℤ) → deletion_fault book (xs ++ ys) ≡ None → deletion_fault book xs ≡ None
      accepted_front book [] ys h = refl
      accepted_front book (negsuc n ∷ xs) ys h = absurd (cc)
      accepted_front book (pos id ∷ xs) ys h = elim (cases_Bool (is_live book id)) [
        | inl t ↦ cond-true (is_live book id) (deletion_fault (without book id) xs) (Some Unknown) t
            ∙ accepted_front (without book id) xs ys (sym (cond-true (is_live book id) (deletion_fault (without book id) (xs ++ ys)) (Some Unknown) t) ∙ h)
        | inr f ↦ let e : Some Unknown ≡ None = sym (cond-false (is_live book id) (deletion_fault (without book id) (xs ++ ys)) (Some Unknown) f) ∙ h in absurd (cc)
      ]
