-- Clauses whose literals are all known.
use Rattle.std.proofs.Common.{◌≡◌, ◌↔◌, ℕ, ◌+◌, ◌==◌, ◌<◌, Bool, true, false, not, ◌||◌, List, [], ◌∷◌, ◌++◌, take, length, get_or, refl, sym, ap, ◌∙◌, subst, arith, inl, inr}
use Rattle.std.specs.List.{Contains}
use Rattle.std.proofs.lemmas.Bool.{eqb-true, cases_Bool, or_cases, both_ways, true≢false}
use Rattle.std.proofs.lemmas.List.Elements.{Contains-append_right}
use Rattle.clause_core.specs.Literal.{Literal, same, has}
use Rattle.clause_core.proofs.Tools.{same-true}
use Rattle.lrat_replay.specs.Status.{Known, with_literal}
use Rattle.lrat_replay.specs.Subset.{AreKnown, SomeAreKnown}
use Rattle.lrat_replay.specs.Store.{clauses_of}
use Rattle.lrat_replay.specs.Book.{Book, Numbered, all_of}
use Rattle.lrat_replay.specs.New.{IsNew}
use Rattle.lrat_replay.proofs.DenyLaws.{has-push, more}
use Rattle.lrat_replay.proofs.Sound.{Contains-cases}

pub marked-more : (c : List Literal) (x l : Literal) → with_literal (has c) x l ≡ has (c ++ x ∷ []) l
marked-more c x l = shape (same x l) (has c l) ∙ sym (has-push c x l) where
  shape : (a b : Bool) → (a || b) ≡ (b || a)
  shape a b = grind arith

-- clauses with their identifiers
record At (entries : List Numbered) (clause : List Literal) : Type 0 where
  pub step : Numbered
  pub among : Contains entries step
  pub is : step.clause ≡ clause

entry_at : (entries : List Numbered) (clause : List Literal) → Contains (clauses_of entries) clause → At entries clause
entry_at [] clause m = absurd (omega arith)
entry_at (x ∷ entries) clause m = elim (Contains-cases x.clause (clauses_of entries) clause m) [
  | inl e ↦ record { step = x; among = (0, omega arith, refl); is = e }
  | inr e ↦ let r = entry_at entries clause e in record { step = r.step; among = Contains-append_right (x ∷ []) entries r.step r.among; is = r.is }
]

clause_at : (entries : List Numbered) (step : Numbered) → Contains entries step → Contains (clauses_of entries) step.clause
clause_at [] step m = absurd (omega arith)
clause_at (x ∷ entries) step m = elim (Contains-cases x entries step m) [
  | inl e ↦ subst (λ (s : Numbered). Contains (x.clause ∷ clauses_of entries) s.clause) e (0, omega arith, refl)
  | inr e ↦ Contains-append_right (x.clause ∷ []) (clauses_of entries) step.clause (clause_at entries step e)
]

-- the clause is new exactly where no clause has only its literals
pub new_exactly : (book : Book) (clause : List Literal) (known : Known) (b : Bool) → (clause ≡ [] → ⊥) → known ≡ has clause → (b ≡ true) ↔ SomeAreKnown known (clauses_of (all_of book)) → (not b ≡ true) ↔ IsNew book clause
new_exactly book clause known b some e p = (
  λ h. record {
    some = some;
    none_within = λ step m sub. both_ways b (flipped b h) (p.1 (record { clause = step.clause; among = clause_at (all_of book) step m; known_all = λ l k. ap (λ f. f l) e ∙ sub l k }));
  },
  λ n. elim (cases_Bool b) [
    | inl t ↦ absurd (let s = p.0 t in let r = entry_at (all_of book) s.clause s.among in
        n.none_within r.step r.among (λ l k. ap (λ f. f l) (sym e) ∙ s.known_all l (ap (λ c. has c l) (sym r.is) ∙ k)))
    | inr f ↦ ap not f
  ],
) where
  flipped : (b : Bool) → not b ≡ true → b ≡ false
  flipped true h = absurd (true≢false (sym h))
  flipped false h = refl

pub never_new : (book : Book) (clause : List Literal) → clause ≡ [] → (false ≡ true) ↔ IsNew book clause
never_new book clause e = (λ h. absurd (true≢false (sym h)), λ n. absurd (n.some e))

pub some_literal : (clause : List Literal) → (length clause == 0) ≡ false → clause ≡ [] → ⊥
some_literal clause h e = true≢false (sym (ap (λ c. length c == 0) e) ∙ h)

pub no_literal : (clause : List Literal) → (length clause == 0) ≡ true → clause ≡ []
no_literal [] h = refl
no_literal (x ∷ clause) h = let k : length (x ∷ clause) ≡ 0 = eqb-true (length (x ∷ clause)) 0 h in absurd (omega arith)

-- one literal after the other
abbrev pub KnownBefore : Known → List Literal → ℕ → Type 0
KnownBefore known clause n = AreKnown known (take n clause)

pub known_more : (known : Known) (clause : List Literal) (i : ℕ) (x : Literal) → i < length clause → x ≡ get_or clause i x → known x ≡ true → KnownBefore known clause i → KnownBefore known clause (i + 1)
known_more known clause i x h e k before l m = elim (or_cases (has (take i clause) l) (same x l) (sym (has-push (take i clause) x l) ∙ ap (λ w. has w l) (sym (more clause i x h e)) ∙ m)) [
  | inl p ↦ before l p
  | inr p ↦ ap known (sym (same-true x l p)) ∙ k
]
