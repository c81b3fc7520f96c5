-- Lists of clauses by their first literals.
use Rattle.std.proofs.Common.{◌≡◌, ◌↔◌, ℕ, ◌+◌, ◌*◌, ◌<◌, ◌≤◌, Bool, true, false, List, [], ◌∷◌, ◌++◌, take, length, get_or, refl, sym, ap, ◌∙◌, subst, arith, inl, inr, Some, append_assoc}
use Rattle.std.specs.Prelude.{slice_get}
use Rattle.std.specs.List.{Contains}
use Rattle.std.proofs.lemmas.Bool.{or_cases, true≢false}
use Rattle.std.proofs.lemmas.Option.{slice_get_within, get_or_from_slice_get}
use Rattle.std.proofs.lemmas.List.{length-append, take_all, take_more, append-nil}
use Rattle.clause_core.specs.Literal.{Literal, number, same, has}
use Rattle.clause_core.specs.Formula.{Formula, IsOver}
use Rattle.clause_core.proofs.Tools.{has-first, same-true}
use Rattle.lrat_replay.specs.Status.{Known}
use Rattle.lrat_replay.specs.Subset.{AreKnown, SomeAreKnown}
use Rattle.lrat_replay.specs.Lists.{lead, lead_at, AreListed, IsListedStore, NoneOf}
use Rattle.lrat_replay.specs.Book.{last_id}
use Rattle.lrat_replay.specs.Store.{AreRising, IsStore, book_of}
use Rattle.lrat_replay.proofs.DenyLaws.{has-push, more, fits_over}
use Rattle.lrat_replay.proofs.StoreLaws.{last_number, last_id-is}

-- the list of a clause over the variables is one of the lists
pub lead_within : (vars many : ℕ) (clause : List Literal) → IsOver vars clause → many ≡ 2 * vars + 2 → lead clause < many
lead_within vars many [] over wide = omega arith
lead_within vars many (l ∷ ls) over wide = (fits_over vars many (l ∷ ls) over (omega arith) 0 l (omega arith)).0

-- one more clause of those of a formula
pub listed_on : (clauses : List (List Literal)) (i : ℕ) (clause : List Literal) (first next : List ℕ) → slice_get clauses i ≡ Some clause → AreListed (take i clauses ++ clause ∷ []) first next → AreListed (take (i + 1) clauses) first next
listed_on clauses i clause first next e h =
    subst (λ cs. AreListed cs first next) (sym (take_more clauses i clause (slice_get_within clauses i clause e) ∙ ap (λ c. take i clauses ++ c ∷ []) (get_or_from_slice_get clauses i clause clause e))) h

-- a store with its lists
pub listed_store_made : (formula : Formula) (steps : List (List Literal)) (ids : List ℕ) (flags : List Bool) (first next : List ℕ) → steps ≡ [] → IsStore formula steps ids flags → AreListed formula.clauses first next → length first ≡ 2 * formula.vars + 2
    → IsListedStore formula steps ids flags first next
listed_store_made formula steps ids flags first next e store listed wide = record {
  store = store;
  listed = subst (λ cs. AreListed cs first next) (sym (ap (λ s. formula.clauses ++ s) e ∙ append-nil formula.clauses)) listed;
  wide = wide;
}

long_rising : (n : ℕ) (ids : List ℕ) → AreRising n ids → n + length ids ≤ last_number n ids
long_rising n [] h = omega arith
long_rising n (id ∷ ids) h = let above = h.0 in let rest = long_rising id ids h.1 in omega arith

module _ (formula : Formula) (steps : List (List Literal)) (ids : List ℕ) (flags : List Bool) (first next : List ℕ) (h : IsListedStore formula steps ids flags first next) where
  -- the identifiers rise, so there are no more clauses than the last one says
  pub few_listed : (id : ℕ) → last_id (book_of formula steps ids flags) < id → length next + 1 ≤ id
  few_listed id above =
      let long = long_rising 0 ids h.store.rising in
      let last = last_id-is formula steps ids flags h.store in
      let many = h.listed.many in
      let all = h.store.many_ids in
      omega (arith, length-append formula.clauses steps)

  pub listed_store_more : (clause : List Literal) (steps' : List (List Literal)) (ids' : List ℕ) (flags' : List Bool) (first0 next0 first' next' : List ℕ) → steps' ≡ steps ++ clause ∷ [] → IsStore formula steps' ids' flags'
      → first0 ≡ first → next0 ≡ next → ((clauses : List (List Literal)) → AreListed clauses first0 next0 → AreListed (clauses ++ clause ∷ []) first' next') → length first' ≡ length first0 → IsListedStore formula steps' ids' flags' first' next'
  listed_store_more clause steps' ids' flags' first0 next0 first' next' e store p q more same = record {
    store = store;
    listed = subst (λ cs. AreListed cs first' next') (append_assoc formula.clauses steps (clause ∷ []) ∙ ap (λ s. formula.clauses ++ s) (sym e))
        (more (formula.clauses ++ steps) (subst (λ w. AreListed (formula.clauses ++ steps) w next0) (sym p) (subst (λ w. AreListed (formula.clauses ++ steps) first w) (sym q) h.listed)));
    wide = same ∙ ap length p ∙ h.wide;
  }

-- a walk along a list: what is left begins at this link, and no clause from there on has only known literals
pub record IsWalk (known : Known) (clauses : List (List Literal)) (code link : ℕ) : Type 0 where
  pub within : link ≤ length clauses
  pub here : (k : ℕ) → link ≡ k + 1 → lead_at clauses k ≡ code
  pub none : (k : ℕ) → link ≤ k → k < length clauses → lead_at clauses k ≡ code → AreKnown known (get_or clauses k []) → ⊥

-- none of the lists of the first literals
abbrev pub NoneOfFirst : Known → List (List Literal) → List Literal → ℕ → Type 0
NoneOfFirst known clauses clause n = (l : Literal) → has (take n clause) l ≡ true → NoneOf known clauses (number l)

pub none_of_more : (known : Known) (clauses : List (List Literal)) (clause : List Literal) (i : ℕ) (x : Literal) (code : ℕ) → i < length clause → x ≡ get_or clause i x → code ≡ number x
    → NoneOf known clauses code → NoneOfFirst known clauses clause i → NoneOfFirst known clauses clause (i + 1)
none_of_more known clauses clause i x code h e at none before l m =
    elim (or_cases (has (take i clause) l) (same x l) (sym (has-push (take i clause) x l) ∙ ap (λ w. has w l) (sym (more clause i x h e)) ∙ m)) [
      | inl p ↦ before l p
      | inr p ↦ subst (NoneOf known clauses) (at ∙ ap number (same-true x l p)) none
    ]

-- a clause with only known literals begins with one, or is empty
pub none_within : (known : Known) (clauses : List (List Literal)) (clause : List Literal) (n : ℕ) → known ≡ has clause → length clause ≤ n → NoneOf known clauses 0 → NoneOfFirst known clauses clause n → SomeAreKnown known clauses → ⊥
none_within known clauses clause n is all zero firsts s = by s.clause s.among s.known_all where
  by : (c : List Literal) → Contains clauses c → AreKnown known c → ⊥
  by [] among known_all = zero [] among refl known_all
  by (l ∷ ls) among known_all =
      let inside : has clause l ≡ true = sym (ap (λ f. f l) is) ∙ known_all l (has-first l ls) in
      firsts l (ap (λ w. has w l) (take_all n clause all) ∙ inside) (l ∷ ls) among refl known_all

pub none_exactly : (known : Known) (clauses : List (List Literal)) → (SomeAreKnown known clauses → ⊥) → (false ≡ true) ↔ SomeAreKnown known clauses
none_exactly known clauses none = (λ e. absurd (true≢false (sym e)), λ s. absurd (none s))
