-- For the crate's own proofs: which clauses watch which literals, as a search keeps it.
use Rattle.std.specs.Prelude.{◌≡◌, ℕ, ◌+◌, ◌<◌, ◌++◌, ◌∷◌, List, [], length, map, slice_get, slice_index_or, None, Some, Vec, ◌⊎◌}
use Rattle.std.specs.List.{swap_remove}
use Rattle.std.specs.declared.option.Option.{Option}
use Rattle.std.specs.declared.alloc.Global.{Global}
use Rattle.clause_core.specs.Literal.{Literal, number}
use Rattle.clause_solver.specs.declared.watch.Entry.{Entry}
use Rattle.clause_solver.specs.declared.watch.Pair.{Pair}
use Rattle.clause_solver.specs.declared.watch.Watches.{Watches}

abbrev pub list_at : List (Vec Entry Global) → ℕ → List Entry
list_at lists n = slice_index_or (map (λ v. v.items) lists) n []

-- the entries of the list of a literal
abbrev pub entries_of : Watches → Literal → List Entry
entries_of watches l = list_at watches.lists.items (number l)

-- the places of the clauses that stand in the list of a literal
abbrev pub list_of : Watches → Literal → List ℕ
list_of watches l = map (λ (e : Entry). e.place) (entries_of watches l)

-- an entry stands in some list
pub record IsEntry (watches : Watches) (entry : Entry) : Type 0 where
  pub list : ℕ
  pub index : ℕ
  pub is : slice_get (list_at watches.lists.items list) index ≡ Some entry

-- how many numbers have lists
abbrev pub width_of : Watches → ℕ
width_of watches = length watches.lists.items

-- how many clauses are settled
abbrev pub count : Watches → ℕ
count watches = length watches.pairs.items

-- the two literals that the clause at a place watches
abbrev pub pair_at : Watches → ℕ → Option Pair
pair_at watches k = slice_index_or watches.pairs.items k None

-- there is one more entry in the list of this literal
pub record HasMore (old new : Watches) (l : Literal) (entry : Entry) : Type 0 where
  pub width : width_of new ≡ width_of old
  pub pairs : new.pairs ≡ old.pairs
  pub here : list_of new l ≡ list_of old l ++ entry.place ∷ []
  pub others : (x : Literal) → (number x ≡ number l → ⊥) → list_of new x ≡ list_of old x
  pub entries : (e : Entry) → IsEntry new e → IsEntry old e ⊎ (e ≡ entry)

-- one entry was taken out of the list of this literal
pub record HasLess (old new : Watches) (l : Literal) (index : ℕ) : Type 0 where
  pub width : width_of new ≡ width_of old
  pub pairs : new.pairs ≡ old.pairs
  pub here : list_of new l ≡ swap_remove (list_of old l) index (slice_index_or (list_of old l) index 0)
  pub others : (x : Literal) → (number x ≡ number l → ⊥) → list_of new x ≡ list_of old x
  pub entries : (e : Entry) → IsEntry new e → IsEntry old e

-- an entry of the same clause came in place of another
pub record HasNoted (old new : Watches) (entry : Entry) : Type 0 where
  pub width : width_of new ≡ width_of old
  pub pairs : new.pairs ≡ old.pairs
  pub lists : (x : Literal) → list_of new x ≡ list_of old x
  pub entries : (e : Entry) → IsEntry new e → IsEntry old e ⊎ (e ≡ entry)

-- a clause stands in the first part of a list of clauses
pub record StandsBelow (places : List ℕ) (end place : ℕ) : Type 0 where
  pub index : ℕ
  pub below : index < end
  pub within : index < length places
  pub is : slice_index_or places index 0 ≡ place

-- a clause stands in the list of a literal
abbrev pub IsListed : Watches → Literal → ℕ → Type 0
IsListed watches l place = StandsBelow (list_of watches l) (length (list_of watches l)) place

-- an entry of the clause at a place, and of one of the two literals that it watches
pub record IsOfPair (pair : Option Pair) (at : ℕ) (entry : Entry) : Type 0 where
  pub both : Pair
  pub is : pair ≡ Some both
  pub place : entry.place ≡ at
  pub blocker : (entry.blocker ≡ both.one) ⊎ (entry.blocker ≡ both.two)

-- the next clause is settled
pub record HasSettled (old new : Watches) (pair : Option Pair) : Type 0 where
  pub width : width_of new ≡ width_of old
  pub more : count new ≡ count old + 1
  pub here : pair_at new (count old) ≡ pair
  pub others : (k : ℕ) → k < count old → pair_at new k ≡ pair_at old k
  pub kept : (l : Literal) (k : ℕ) → IsListed old l k → IsListed new l k
  pub kept_one : (p : Pair) → pair ≡ Some p → IsListed new p.one (count old)
  pub kept_two : (p : Pair) → pair ≡ Some p → IsListed new p.two (count old)
  pub entries : (e : Entry) → IsEntry new e → IsEntry old e ⊎ IsOfPair pair (count old) e

-- the clause at this index of a list watches another literal instead
pub record HasTurned (old new : Watches) (lost : Literal) (index : ℕ) (pair : Pair) : Type 0 where
  pub width : width_of new ≡ width_of old
  pub same : count new ≡ count old
  pub here : pair_at new (slice_index_or (list_of old lost) index 0) ≡ Some pair
  pub others : (k : ℕ) → (k ≡ slice_index_or (list_of old lost) index 0 → ⊥) → pair_at new k ≡ pair_at old k
  pub one : IsListed new pair.one (slice_index_or (list_of old lost) index 0)
  pub kept : (l : Literal) (k : ℕ) → (k ≡ slice_index_or (list_of old lost) index 0 → ⊥) → IsListed old l k → IsListed new l k
  pub apart : (l : Literal) (k : ℕ) → (number l ≡ number lost → ⊥) → IsListed old l k → IsListed new l k
  pub less : length (list_of new lost) + 1 ≡ length (list_of old lost)
  pub below : (k : ℕ) → StandsBelow (list_of old lost) index k → StandsBelow (list_of new lost) index k
  pub entries : (e : Entry) → IsEntry new e → IsEntry old e ⊎ ((e.place ≡ slice_index_or (list_of old lost) index 0) × (e.blocker ≡ pair.two))
