-- What a store of clauses holds.
use Rattle.std.proofs.Common.{zero, suc}
use Rattle.std.specs.Prelude.{◌≡◌, ℕ, ◌+◌, ◌<◌, Bool, cond, List, [], ◌∷◌, length, drop, All, slice_index, refl}
use Rattle.std.specs.FinSet as set
use Rattle.std.specs.Ordering.{nat_cmp}
use Rattle.std.specs.Coded.{Coded, code_by, coded×, coded_ℕ, coded_list, coded_bool}
use Rattle.clause_core.specs.Literal.{Literal}
use Rattle.clause_core.specs.Formula.{Formula, IsOver}
use Rattle.lrat_replay.specs.Book.{Book, Numbered, all_of}

-- identifiers and clauses, side by side
abbrev pub steps_of : List ℕ → List (List Literal) → List Numbered
steps_of [] clauses = []
steps_of (id ∷ ids) [] = []
steps_of (id ∷ ids) (clause ∷ clauses) = record { id = id; clause = clause } ∷ steps_of ids clauses

abbrev pub ids_of : List Numbered → List ℕ
ids_of [] = []
ids_of (entry ∷ entries) = entry.id ∷ ids_of entries

abbrev pub clauses_of : List Numbered → List (List Literal)
clauses_of [] = []
clauses_of (entry ∷ entries) = entry.clause ∷ clauses_of entries

-- so many numbers that run on from this one
abbrev pub counted : ℕ → ℕ → List ℕ
counted n zero = []
counted n (suc many) = n ∷ counted (n + 1) many

-- the identifiers whose flag is set
abbrev pub flagged : List ℕ → List Bool → List ℕ
flagged [] flags = []
flagged (id ∷ ids) [] = []
flagged (id ∷ ids) (flag ∷ flags) = cond flag (id ∷ flagged ids flags) (flagged ids flags)

-- each number is above the one before it
abbrev pub AreRising : ℕ → List ℕ → Type 0
AreRising n [] = Unit {0}
AreRising n (id ∷ ids) = (n < id) × AreRising id ids

-- a formula and steps, with the identifiers of all their clauses and a flag for each: whether it was deleted
abbrev pub book_of : Formula → List (List Literal) → List ℕ → List Bool → Book
book_of formula steps ids flags = record { formula = formula; steps = steps_of (drop (length formula.clauses) ids) steps; deleted = set.from_list (flagged ids flags) }

-- what is true of the parts of a store
pub record IsStore (formula : Formula) (steps : List (List Literal)) (ids : List ℕ) (flags : List Bool) : Type 0 where
  pub many_ids : length ids ≡ length formula.clauses + length steps
  pub many_flags : length flags ≡ length ids
  pub same_ids : ids_of (all_of (book_of formula steps ids flags)) ≡ ids
  pub rising : AreRising 0 ids
  pub over : All (IsOver formula.vars) steps

-- no number of the list is this one
abbrev pub IsAbsent : List ℕ → ℕ → Type 0
IsAbsent ids id = (k : ℕ) → k < length ids → slice_index ids k ≡ id → ⊥

-- this is the place of a number in the list
pub record IsPlace (ids : List ℕ) (id place : ℕ) : Type 0 where
  pub within : place < length ids
  pub is : slice_index ids place ≡ id

abbrev pub coded_literal : Coded Literal
coded_literal = code_by (ℕ × Bool) (coded× coded_ℕ coded_bool) (λ l. (l.var, l.negated)) (λ p. record { var = p.0; negated = p.1 }) (λ _. refl)

abbrev pub coded_numbered : Coded Numbered
coded_numbered = code_by (ℕ × List Literal) (coded× coded_ℕ (coded_list coded_literal)) (λ s. (s.id, s.clause)) (λ p. record { id = p.0; clause = p.1 }) (λ _. refl)

abbrev pub coded_formula : Coded Formula
coded_formula = code_by (ℕ × List (List Literal)) (coded× coded_ℕ (coded_list (coded_list coded_literal))) (λ f. (f.vars, f.clauses)) (λ p. record { vars = p.0; clauses = p.1 }) (λ _. refl)

abbrev pub coded_book : Coded Book
coded_book = code_by (Formula × (List Numbered × set.FinSet nat_cmp)) (coded× coded_formula (coded× (coded_list coded_numbered) (set.code coded_ℕ)))
    (λ b. (b.formula, (b.steps, b.deleted))) (λ p. record { formula = p.0; steps = p.1.0; deleted = p.1.1 }) (λ _. refl)
