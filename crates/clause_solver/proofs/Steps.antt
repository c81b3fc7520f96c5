-- What one more step is: accepted, new, and something that it tells propagation.
use Rattle.std.proofs.Common.{◌≡◌, ℕ, zero, suc, ◌+◌, ◌<◌, ◌≤◌, Bool, true, false, not, cond, List, [], ◌∷◌, ◌++◌, length, map, inl, inr, refl, sym, ap, ◌∙◌, subst, arith, ℤ, pos, None, get_or, length-append}
use Rattle.std.specs.Prelude.{All}
use Rattle.std.proofs.lemmas.List.Elements.{All-push}
use Rattle.std.proofs.lemmas.Bool.{cases_Bool, true≢false}
use Rattle.clause_core.specs.Literal.{Literal, flip, has}
use Rattle.clause_core.specs.Formula.{IsOver}
use Rattle.lrat_replay.specs.Book.{Book, run, denied, Accepted, some_flip, addition_fault, after_addition, is_empty}
use Rattle.lrat_replay.specs.New.{IsNew, TellsPropagation, IsUndecided}
use Rattle.lrat_replay.specs.Ledger.{IsKeptOrAdded}
use Rattle.lrat_replay.proofs.Tools.{has-at, some_flip-some, Learns-none}
use Rattle.clause_solver.specs.Trail.{known_by, oldest, before_last, has_decision, AreFresh, AreOver, IsVariableOf}
use Rattle.clause_solver.specs.Plain.{at_of, HaveReasons}
use Rattle.clause_solver.specs.Analysis.{IsAsserting}
use Rattle.clause_solver.specs.Copy.{IsCopy}
use Rattle.clause_solver.specs.Search.{LearnsNew, LearnsUpTo}
use Rattle.clause_solver.specs.declared.value.Value.{Value}
use Rattle.clause_solver.proofs.AnalyseLaws.{fresh_consistent, value_cases}
use Rattle.clause_solver.proofs.AnalysisSteps.{rested}
use Rattle.clause_solver.proofs.CopyLaws.{copy_accepts, not_above}
use Rattle.clause_solver.proofs.Closed.{IsClosed, closed_copy, undecided, learned_tells, learned_new}
use Rattle.clause_solver.proofs.Levels.{known-before}

-- a value's variable is one of the first ones
pub known_over : (vars : ℕ) (values : List Value) (l : Literal) → AreOver vars values → known_by values l ≡ true → IsVariableOf vars l
known_over vars [] l o h = absurd (true≢false (sym h))
known_over vars (e ∷ older) l o h = elim (value_cases e older l h) [
  | inl q ↦ subst (IsVariableOf vars) q o.0
  | inr q ↦ known_over vars older l o.1 q
]

-- a clause whose literals are all false
module _ (vars : ℕ) (values : List Value) (fresh : AreFresh values) (over : AreOver vars values) (clause : List Literal) (is_false : (l : Literal) → has clause l ≡ true → known_by values (flip l) ≡ true) where
  pub false_over : IsOver vars clause
  false_over = λ k d h.
      let x = get_or clause k d in
      let inside = has-at clause k x h (get_or-same clause k d h) in
      let v = known_over vars values (flip x) over (is_false x inside) in (v.counted, v.within) where
        get_or-same : (c : List Literal) (k : ℕ) (d : Literal) → k < length c → get_or c k d ≡ get_or c k (get_or c k d)
        get_or-same [] k d h = absurd (omega arith)
        get_or-same (x ∷ c) zero d h = refl
        get_or-same (x ∷ c) (suc k) d h = get_or-same c k d (omega arith)

-- a clause whose literals are all false has no literal and its complement
module _ (values : List Value) (fresh : AreFresh values) (clause : List Literal) (is_false : (l : Literal) → has clause l ≡ true → known_by values (flip l) ≡ true) where
  pub false_no_tautology : some_flip clause clause ≡ false
  false_no_tautology = elim (cases_Bool (some_flip clause clause)) [
    | inr f ↦ f
    | inl t ↦ let r = some_flip-some clause clause t in
        absurd (fresh_consistent values fresh (flip r.0) (is_false r.0 r.1) (is_false (flip r.0) r.2))
  ]

-- under the values before the last decision each clause rests
module _ (book : Book) (clauses : List (List Literal)) (copy : IsCopy book clauses) (values : List Value) (fresh : AreFresh values) (reasons : HaveReasons clauses values) (decided : has_decision values ≡ true) where
  closed : IsClosed book (known_by (before_last values))
  closed = closed_copy book clauses (known_by (before_last values)) copy
      (λ l a b. fresh_consistent values fresh l (known-before values l a) (known-before values (flip l) b)) (rested clauses values reasons decided)

  pub spent_undecided : IsUndecided book
  spent_undecided = undecided book (known_by (before_last values)) closed

  module _ (start : ℕ) (newest : before_last values ≡ oldest start values) (clause : List Literal) (a : IsAsserting (known_by (oldest start values)) clause) where
    asserting : IsAsserting (known_by (before_last values)) clause
    asserting = subst (λ vs. IsAsserting (known_by vs) clause) (sym newest) a

    pub asserting_new : IsNew book clause
    asserting_new = learned_new book (known_by (before_last values)) closed clause asserting.lit asserting.is_in asserting.unknown asserting.others

    pub asserting_tells : TellsPropagation book clause
    asserting_tells = learned_tells book (known_by (before_last values)) closed clause asserting.lit asserting.is_in asserting.unknown asserting.others

-- one step
pub learns_one : (book new : Book) (id : ℕ) (clause : List Literal) (hints : List ℤ) → addition_fault book id clause hints ≡ None → IsNew book clause → TellsPropagation book clause → new ≡ after_addition book id clause → LearnsNew book new 1
learns_one book new id clause hints accepted fresh tells grown = record {
  learned = record { id = id; clause = clause } ∷ [];
  grown = grown;
  accepted = ((hints, accepted), tt);
  are_new = (fresh, tt);
  tell = (tells, tt);
  many = refl;
}

-- at most one step
pub up_to_same : (book new : Book) (budget : ℕ) → new ≡ book → LearnsUpTo book new budget
up_to_same book new budget e = subst (λ b. LearnsUpTo book b budget) (sym e) (record { learned = []; learns = Learns-none book; few = omega arith })

pub up_to_one : (book new : Book) (id : ℕ) (clause : List Literal) (hints : List ℤ) (budget : ℕ) → addition_fault book id clause hints ≡ None → IsNew book clause → 1 ≤ budget → IsKeptOrAdded book new id clause → LearnsUpTo book new budget
up_to_one book new id clause hints budget accepted fresh some (inl e) = up_to_same book new budget e
up_to_one book new id clause hints budget accepted fresh some (inr e) = record {
  learned = record { id = id; clause = clause } ∷ [];
  learns = record { grown = e; accepted = ((hints, accepted), tt); fresh = (inr fresh, tt) };
  few = count (is_empty clause);
} where
  count : (b : Bool) → 0 + cond (not b) 1 0 ≤ budget
  count true = omega arith
  count false = omega arith

pub up_to_empty : (book new : Book) (id : ℕ) (hints : List ℤ) (budget : ℕ) → addition_fault book id [] hints ≡ None → IsKeptOrAdded book new id [] → LearnsUpTo book new budget
up_to_empty book new id hints budget accepted (inl e) = up_to_same book new budget e
up_to_empty book new id hints budget accepted (inr e) = record {
  learned = record { id = id; clause = [] } ∷ [];
  learns = record { grown = e; accepted = ((hints, accepted), tt); fresh = (inl refl, tt) };
  few = omega arith;
}

-- replay accepts the step
pub accepts : (book : Book) (clauses : List (List Literal)) → IsCopy book clauses → (clause : List Literal) (ids : List ℕ) → run (at_of clauses) (denied clause) (map pos ids) ≡ Accepted → IsOver book.formula.vars clause → some_flip clause clause ≡ false → length clauses < 2147483647
    → addition_fault book (length clauses + 1) clause (map pos ids) ≡ None
accepts book clauses copy clause ids ran over taut few = copy_accepts book clauses copy clause (map pos ids) ran (not_above book.formula.vars clause over) taut few

-- one more clause
pub over_more : (vars : ℕ) (clauses clauses' : List (List Literal)) (clause : List Literal) → All (IsOver vars) clauses → IsOver vars clause → clauses' ≡ clauses ++ clause ∷ [] → All (IsOver vars) clauses'
over_more vars clauses clauses' clause all one e = subst (All (IsOver vars)) (sym e) (All-push (IsOver vars) clauses clause all one)

pub length_more : (clauses clauses' : List (List Literal)) (clause : List Literal) → clauses' ≡ clauses ++ clause ∷ [] → length clauses' ≡ length clauses + 1
length_more clauses clauses' clause e = ap length e ∙ length-append clauses (clause ∷ [])

pub formula_same : (book new : Book) (id : ℕ) (clause : List Literal) → new ≡ after_addition book id clause → new.formula ≡ book.formula
formula_same book new id clause e = ap (λ (b : Book). b.formula) e
