-- Each accepted step holds under every valuation that satisfies the formula.
use Rattle.std.proofs.Common.{◌≡◌, ℕ, zero, suc, ◌+◌, ◌==◌, Bool, true, false, not, cond, ◌||◌, List, [], ◌∷◌, ◌++◌, ◌⊎◌, inl, inr, refl, ap, sym, ◌∙◌, subst, ℤ, pos, negsuc, Option, None, Some, append_assoc, arith}
use Rattle.std.specs.List.{Contains}
use Rattle.std.proofs.lemmas.List.Elements.{Contains-append_right, Contains-append_cases}
use Rattle.std.proofs.lemmas.Bool.{cases_Bool, both_ways, true≢false, cond-false, not-false}
use Rattle.std.specs.FinSet as set
use Rattle.clause_core.specs.Literal.{Literal, flip, is_true, clause_is_true}
use Rattle.clause_core.specs.Formula.{Formula, Satisfies}
use Rattle.clause_core.proofs.Tools.{is_true-flip, clause_is_true-some, clause_is_true-none}
use Rattle.lrat_replay.specs.Book.{Book, Numbered, numbered, all_of, find, live, last_id, Outcome, Accepted, Refused, Unfinished, denied, run, fault_of_outcome, some_flip, some_above, addition_fault, after_deletion, line_fault, after_line, start, Accepts}
use Rattle.lrat_replay.specs.Laws.{IsSound, IsRefutationSound}
use Rattle.lrat_replay.specs.declared.line.Step.{Step}
use Rattle.lrat_replay.specs.declared.line.LineKind.{LineKind}
use Rattle.lrat_replay.specs.declared.line.LineKind.TheVariants.{Add, Delete}
use Rattle.lrat_replay.specs.declared.fault.StepFault.{StepFault}
use Rattle.lrat_replay.specs.declared.fault.StepFault.TheVariants.{Order, Variable, Tautology}
use Rattle.std.specs.Prelude.{nat_lt}
use Rattle.lrat_replay.specs.Status.{Rests}
use Rattle.lrat_replay.proofs.Runs.{IsConsistent, IsWithin, stays}

Contains-one : {X : Type 0} (x y : X) → Contains (x ∷ []) y → x ≡ y
Contains-one x y (zero, h, e) = e
Contains-one x y (suc k, h, e) = absurd (omega arith)

pub Contains-head : {X : Type 0} (x : X) (xs : List X) → Contains (x ∷ xs) x
Contains-head x xs = (0, omega arith, refl)

pub Contains-cases : {X : Type 0} (x : X) (xs : List X) (y : X) → Contains (x ∷ xs) y → (x ≡ y) ⊎ Contains xs y
Contains-cases x xs y m = elim (Contains-append_cases (x ∷ []) xs y m) [
  | inl e ↦ inl (Contains-one x y e)
  | inr e ↦ inr e
]

-- each clause is true
abbrev pub AllTrue : (ℕ → Bool) → List Numbered → Type 0
AllTrue v [] = Unit {0}
AllTrue v (step ∷ steps) = (clause_is_true v step.clause ≡ true) × AllTrue v steps

passed : (b : Bool) (fault : StepFault) (o : Option StepFault) → cond b (Some fault) o ≡ None → (b ≡ false) × (o ≡ None)
passed true fault o h = absurd (cc)
passed false fault o h = (refl, h)

-- what an accepted addition passed
pub record Passed (book : Book) (id : ℕ) (clause : List Literal) (hints : List ℤ) : Type 0 where
  pub order : (not (nat_lt (last_id book) id) || nat_lt 2147483647 id) ≡ false
  pub variables : some_above book.formula.vars clause ≡ false
  pub no_tautology : some_flip clause clause ≡ false
  pub ran : run (live book) (denied clause) hints ≡ Accepted

outcome-none : (o : Outcome) → fault_of_outcome o ≡ None → o ≡ Accepted
outcome-none Accepted h = refl
outcome-none (Refused fault) h = absurd (cc)
outcome-none (Unfinished known) h = absurd (cc)

pub addition-passed : (book : Book) (id : ℕ) (clause : List Literal) (hints : List ℤ) → addition_fault book id clause hints ≡ None → Passed book id clause hints
unfolding addition_fault
addition-passed book id clause hints h =
    let a = passed (not (nat_lt (last_id book) id) || nat_lt 2147483647 id) Order _ h in
    let b = passed (some_above book.formula.vars clause) Variable _ a.1 in
    let c = passed (some_flip clause clause) Tautology _ b.1 in
    record { order = a.0; variables = b.0; no_tautology = c.0; ran = outcome-none (run (live book) (denied clause) hints) c.1 }

pub addition-none : (book : Book) (id : ℕ) (clause : List Literal) (hints : List ℤ) → Passed book id clause hints → addition_fault book id clause hints ≡ None
unfolding addition_fault
addition-none book id clause hints p = cond-false _ _ _ p.order ∙ cond-false _ _ _ p.variables ∙ cond-false _ _ _ p.no_tautology ∙ ap fault_of_outcome p.ran

module _ (v : ℕ → Bool) where
  find_true : (steps : List Numbered) (id : ℕ) (clause : List Literal) → AllTrue v steps → find steps id ≡ Some clause → clause_is_true v clause ≡ true
  find_true [] id clause a = λ h. absurd (cc)
  find_true (step ∷ steps) id clause a = elim (step.id == id) as (λ b. cond b (Some step.clause) (find steps id) ≡ Some clause → clause_is_true v clause ≡ true) [
    | true ↦ λ h. let e : step.clause ≡ clause = cc in subst (λ c. clause_is_true v c ≡ true) e a.0
    | false ↦ λ h. find_true steps id clause a.1 h
  ]

  live_true : (book : Book) (id : ℕ) (clause : List Literal) → AllTrue v (all_of book) → live book id ≡ Some clause → clause_is_true v clause ≡ true
  live_true book id clause a = elim (set.contains book.deleted id) as (λ b. cond b None (find (all_of book) id) ≡ Some clause → clause_is_true v clause ≡ true) [
    | true ↦ λ h. absurd (cc)
    | false ↦ λ h. find_true (all_of book) id clause a h
  ]

  -- a valuation that makes each live clause true makes an accepted one true: under its literals each live clause rests
  true_of_run : (at : ℕ → Option (List Literal)) → ((id : ℕ) (clause : List Literal) → at id ≡ Some clause → clause_is_true v clause ≡ true) →
      (clause : List Literal) (hints : List ℤ) → run at (denied clause) hints ≡ Accepted → clause_is_true v clause ≡ true
  true_of_run at each clause hints h = elim (cases_Bool (clause_is_true v clause)) [
    | inl t ↦ t
    | inr f ↦
        let none = clause_is_true-none v clause f in
        let consistent : IsConsistent (is_true v) = λ l a b. both_ways (is_true v (flip l)) (is_true-flip v l ∙ ap not a) b in
        let within : IsWithin (denied clause) (is_true v) = λ l m. not-false (is_true v l) (sym (is_true-flip v l) ∙ none (flip l) m) in
        let rest = λ (id : ℕ) (c : List Literal) (found : at id ≡ Some c). let s = clause_is_true-some v c (each id c found) in
        let r : Rests (is_true v) c = inl (record { lit = s.0; is_in = s.1; is_known = s.2 }) in r in
        absurd ((stays at (is_true v) consistent rest (denied clause) within hints).0 h)
  ]

  AllTrue-append : (a b : List Numbered) → AllTrue v a → AllTrue v b → AllTrue v (a ++ b)
  AllTrue-append [] b h k = k
  AllTrue-append (x ∷ a) b h k = (h.0, AllTrue-append a b h.1 k)

  AllTrue-numbered : (n : ℕ) (clauses : List (List Literal)) → ((c : List Literal) → Contains clauses c → clause_is_true v c ≡ true) → AllTrue v (numbered n clauses)
  AllTrue-numbered n [] h = tt
  AllTrue-numbered n (c ∷ clauses) h = (h c (Contains-head c clauses), AllTrue-numbered (n + 1) clauses (λ d m. h d (Contains-append_right (c ∷ []) clauses d m)))

  pub addition_true : (book : Book) (id : ℕ) (clause : List Literal) (hints : List ℤ) → AllTrue v (all_of book) → addition_fault book id clause hints ≡ None → clause_is_true v clause ≡ true
  addition_true book id clause hints a h = true_of_run (live book) (λ i c found. live_true book i c a found) clause hints (addition-passed book id clause hints h).ran

  after_deletion-all : (book : Book) (ids : List ℤ) → all_of (after_deletion book ids) ≡ all_of book
  after_deletion-all book [] = refl
  after_deletion-all book (negsuc n ∷ ids) = refl
  after_deletion-all book (pos id ∷ ids) = after_deletion-all (record { formula = book.formula; steps = book.steps; deleted = set.insert book.deleted id }) ids

  pub line_true : (book : Book) (line : LineKind) → AllTrue v (all_of book) → line_fault book line ≡ None → AllTrue v (all_of (after_line book line))
  line_true book (Add step) a h =
      subst (AllTrue v) (append_assoc (numbered 1 book.formula.clauses) book.steps (record { id = step.id; clause = step.clause } ∷ []))
      (AllTrue-append (all_of book) (record { id = step.id; clause = step.clause } ∷ []) a (addition_true book step.id step.clause step.hints a h, tt))
  line_true book (Delete ids) a h = subst (AllTrue v) (sym (after_deletion-all book ids)) a

  lines_true : (book : Book) (lines : List LineKind) → AllTrue v (all_of book) → Accepts book lines →
      (step : Step) → Contains lines (Add step) → clause_is_true v step.clause ≡ true
  lines_true book [] a h step m = absurd (omega arith)
  lines_true book (line ∷ lines) a h step m = elim (Contains-cases line lines (Add step) m) [
    | inl e ↦ addition_true book step.id step.clause step.hints a (subst (λ w. line_fault book w ≡ None) e h.0)
    | inr e ↦ lines_true (after_line book line) lines (line_true book line a h.0) h.1 step e
  ]

pub start_true : (v : ℕ → Bool) (formula : Formula) → Satisfies v formula → AllTrue v (all_of (start formula))
start_true v formula s = AllTrue-append v (numbered 1 formula.clauses) [] (AllTrue-numbered v 1 formula.clauses s) tt

pub sound : IsSound
sound formula lines h step m v s = lines_true v (start formula) lines (start_true v formula s) h step m

pub refutation_sound : IsRefutationSound
refutation_sound formula lines r v s = true≢false (sym (sound formula lines r.accepted r.step r.reached v s) ∙ ap (clause_is_true v) r.empty)
