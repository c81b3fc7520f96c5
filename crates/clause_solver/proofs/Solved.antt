-- What the endings of a search come to.
use Rattle.std.proofs.Common.{◌≡◌, ℕ, ◌+◌, ◌-◌, ◌^◌, ◌<◌, Bool, true, false, not, cond, List, [], ◌∷◌, ◌++◌, length, inl, inr, refl, sym, ap, ◌∙◌, subst, arith, Some}
use Rattle.std.specs.Prelude.{slice_get}
use Rattle.std.specs.List.{Contains}
use Rattle.std.proofs.lemmas.Bool.{both_ways, false_from_ne_true}
use Rattle.std.proofs.lemmas.List.Elements.{Contains-append_left, Contains-append_right}
use Rattle.clause_core.specs.Literal.{Literal, flip, has, is_true}
use Rattle.clause_core.specs.Formula.{IsOver, HasNoSolution, IsSatisfiedBy, value_in}
use Rattle.clause_core.proofs.Tools.{clause_is_true-has}
use Rattle.lrat_replay.specs.Status.{Known, Rests, IsSatisfied}
use Rattle.lrat_replay.specs.Book.{Book, Numbered, numbered, all_of, start}
use Rattle.lrat_replay.specs.New.{IsOpen, IsUndecided, AreAccepted, AllTellPropagation}
use Rattle.lrat_replay.proofs.Tools.{Contains-cases, IsConsistent, formula-after_steps, steps-after_steps, deleted-after_steps, AreAccepted-append, end_sound, fewer_than_sets}
use Rattle.clause_solver.specs.Trail.{known_by, AreFresh, AreValued, IsVariableOf, HasValues}
use Rattle.lrat_replay.specs.Learned.{EndsEmpty}
use Rattle.clause_solver.specs.Copy.{IsCopy}
use Rattle.clause_solver.specs.Search.{IsReady, Moment, Goes, HasModel, LearnsNew, LearnsUpTo}
use Rattle.clause_solver.specs.Solver.{KeepsOpen}
use Rattle.clause_solver.proofs.AnalyseLaws.{fresh_consistent}
use Rattle.clause_solver.proofs.Propagation.{all_over, over_has}
use Rattle.clause_solver.proofs.Closed.{numbered-at}
use Rattle.clause_solver.proofs.Rounds.{learns_more}

pub formula-learned : (old new : Book) (count : ℕ) → LearnsNew old new count → new.formula ≡ old.formula
formula-learned old new count a = ap (λ (b : Book). b.formula) a.grown ∙ formula-after_steps old a.learned

-- all steps come from the formula alone
module _ (book : Book) (count : ℕ) (a : LearnsNew (start book.formula) book count) where
  steps_are : book.steps ≡ a.learned
  steps_are = ap (λ (b : Book). b.steps) a.grown ∙ steps-after_steps (start book.formula) a.learned

  pub opens : IsUndecided book → IsOpen book.formula book.steps
  opens u = record {
    tell = subst (AllTellPropagation (start book.formula)) (sym steps_are) a.tell;
    undecided = subst IsUndecided (λ i. record { formula = book.formula; steps = book.steps; deleted = (ap (λ (b : Book). b.deleted) a.grown ∙ deleted-after_steps (start book.formula) a.learned) i }) u;
  }

whole_history : (old : Book) (count : ℕ) → LearnsNew (start old.formula) old count → (new : Book) (more : ℕ) → LearnsNew old new more → LearnsNew (start new.formula) new (count + more)
whole_history old count a new more b = subst (λ f. LearnsNew (start f) new (count + more)) (sym (formula-learned old new more b)) (learns_more (start old.formula) old new count more (count + more) a b refl)

pub keeps_open : (old : Book) (count : ℕ) → LearnsNew (start old.formula) old count → (now : Moment) (more : ℕ) → LearnsNew old now.book more → IsReady now.book now.broken now.clauses now.track now.width → KeepsOpen now
keeps_open old count a now more b ready = record { ready = ready; count = count + more; history = whole_history old count a now.book more b }

-- a clause of the formula is one of the clauses
record Placed (clauses : List (List Literal)) (clause : List Literal) : Type 0 where
  pub place : ℕ
  pub found : slice_get clauses place ≡ Some clause

numbered-contains : (n : ℕ) (clauses : List (List Literal)) (clause : List Literal) → Contains clauses clause → (step : Numbered) × Contains (numbered n clauses) step × (step.clause ≡ clause)
numbered-contains n [] clause m = absurd (omega arith)
numbered-contains n (c ∷ clauses) clause m = elim (Contains-cases c clauses clause m) [
  | inl e ↦ (record { id = n; clause = c }, (0, omega arith, refl), e)
  | inr e ↦ let r = numbered-contains (n + 1) clauses clause e in (r.0, Contains-append_right (record { id = n; clause = c } ∷ []) (numbered (n + 1) clauses) r.0 r.1, r.2)
]

placed : (book : Book) (clauses : List (List Literal)) → IsCopy book clauses → (clause : List Literal) → Contains book.formula.clauses clause → Placed clauses clause
placed book clauses copy clause m =
    let r = numbered-contains 1 book.formula.clauses clause m in
    let k = numbered-at 1 clauses r.0 (subst (λ steps. Contains steps r.0) copy.same (Contains-append_left (numbered 1 book.formula.clauses) book.steps r.0 r.1)) in
    record { place = k.0; found = k.1 ∙ ap Some r.2 }

-- where each variable has a value a clause that rests has a true literal
rest-satisfied : (vars : ℕ) (known : Known) (clause : List Literal) → AreValued vars known → IsOver vars clause → Rests known clause → IsSatisfied known clause
rest-satisfied vars known clause valued over (inl s) = s
rest-satisfied vars known clause valued over (inr w) = elim (valued w.one (over_has vars clause w.one over w.one_in)) [
  | inl k ↦ record { lit = w.one; is_in = w.one_in; is_known = k }
  | inr k ↦ absurd (both_ways (known (flip w.one)) w.one_unknown k)
]

-- a known literal is true
known_true : (vars : ℕ) (known : Known) (values : List Bool) → IsConsistent known → HasValues vars known values → (l : Literal) → IsVariableOf vars l → known l ≡ true → is_true (value_in values) l ≡ true
unfolding is_true
known_true vars known values consistent has l v k = by l.negated refl where
  value : value_in values l.var ≡ known (record { var = l.var; negated = false })
  value = has (l.var - 1) (let a = v.counted in let b = v.within in omega arith) ∙ ap (λ n. known (record { var = n; negated = false })) (let a = v.counted in omega arith)

  by : (b : Bool) → l.negated ≡ b → cond l.negated (not (value_in values l.var)) (value_in values l.var) ≡ true
  by true e = ap (λ b. cond b (not (value_in values l.var)) (value_in values l.var)) e ∙ ap not (value ∙ false_from_ne_true (known (record { var = l.var; negated = false }))
      (λ h. consistent (record { var = l.var; negated = false }) h (subst (λ b. known (record { var = l.var; negated = b }) ≡ true) e k)))
  by false e = ap (λ b. cond b (not (value_in values l.var)) (value_in values l.var)) e ∙ value ∙ subst (λ b. known (record { var = l.var; negated = b }) ≡ true) e k

pub model_satisfies : (now : Moment) (values : List Bool) → Goes now → HasModel now → AreFresh now.track.values → length values ≡ now.track.vars → HasValues now.track.vars (known_by now.track.values) values → IsSatisfiedBy values now.book.formula
model_satisfies now values goes model fresh many has = record {
  wide = let e = goes.ready.vars in omega arith;
  satisfies = λ clause m.
      let p = placed now.book now.clauses goes.ready.copy clause m in
      let over = all_over now.track.vars now.clauses p.place clause goes.ready.over p.found in
      let s = rest-satisfied now.track.vars (known_by now.track.values) clause model.valued over (model.rest p.place clause p.found) in
      clause_is_true-has (value_in values) clause s.lit s.is_in
      (known_true now.track.vars (known_by now.track.values) values (fresh_consistent now.track.values fresh) has s.lit (over_has now.track.vars clause s.lit over s.is_in) s.is_known);
}

pub formula-up_to : (old new : Book) (budget : ℕ) → LearnsUpTo old new budget → new.formula ≡ old.formula
formula-up_to old new budget a = ap (λ (b : Book). b.formula) a.learns.grown ∙ formula-after_steps old a.learned

pub deleted-up_to : (old new : Book) (budget : ℕ) → LearnsUpTo old new budget → new.deleted ≡ old.deleted
deleted-up_to old new budget a = ap (λ (b : Book). b.deleted) a.learns.grown ∙ deleted-after_steps old a.learned

-- the formula has no solution
pub refuted_no_solution : (old new : Book) (count budget : ℕ) → LearnsNew (start old.formula) old count → LearnsUpTo old new budget → EndsEmpty new.steps → HasNoSolution new.formula
refuted_no_solution old new count budget a b ends =
    let f = formula-up_to old new budget b in
    let all : new.steps ≡ a.learned ++ b.learned = ap (λ (k : Book). k.steps) b.learns.grown ∙ steps-after_steps old b.learned ∙ ap (λ s. s ++ b.learned) (steps_are old count a) in
    let accepted = AreAccepted-append (start old.formula) a.learned b.learned a.accepted (subst (λ k. AreAccepted k b.learned) a.grown b.learns.accepted) in
    subst HasNoSolution (sym f) (end_sound old.formula (a.learned ++ b.learned) accepted (subst EndsEmpty all ends))

-- a budget that suffices is not spent
pub spent_below : (old : Book) (count : ℕ) → LearnsNew (start old.formula) old count → (now : Moment) (budget : ℕ) → LearnsNew old now.book budget → IsReady now.book now.broken now.clauses now.track now.width → budget < 3 ^ now.book.formula.vars
spent_below old count a now budget b ready =
    let history = whole_history old count a now.book budget b in
    let steps = steps_are now.book (count + budget) history in
    let over = λ (s : Numbered) (m : Contains history.learned s).
    let inside : Contains (all_of now.book) s = Contains-append_right (numbered 1 now.book.formula.clauses) now.book.steps s (subst (λ ss. Contains ss s) (sym steps) m) in
    let k = numbered-at 1 now.clauses s (subst (λ ss. Contains ss s) ready.copy.same inside) in
    subst (λ n. IsOver n s.clause) ready.vars (all_over now.track.vars now.clauses k.0 s.clause ready.over k.1) in
    let few = fewer_than_sets now.book.formula history.learned history.accepted history.are_new over in
    let m = history.many in
    omega arith
