-- How the section of a question closes.
use Rattle.std.proofs.Common.{◌≡◌, ℕ, suc, ◌*◌, ◌≤◌, ◌||◌, Bool, true, false, List, [], ◌∷◌, ◌++◌, length, map, refl, sym, ap, ◌∙◌, subst, arith, length-append, None, Some, Result, Ok}
use Rattle.std.specs.declared.option.Option.{Option}
use Rattle.std.specs.Prelude.{IfSome}
use Rattle.clause_core.specs.Formula.{Formula, Satisfies, HasNoSolution, IsSatisfiedBy, value_in}
use Rattle.clause_solver.specs.Search.{LearnsNew}
use Rattle.clause_solver.specs.declared.verdict.SolveFault.{SolveFault}
use Rattle.clause_solver.specs.declared.verdict.Verdict.{Verdict}
use Rattle.clause_solver.specs.declared.verdict.Verdict.TheVariants as verdict
use Rattle.cube_core.specs.Function.{Function, IsFunction}
use Rattle.lattice_grid.specs.Lattice.{Lattice}
use Rattle.lattice_grid.specs.Rails.{controls_of}
use Rattle.lattice_grid.specs.Rectangle.{Size}
use Rattle.path_meaning.specs.Defective.{IsRealisedIn}
use Rattle.lrat_replay.specs.Book.{Book, Numbered, Accepts, start, is_empty, some_empty}
use Rattle.lrat_replay.specs.Laws.{Refutes}
use Rattle.lrat_replay.specs.Learned.{EndsEmpty, SpentWritten, without_hints}
use Rattle.lrat_replay.specs.New.{AreNew, IsOpen}
use Rattle.lrat_replay.specs.declared.line.LineKind.TheVariants.{Add}
use Rattle.lrat_replay.specs.declared.line.Step.{Step}
use Rattle.lrat_replay.proofs.Tools.{steps-after_steps}
use Rattle.reach_encoding.specs.Encoding.{Question, IsQuestion, encoding, HasSolution}
use Rattle.reach_encoding.specs.Decode.{Chooses, IsAskedOf, IsChoosing}
use Rattle.reach_encoding.specs.Solved.{lattice_read, IsRead, IsReadAsLattice, IsSolvedByLattices}
use Rattle.journal_text.specs.Bounds.{IsClose, IsTarget}
use Rattle.journal_text.specs.Calls.{IsClosed}
use Rattle.journal_text.specs.Kept.{AreOf, Learning}
use Rattle.journal_text.specs.declared.target.Close.{Close}
use Rattle.journal_text.specs.declared.target.Close.TheVariants as close
use Rattle.journal_text.specs.declared.target.Target.{Target}
use Rattle.journal_text.specs.declared.target.Target.TheVariants.{Whole, Marked}
use Rattle.journal_text.specs.Parts.{size_of, array_of}
use Rattle.lattice_question.specs.Asked.{question_for, HasNone, IsRightFor, SectionSo}
use Rattle.lattice_question.specs.Closing.{VerdictSo, ClosedSo}
use Rattle.lattice_question.specs.declared.question.Outcome.{Outcome}
use Rattle.lattice_question.specs.declared.question.Outcome.TheVariants as outcome

small_area : (a b : ℕ) → a ≤ 16 → b ≤ 16 → a * b ≤ 256
small_area a b p q = grind arith

-- ---- questions of a target

pub question_is : (f : Function) (rails : ℕ) (t : Target) → IsFunction f → IsTarget t → IsQuestion (question_for rails f t)
question_is f rails (Whole s) function bounds = record { function = function; size = bounds.0; few = bounds.1; array = tt }
question_is f rails (Marked a) function bounds =
    let few = small_area a.size.rows a.size.cols bounds.few_rows bounds.few_cols in
    record { function = function; size = record { some_rows = bounds.some_rows; some_cols = bounds.some_cols; few = omega (arith, few) }; few = omega (arith, few); array = refl }

-- a valuation that satisfies the formula chooses a control at each cell
pub chooses_so : IsChoosing → (f : Function) (rails inputs : ℕ) (t : Target) (s : Size) (formula : Formula) (values : List Bool) → IsQuestion (question_for rails f t) → inputs ≡ f.inputs → s ≡ size_of t → formula ≡ encoding (question_for rails f t)
    → IsSatisfiedBy values formula → Chooses (length (controls_of inputs rails)) s values
chooses_so choosing f rails inputs t s formula values question e size same satisfies =
    subst (λ z. Chooses (length (controls_of inputs rails)) z values) (sym size)
    (subst (λ n. Chooses (length (controls_of n rails)) (size_of t) values) (sym e) (choosing (question_for rails f t) values question (subst (IsSatisfiedBy values) same satisfies)))

-- a lattice that is read answers the question
read_right : (f : Function) (rails : ℕ) (t : Target) (v : ℕ → Bool) → IsRead (question_for rails f t) v → IsRightFor rails f t (lattice_read (question_for rails f t) v)
read_right f rails (Whole s) v h = (record { lattice = h.kept; over = h.over; realises = record { on = h.realises.on; off = h.realises.off } }, refl)
read_right f rails (Marked a) v h = record { lattice = h.kept; over = h.over; realises = h.realises }

pub right_so : IsReadAsLattice → (f : Function) (rails inputs : ℕ) (t : Target) (s : Size) (formula : Formula) (values : List Bool) (g : Lattice) → IsQuestion (question_for rails f t) → inputs ≡ f.inputs → s ≡ size_of t → formula ≡ encoding (question_for rails f t)
    → IsSatisfiedBy values formula → ((q : Question) → IsAskedOf inputs rails s q → g ≡ lattice_read q (value_in values)) → IsRightFor rails f t g
right_so read f rails inputs t s formula values g question e size same satisfies is_read =
    let q = question_for rails f t in
    let asked : IsAskedOf inputs rails s q = record { inputs_are = sym e; rails_are = refl; size_is = sym size } in
    subst (IsRightFor rails f t) (sym (is_read q asked)) (read_right f rails t (value_in values) (read q (value_in values) question (subst (λ (x : Formula). Satisfies (value_in values) x) same satisfies.satisfies)))

-- where the formula has no solution, no lattice of the target is right
pub none_so : IsSolvedByLattices → (f : Function) (rails : ℕ) (t : Target) (formula : Formula) → IsQuestion (question_for rails f t) → formula ≡ encoding (question_for rails f t) → HasNoSolution formula → HasNone rails f t
none_so solved f rails t formula question same none = by_target t question (λ realised. unsolved (solved (question_for rails f t) question).1 realised) where
  unsolved : (IsRealisedIn f.inputs rails f (size_of t) (array_of t) → HasSolution (encoding (question_for rails f t))) → IsRealisedIn f.inputs rails f (size_of t) (array_of t) → ⊥
  unsolved solution realised = let v = solution realised in subst HasNoSolution same none v.0 v.1

  by_target : (t : Target) → IsQuestion (question_for rails f t) → (IsRealisedIn f.inputs rails f (size_of t) (array_of t) → ⊥) → HasNone rails f t
  by_target (Whole s) question never = record {
    size = question.size;
    none = λ h. never (record { lattice = h.lattice; kept = h.kept; size_is = h.size_is; over = h.over; realises = record { same_size = tt; on = h.realises.on; off = h.realises.off } });
  }
  by_target (Marked a) question never = λ g right. never (record { lattice = g; kept = right.lattice; size_is = sym right.realises.same_size; over = right.over; realises = right.realises })

-- what a solver's verdict says of the section that it gives back
pub verdict_so : {K : Type 0} (v : Verdict) (result : Result Verdict SolveFault) (old old' new new' : Learning K) (budget : ℕ) → result ≡ Ok v → old' ≡ old → new' ≡ new
    → ((values : List Bool) → result ≡ Ok (verdict.Satisfied values) → IsSatisfiedBy values new.book.formula) → (result ≡ Ok verdict.Refuted → EndsEmpty new.book.steps) → (result ≡ Ok verdict.Refuted → HasNoSolution new.book.formula)
    → (result ≡ Ok verdict.Spent → LearnsNew old'.book new.book budget) → (result ≡ Ok verdict.Spent → IsOpen new.book.formula new.book.steps) → VerdictSo v old.book new'.book budget
verdict_so {K} v result old old' new new' budget is e k satisfied refuted none spent open_after =
    subst (λ (n : Learning K). VerdictSo v old.book n.book budget) (sym k) (subst (λ (o : Learning K). VerdictSo v o.book new.book budget) e (so v is)) where
      so : (v : Verdict) → result ≡ Ok v → VerdictSo v old'.book new.book budget
      so (verdict.Satisfied values) is = satisfied values is
      so verdict.Refuted is = (refuted is, none is)
      so verdict.Spent is = (spent is, open_after is)

-- ---- the empty clause

some_last : (before : List Numbered) (id : ℕ) → some_empty (before ++ record { id = id; clause = [] } ∷ []) ≡ true
some_last [] id = refl
some_last (step ∷ before) id = ap (λ b. is_empty step.clause || b) (some_last before id) ∙ or_true (is_empty step.clause) where
  or_true : (b : Bool) → (b || true) ≡ true
  or_true true = refl
  or_true false = refl

pub ends_reached : (steps : List Numbered) → EndsEmpty steps → some_empty steps ≡ true
ends_reached steps h = ap some_empty h.whole ∙ some_last h.before h.id

pub ends_some : (steps : List Numbered) → EndsEmpty steps → 1 ≤ length steps
ends_some steps h = subst (λ (xs : List Numbered). 1 ≤ length xs) (sym h.whole) (let long = length-append h.before (record { id = h.id; clause = [] } ∷ []) in omega arith)

many_bare : (steps : List Step) → length (without_hints steps) ≡ length steps
many_bare [] = refl
many_bare (x ∷ steps) = ap suc (many_bare steps)

-- ---- what a closed section says, in other words

pub closed_as : (told : Option (List ℕ)) (origin : List ℕ) (c : Close) (P Q : List Step → Type 0) → ((steps : List Step) → P steps → Q steps) → IfSome told (λ bytes. IsClosed bytes origin c P) → IfSome told (λ bytes. IsClosed bytes origin c Q)
closed_as None origin c P Q so h = tt
closed_as (Some bytes) origin c P Q so h = record { steps = h.steps; text = h.text; written = h.written; holds = so h.steps h.holds; asked = h.asked }

pub closed_satisfied : (told : Option (List ℕ)) (origin : List ℕ) (book : Book) → IfSome told (λ bytes. IsClosed bytes origin close.Satisfied (AreOf book)) → IfSome told (λ bytes. IsClosed bytes origin close.Satisfied (λ steps. Accepts (start book.formula) (map Add steps)))
closed_satisfied told origin book h = closed_as told origin close.Satisfied (AreOf book) (λ steps. Accepts (start book.formula) (map Add steps)) (λ steps k. k.accepted) h

pub closed_refuted : (told : Option (List ℕ)) (origin : List ℕ) (book : Book) (count : ℕ) → count ≡ length book.steps → IfSome told (λ bytes. IsClosed bytes origin close.Refuted (λ steps. AreOf book steps × Refutes book.formula (map Add steps)))
    → IfSome told (λ bytes. IsClosed bytes origin close.Refuted (λ steps. Refutes book.formula (map Add steps) × (length steps ≡ count)))
closed_refuted told origin book count e h =
    closed_as told origin close.Refuted (λ steps. AreOf book steps × Refutes book.formula (map Add steps)) (λ steps. Refutes book.formula (map Add steps) × (length steps ≡ count))
    (λ steps k. (k.1, sym (many_bare steps) ∙ ap length k.0.same ∙ sym e)) h

pub closed_spent : (told : Option (List ℕ)) (origin : List ℕ) (book : Book) (budget : ℕ) → IsOpen book.formula book.steps → IfSome told (λ bytes. IsClosed bytes origin (close.Spent budget) (λ steps. AreOf book steps × SpentWritten book.formula steps budget))
    → IfSome told (λ bytes. IsClosed bytes origin (close.Spent budget) (λ steps. SpentWritten book.formula steps budget × IsOpen book.formula (without_hints steps)))
closed_spent told origin book budget left h =
    closed_as told origin (close.Spent budget) (λ steps. AreOf book steps × SpentWritten book.formula steps budget) (λ steps. SpentWritten book.formula steps budget × IsOpen book.formula (without_hints steps))
    (λ steps k. (k.1, subst (IsOpen book.formula) (sym k.0.same) left)) h

-- ---- the steps that a solver learned

learned_are : (book : Book) (budget : ℕ) (h : LearnsNew (start book.formula) book budget) → book.steps ≡ h.learned
learned_are book budget h = ap (λ (b : Book). b.steps) h.grown ∙ steps-after_steps (start book.formula) h.learned

pub spent_count : (book : Book) (budget : ℕ) → LearnsNew (start book.formula) book budget → length book.steps ≡ budget
spent_count book budget h = ap length (learned_are book budget h) ∙ h.many

pub spent_new : (book : Book) (budget : ℕ) → LearnsNew (start book.formula) book budget → AreNew (start book.formula) book.steps
spent_new book budget h = subst (AreNew (start book.formula)) (sym (learned_are book budget h)) h.are_new

-- ---- the section of an outcome

module _ (rails : ℕ) (f : Function) (budget : ℕ) (t : Target) (formula : Formula) (same : formula ≡ encoding (question_for rails f t)) (told : Option (List ℕ)) (origin : List ℕ) where
  closed_so : (o : Outcome) (c : Close) (P : List Step → Type 0) → IsClose c → ((steps : List Step) (output : ℕ) → P steps → SectionSo rails f budget o (record { output = output; target = t; steps = steps; close = c }))
      → IfSome told (λ bytes. IsClosed bytes origin c P) → IfSome told (λ bytes. ClosedSo rails f budget t o origin bytes)
  closed_so o c P closes so h = turned told h where
    turned : (told : Option (List ℕ)) → IfSome told (λ bytes. IsClosed bytes origin c P) → IfSome told (λ bytes. ClosedSo rails f budget t o origin bytes)
    turned None h = tt
    turned (Some bytes) h = record { steps = h.steps; close = c; written = h.written; may_close = closes; told = h.asked; text = h.text; holds = λ output. so h.steps output h.holds }

  pub satisfied_so : (g : Lattice) → IfSome told (λ bytes. IsClosed bytes origin close.Satisfied (λ steps. Accepts (start formula) (map Add steps))) → IfSome told (λ bytes. ClosedSo rails f budget t (outcome.Satisfied g) origin bytes)
  satisfied_so g h =
      closed_so (outcome.Satisfied g) close.Satisfied (λ steps. Accepts (start formula) (map Add steps)) tt (λ steps output k. (refl, subst (λ (x : Formula). Accepts (start x) (map Add steps)) same k)) h

  pub refuted_so : (count : ℕ) → IfSome told (λ bytes. IsClosed bytes origin close.Refuted (λ steps. Refutes formula (map Add steps) × (length steps ≡ count))) → IfSome told (λ bytes. ClosedSo rails f budget t (outcome.Refuted count) origin bytes)
  refuted_so count h =
      closed_so (outcome.Refuted count) close.Refuted (λ steps. Refutes formula (map Add steps) × (length steps ≡ count)) tt
      (λ steps output k. (record { close = refl; refutes = subst (λ (x : Formula). Refutes x (map Add steps)) same k.0 }, k.1)) h

  pub spent_so : budget ≤ 200000 → IfSome told (λ bytes. IsClosed bytes origin (close.Spent budget) (λ steps. SpentWritten formula steps budget × IsOpen formula (without_hints steps))) → IfSome told (λ bytes. ClosedSo rails f budget t outcome.Spent origin bytes)
  spent_so few h =
      closed_so outcome.Spent (close.Spent budget) (λ steps. SpentWritten formula steps budget × IsOpen formula (without_hints steps)) few
      (λ steps output k. (record { close = refl; spent = subst (λ (x : Formula). SpentWritten x steps budget) same k.0 }, subst (λ (x : Formula). IsOpen x (without_hints steps)) same k.1)) h
