-- Steps that are replayed one after the other, and what they come to.
use Rattle.std.proofs.Common.{◌≡◌, ◌↔◌, ℕ, suc, ◌+◌, ◌<◌, List, [], ◌∷◌, ◌++◌, length, get_or, take, drop, map, refl, sym, ap, ◌∙◌, subst, arith, inl, inr, ◌⊎◌, drop-cons, Some, None, Bool, true, false, ◌||◌, ◌&&◌, ℤ}
use Rattle.std.specs.List.{Contains}
use Rattle.std.specs.declared.option.Option.{Option}
use Rattle.std.proofs.lemmas.Bool.{or_cases, or_left, or_right, true≢false}
use Rattle.std.proofs.lemmas.List.{take_more, take-append-drop, map-append}
use Rattle.std.proofs.lemmas.List.Elements.{Contains-append_right}
use Rattle.clause_core.specs.Formula.{Formula}
use Rattle.clause_core.specs.Literal.{Literal}
use Rattle.lrat_replay.proofs.Tools.{Contains-head, Contains-cases}
use Rattle.lrat_replay.specs.Book.{Book, Numbered, Accepts, addition_fault, after_addition, line_fault, after_line, after_lines, start, is_empty, some_empty}
use Rattle.lrat_replay.specs.Learned.{AreWrittenNew}
use Rattle.lrat_replay.specs.New.{IsNew}
use Rattle.lrat_replay.specs.Replay.{IsFault}
use Rattle.lrat_replay.specs.declared.fault.StepFault.{StepFault}
use Rattle.lrat_replay.specs.declared.fault.StepFault.TheVariants.{Order, Unknown, Satisfied, Loose, NoConflict, Rat, Tautology, Variable, NoMemory}
use Rattle.lrat_replay.specs.declared.line.LineKind.{LineKind}
use Rattle.lrat_replay.specs.declared.line.LineKind.TheVariants.{Add}
use Rattle.lrat_replay.specs.declared.line.Step.{Step}
use Rattle.journal_text.specs.declared.journal.StepLine.{StepLine}
use Rattle.audit_core.specs.Audit.{adds_of, IsFirstFault}
use Rattle.audit_core.specs.Replayed.{steps_of, refusal_of, StopsAt}
use Rattle.audit_core.specs.declared.refusal.AuditRefusal.{AuditRefusal}

after_lines-push : (book : Book) (lines : List LineKind) (line : LineKind) → after_lines book (lines ++ line ∷ []) ≡ after_line (after_lines book lines) line
after_lines-push book [] line = refl
after_lines-push book (first ∷ lines) line = after_lines-push (after_line book first) lines line

Accepts-push : (book : Book) (lines : List LineKind) (line : LineKind) → Accepts book lines → line_fault (after_lines book lines) line ≡ None → Accepts book (lines ++ line ∷ [])
Accepts-push book [] line all last = (last, tt)
Accepts-push book (first ∷ lines) line all last = (all.0, Accepts-push (after_line book first) lines line all.1 last)

-- what steps do, with their lines and without
pub adds_steps : (steps : List StepLine) → adds_of steps ≡ map Add (steps_of steps)
adds_steps [] = refl
adds_steps (s ∷ steps) = ap (λ l. Add s.step ∷ l) (adds_steps steps)

-- ---- a loop over steps

-- The steps up to a place are accepted, and this stands after them.
pub record ReplaysTo (book now : Book) (steps : List StepLine) (i : ℕ) : Type 0 where
  pub accepted : Accepts book (adds_of (take i steps))
  pub after : now ≡ after_lines book (adds_of (take i steps))

adds_of-more : (steps : List StepLine) (i : ℕ) (line : StepLine) → i < length steps → line ≡ get_or steps i line → adds_of (take (i + 1) steps) ≡ adds_of (take i steps) ++ Add line.step ∷ []
adds_of-more steps i line within is =
    ap adds_of (take_more steps i line within) ∙ map-append (λ (l : StepLine). Add l.step) (take i steps) (get_or steps i line ∷ []) ∙ ap (λ (l : StepLine). adds_of (take i steps) ++ Add l.step ∷ []) (sym is)

pub ReplaysTo-more : (book old new : Book) (steps : List StepLine) (i : ℕ) (line : StepLine) → i < length steps → line ≡ get_or steps i line → ReplaysTo book old steps i
    → addition_fault old line.step.id line.step.clause line.step.hints ≡ None → new ≡ after_addition old line.step.id line.step.clause → ReplaysTo book new steps (i + 1)
ReplaysTo-more book old new steps i line within is h fine now =
    let more = adds_of-more steps i line within is in
    record {
      accepted = subst (Accepts book) (sym more) (Accepts-push book (adds_of (take i steps)) (Add line.step) h.accepted (subst (λ b. line_fault b (Add line.step) ≡ None) h.after fine));
      after = now ∙ ap (λ b. after_line b (Add line.step)) h.after ∙ sym (ap (after_lines book) more ∙ after_lines-push book (adds_of (take i steps)) (Add line.step));
    }

first_fault : (book now : Book) (steps : List StepLine) (i : ℕ) (line : StepLine) (fault : StepFault) → i < length steps → line ≡ get_or steps i line → ReplaysTo book now steps i
    → addition_fault now line.step.id line.step.clause line.step.hints ≡ Some fault → IsFirstFault book steps line.line fault
first_fault book now steps i line fault within is h refused = record {
  before = take i steps;
  step = line;
  later = drop (suc i) steps;
  whole = sym (take-append-drop i steps) ∙ ap (λ ls. take i steps ++ ls) (drop-cons steps i line within ∙ ap (λ l. l ∷ drop (suc i) steps) (sym is));
  accepted = h.accepted;
  refused = subst (λ b. addition_fault b line.step.id line.step.clause line.step.hints ≡ Some fault) h.after refused;
  line_is = refl;
}

-- a fault that is no want of memory is the one that the step is refused for
fault_is : (wanted : Option StepFault) (fault : StepFault) → IsFault wanted fault → (fault ≡ NoMemory → ⊥) → wanted ≡ Some fault
fault_is None fault is other = absurd (other is)
fault_is (Some w) fault is other = ap Some (sym is)

-- replay stops at a step that is not accepted
pub stops_at : (book now : Book) (steps : List StepLine) (i : ℕ) (line : StepLine) (fault : StepFault) → i < length steps → line ≡ get_or steps i line → ReplaysTo book now steps i
    → IsFault (addition_fault now line.step.id line.step.clause line.step.hints) fault → StopsAt book steps (refusal_of line.line fault)
stops_at book now steps i line NoMemory within is h cause other = absurd (other refl)
stops_at book now steps i line Order within is h cause other = (line.line, Order, first_fault book now steps i line Order within is h (fault_is _ _ cause (λ e. cc)), refl)
stops_at book now steps i line Unknown within is h cause other = (line.line, Unknown, first_fault book now steps i line Unknown within is h (fault_is _ _ cause (λ e. cc)), refl)
stops_at book now steps i line Satisfied within is h cause other = (line.line, Satisfied, first_fault book now steps i line Satisfied within is h (fault_is _ _ cause (λ e. cc)), refl)
stops_at book now steps i line Loose within is h cause other = (line.line, Loose, first_fault book now steps i line Loose within is h (fault_is _ _ cause (λ e. cc)), refl)
stops_at book now steps i line NoConflict within is h cause other = (line.line, NoConflict, first_fault book now steps i line NoConflict within is h (fault_is _ _ cause (λ e. cc)), refl)
stops_at book now steps i line Rat within is h cause other = (line.line, Rat, first_fault book now steps i line Rat within is h (fault_is _ _ cause (λ e. cc)), refl)
stops_at book now steps i line Tautology within is h cause other = (line.line, Tautology, first_fault book now steps i line Tautology within is h (fault_is _ _ cause (λ e. cc)), refl)
stops_at book now steps i line Variable within is h cause other = (line.line, Variable, first_fault book now steps i line Variable within is h (fault_is _ _ cause (λ e. cc)), refl)

-- the same, where the clause and the hints are read
pub stops_as : (book now : Book) (steps : List StepLine) (i : ℕ) (line : StepLine) (fault : StepFault) (clause : List Literal) (hints : List ℤ) (r : AuditRefusal) → i < length steps → line ≡ get_or steps i line → ReplaysTo book now steps i
    → clause ≡ line.step.clause → hints ≡ line.step.hints → IsFault (addition_fault now line.step.id clause hints) fault → r ≡ refusal_of line.line fault → StopsAt book steps r
stops_as book now steps i line fault clause hints r within is h same_clause same_hints cause r_is =
    subst (StopsAt book steps) (sym r_is)
    (stops_at book now steps i line fault within is h (subst (λ c. IsFault (addition_fault now line.step.id c line.step.hints) fault) same_clause (subst (λ x. IsFault (addition_fault now line.step.id clause x) fault) same_hints cause)))

pub replays_as : (book old new : Book) (steps : List StepLine) (i : ℕ) (line : StepLine) (clause : List Literal) (hints : List ℤ) → i < length steps → line ≡ get_or steps i line → ReplaysTo book old steps i
    → clause ≡ line.step.clause → hints ≡ line.step.hints → addition_fault old line.step.id clause hints ≡ None → new ≡ after_addition old line.step.id clause → ReplaysTo book new steps (i + 1)
replays_as book old new steps i line clause hints within is h same_clause same_hints fine now =
    ReplaysTo-more book old new steps i line within is h (subst (λ c. addition_fault old line.step.id c line.step.hints ≡ None) same_clause (subst (λ x. addition_fault old line.step.id clause x ≡ None) same_hints fine))
    (now ∙ ap (after_addition old line.step.id) same_clause)

-- ---- new steps

-- one more written step
pub written_more : (book : Book) (steps : List Step) (step : Step) → addition_fault (after_lines book (map Add steps)) step.id step.clause step.hints ≡ None
    → AreWrittenNew book (steps ++ step ∷ []) ↔ (AreWrittenNew book steps × IsNew (after_lines book (map Add steps)) step.clause)
written_more book [] step fine = (λ h. (tt, h.1), λ h. (fine, h.1, tt))
written_more book (first ∷ steps) step fine =
    let more = written_more (after_addition book first.id first.clause) steps step fine in
    (λ h. ((h.0, h.1, (more.0 h.2).0), (more.0 h.2).1), λ h. (h.0.0, h.0.1, more.1 (h.0.2, h.1)))

both_true : (a b : Bool) → (a && b) ≡ true → (a ≡ true) × (b ≡ true)
both_true true true h = (refl, refl)
both_true true false h = absurd (true≢false (sym h))
both_true false b h = absurd (true≢false (sym h))

and_true : (a b : Bool) → a ≡ true → b ≡ true → (a && b) ≡ true
and_true a b p q = ap (λ x. x && b) p ∙ q

steps_of-more : (steps : List StepLine) (i : ℕ) (line : StepLine) → i < length steps → line ≡ get_or steps i line → steps_of (take (i + 1) steps) ≡ steps_of (take i steps) ++ line.step ∷ []
steps_of-more steps i line within is =
    ap steps_of (take_more steps i line within) ∙ map-append (λ (l : StepLine). l.step) (take i steps) (get_or steps i line ∷ []) ∙ ap (λ (l : StepLine). steps_of (take i steps) ++ l.step ∷ []) (sym is)

-- the written steps up to one more place
pub fresh_more : (book old : Book) (steps : List StepLine) (i : ℕ) (line : StepLine) → i < length steps → line ≡ get_or steps i line → ReplaysTo book old steps i
    → addition_fault old line.step.id line.step.clause line.step.hints ≡ None
    → AreWrittenNew book (steps_of (take (i + 1) steps)) ↔ (AreWrittenNew book (steps_of (take i steps)) × IsNew old line.step.clause)
fresh_more book old steps i line within is h fine =
    let there : old ≡ after_lines book (map Add (steps_of (take i steps))) = h.after ∙ ap (after_lines book) (adds_steps (take i steps)) in
    let more = written_more book (steps_of (take i steps)) line.step (subst (λ b. addition_fault b line.step.id line.step.clause line.step.hints ≡ None) there fine) in
    subst (λ l. AreWrittenNew book l ↔ (AreWrittenNew book (steps_of (take i steps)) × IsNew old line.step.clause)) (sym (steps_of-more steps i line within is))
    (subst (λ b. AreWrittenNew book (steps_of (take i steps) ++ line.step ∷ []) ↔ (AreWrittenNew book (steps_of (take i steps)) × IsNew b line.step.clause)) (sym there) more)

pub fresh_as : (fresh is_new : Bool) (book old : Book) (steps : List StepLine) (i : ℕ) (line : StepLine) (clause : List Literal) (hints : List ℤ) → i < length steps → line ≡ get_or steps i line → ReplaysTo book old steps i
    → clause ≡ line.step.clause → hints ≡ line.step.hints → addition_fault old line.step.id clause hints ≡ None
    → (fresh ≡ true) ↔ AreWrittenNew book (steps_of (take i steps)) → (is_new ≡ true) ↔ IsNew old clause → ((fresh && is_new) ≡ true) ↔ AreWrittenNew book (steps_of (take (i + 1) steps))
fresh_as fresh is_new book old steps i line clause hints within is h same_clause same_hints fine earlier here =
    let more = fresh_more book old steps i line within is h (subst (λ c. addition_fault old line.step.id c line.step.hints ≡ None) same_clause (subst (λ x. addition_fault old line.step.id clause x ≡ None) same_hints fine)) in (
      λ e. let p = both_true fresh is_new e in more.1 (earlier.0 p.0, subst (IsNew old) same_clause (here.0 p.1)),
      λ k. let q = more.0 k in and_true fresh is_new (earlier.1 q.0) (here.1 (subst (IsNew old) (sym same_clause) q.1)),
    )

-- ---- empty steps

-- some step is the empty clause
abbrev pub HasEmpty : List Step → Type 0
HasEmpty steps = (step : Step) × Contains steps step × (step.clause ≡ [])

some_empty-push : (steps : List Numbered) (step : Numbered) → some_empty (steps ++ step ∷ []) ≡ (some_empty steps || is_empty step.clause)
some_empty-push [] step = shape (is_empty step.clause) where
  shape : (b : Bool) → (b || false) ≡ (false || b)
  shape b = grind arith
some_empty-push (x ∷ steps) step = ap (λ b. is_empty x.clause || b) (some_empty-push steps step) ∙ shape (is_empty x.clause) (some_empty steps) (is_empty step.clause) where
  shape : (a b c : Bool) → (a || (b || c)) ≡ ((a || b) || c)
  shape a b c = grind arith

is_empty-true : (clause : List Literal) → is_empty clause ≡ true → clause ≡ []
is_empty-true [] h = refl
is_empty-true (x ∷ clause) h = absurd (cc)

empty_step : (book : Book) (steps : List Step) → some_empty (after_lines book (map Add steps)).steps ≡ true → (some_empty book.steps ≡ true) ⊎ HasEmpty steps
empty_step book [] h = inl h
empty_step book (step ∷ steps) h = elim (empty_step (after_addition book step.id step.clause) steps h) [
  | inl e ↦ elim (or_cases (some_empty book.steps) (is_empty step.clause) (sym (some_empty-push book.steps (record { id = step.id; clause = step.clause })) ∙ e)) [
    | inl f ↦ inl f
    | inr f ↦ inr (step, Contains-head step steps, is_empty-true step.clause f)
  ]
  | inr e ↦ inr (e.0, Contains-append_right (step ∷ []) steps e.0 e.1, e.2)
]

kept_empty : (book : Book) (steps : List Step) → some_empty book.steps ≡ true → some_empty (after_lines book (map Add steps)).steps ≡ true
kept_empty book [] h = h
kept_empty book (step ∷ steps) h =
    kept_empty (after_addition book step.id step.clause) steps (some_empty-push book.steps (record { id = step.id; clause = step.clause }) ∙ or_left (some_empty book.steps) (is_empty step.clause) h)

step_empty : (book : Book) (steps : List Step) (step : Step) → Contains steps step → step.clause ≡ [] → some_empty (after_lines book (map Add steps)).steps ≡ true
step_empty book [] step among h = absurd (omega (arith, among.1))
step_empty book (first ∷ steps) step among h = elim (Contains-cases first steps step among) [
  | inl e ↦ kept_empty (after_addition book first.id first.clause) steps
      (some_empty-push book.steps (record { id = first.id; clause = first.clause }) ∙ or_right (some_empty book.steps) (is_empty first.clause) (ap (λ (s : Step). is_empty s.clause) e ∙ ap is_empty h))
  | inr k ↦ step_empty (after_addition book first.id first.clause) steps step k h
]

pub reached_empty : (formula : Formula) (steps : List StepLine) (now : Book) (reached : Bool) → now ≡ after_lines (start formula) (adds_of steps) → reached ≡ some_empty now.steps → reached ≡ true → HasEmpty (steps_of steps)
reached_empty formula steps now reached after is shown =
    elim (empty_step (start formula) (steps_of steps) (sym (is ∙ ap (λ (b : Book). some_empty b.steps) (after ∙ ap (after_lines (start formula)) (adds_steps steps))) ∙ shown)) [
      | inl f ↦ absurd (true≢false (sym f))
      | inr h ↦ h
    ]

pub not_reached : (formula : Formula) (steps : List StepLine) (now : Book) (reached : Bool) → now ≡ after_lines (start formula) (adds_of steps) → reached ≡ some_empty now.steps → reached ≡ false → HasEmpty (steps_of steps) → ⊥
not_reached formula steps now reached after is shown h =
    true≢false (sym (step_empty (start formula) (steps_of steps) h.0 h.1 h.2) ∙ sym (is ∙ ap (λ (b : Book). some_empty b.steps) (after ∙ ap (after_lines (start formula)) (adds_steps steps))) ∙ shown)
