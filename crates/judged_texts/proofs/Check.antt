-- Lines are accepted, or there is a first one that is not.
use Rattle.std.proofs.Common.{◌≡◌, ◌⊎◌, ℕ, inl, inr, List, [], ◌∷◌, refl, ap, Some, None}
use Rattle.std.specs.declared.option.Option.{Option}
use Rattle.audit_core.specs.Audit.{adds_of, IsFirstFault as IsFirstFaultOfSteps}
use Rattle.journal_text.specs.declared.journal.StepLine.{StepLine}
use Rattle.lrat_replay.specs.Book.{Book, Accepts, line_fault, after_line, addition_fault, after_addition}
use Rattle.lrat_replay.specs.declared.fault.StepFault.{StepFault}
use Rattle.lrat_replay.specs.declared.line.Line.{Line}
use Rattle.four_lattice.specs.Check.{kinds_of, IsFirstFault}

abbrev HasFirst : Book → List Line → Type 0
HasFirst book lines = (fault : StepFault) × (number : ℕ) × IsFirstFault book lines fault number

line_told : (book : Book) (line : Line) (lines : List Line) (o : Option StepFault) → line_fault book line.what ≡ o
    → Accepts (after_line book line.what) (kinds_of lines) ⊎ HasFirst (after_line book line.what) lines → Accepts book (kinds_of (line ∷ lines)) ⊎ HasFirst book (line ∷ lines)
line_told book line lines (Some fault) e rest =
    inr (fault, line.number, record { before = []; line = line; later = lines; whole = refl; accepted = tt; refused = e; number_is = refl })
line_told book line lines None e rest = elim rest [
  | inl accepted ↦ inl (e, accepted)
  | inr first ↦
      let f = first.2 in
      inr (
        first.0,
        first.1,
        record { before = line ∷ f.before; line = f.line; later = f.later; whole = ap (λ l. line ∷ l) f.whole; accepted = (e, f.accepted); refused = f.refused; number_is = f.number_is },
      )
]

pub accepted_or_first : (book : Book) (lines : List Line) → Accepts book (kinds_of lines) ⊎ HasFirst book lines
accepted_or_first book [] = inl tt
accepted_or_first book (line ∷ lines) = line_told book line lines (line_fault book line.what) refl (accepted_or_first (after_line book line.what) lines)

-- the same of the steps of a section
abbrev HasFirstStep : Book → List StepLine → Type 0
HasFirstStep book steps = (fault : StepFault) × (line : ℕ) × IsFirstFaultOfSteps book steps line fault

step_told : (book : Book) (s : StepLine) (steps : List StepLine) (o : Option StepFault) → addition_fault book s.step.id s.step.clause s.step.hints ≡ o
    → Accepts (after_addition book s.step.id s.step.clause) (adds_of steps) ⊎ HasFirstStep (after_addition book s.step.id s.step.clause) steps → Accepts book (adds_of (s ∷ steps)) ⊎ HasFirstStep book (s ∷ steps)
step_told book s steps (Some fault) e rest =
    inr (fault, s.line, record { before = []; step = s; later = steps; whole = refl; accepted = tt; refused = e; line_is = refl })
step_told book s steps None e rest = elim rest [
  | inl accepted ↦ inl (e, accepted)
  | inr first ↦
      let f = first.2 in
      inr (
        first.0,
        first.1,
        record { before = s ∷ f.before; step = f.step; later = f.later; whole = ap (λ l. s ∷ l) f.whole; accepted = (e, f.accepted); refused = f.refused; line_is = f.line_is },
      )
]

pub steps_accepted_or_first : (book : Book) (steps : List StepLine) → Accepts book (adds_of steps) ⊎ HasFirstStep book steps
steps_accepted_or_first book [] = inl tt
steps_accepted_or_first book (s ∷ steps) =
    step_told book s steps (addition_fault book s.step.id s.step.clause s.step.hints) refl (steps_accepted_or_first (after_addition book s.step.id s.step.clause) steps)
