-- Lines that are replayed one after the other.
use Rattle.std.proofs.Common.{◌≡◌, ℕ, suc, ◌+◌, ◌<◌, List, [], ◌∷◌, ◌++◌, length, get_or, take, drop, refl, sym, ap, ◌∙◌, subst, arith, inl, inr, drop-cons, Some, None}
use Rattle.std.proofs.lemmas.Bool.{cases_order}
use Rattle.std.proofs.lemmas.List.{take-append-drop, take-append-le, drop-append-le, map-append}
use Rattle.four_lattice.proofs.VerifiedLaws.{cut_front, cut_rest}
use Rattle.lrat_replay.specs.declared.line.Line.{Line}
use Rattle.lrat_replay.specs.declared.line.LineKind.{LineKind}
use Rattle.lrat_replay.specs.declared.fault.StepFault.{StepFault}
use Rattle.lrat_replay.specs.declared.fault.StepFault.TheVariants.{Order, Unknown, Satisfied, Loose, NoConflict, Rat, Tautology, Variable, NoMemory}
use Rattle.lrat_replay.specs.declared.refusal.LratRefusal.TheVariants as lrat
use Rattle.lrat_replay.specs.Replay.{IsFault}
use Rattle.std.specs.Prelude.{IfOk, IfErr}
use Rattle.std.specs.declared.option.Option.{Option}
use Rattle.four_lattice.specs.Checked.{EndsReplay, ended_at}
use Rattle.lrat_replay.specs.Book.{Book, Accepts, line_fault, after_line, after_lines}
use Rattle.four_lattice.specs.Check.{kinds_of, IsFirstFault}

after_lines-push : (book : Book) (lines : List LineKind) (line : LineKind) → after_lines book (lines ++ line ∷ []) ≡ after_line (after_lines book lines) line
after_lines-push book [] line = refl
after_lines-push book (first ∷ lines) line = after_lines-push (after_line book first) lines line

Accepts-push : (book : Book) (lines : List LineKind) (line : LineKind) → Accepts book lines → line_fault (after_lines book lines) line ≡ None → Accepts book (lines ++ line ∷ [])
Accepts-push book [] line all last = (last, tt)
Accepts-push book (first ∷ lines) line all last = (all.0, Accepts-push (after_line book first) lines line all.1 last)

-- These lines are accepted, and this stands after them.
pub record IsReplayed (book now : Book) (done : List Line) : Type 0 where
  pub accepted : Accepts book (kinds_of done)
  pub after : now ≡ after_lines book (kinds_of done)

pub IsReplayed-none : (book : Book) → IsReplayed book book []
IsReplayed-none book = record { accepted = tt; after = refl }

pub IsReplayed-more : (book old new : Book) (done : List Line) (line : Line) → IsReplayed book old done → line_fault old line.what ≡ None → new ≡ after_line old line.what → IsReplayed book new (done ++ line ∷ [])
IsReplayed-more book old new done line h fine now =
    let more : kinds_of (done ++ line ∷ []) ≡ kinds_of done ++ line.what ∷ [] = map-append (λ l. l.what) done (line ∷ []) in
    record {
      accepted = subst (Accepts book) (sym more) (Accepts-push book (kinds_of done) line.what h.accepted (subst (λ b. line_fault b line.what ≡ None) h.after fine));
      after = now ∙ ap (λ b. after_line b line.what) h.after ∙ sym (ap (after_lines book) more ∙ after_lines-push book (kinds_of done) line.what);
    }

first_fault : (book now : Book) (done later : List Line) (line : Line) (fault : StepFault) → IsReplayed book now done → line_fault now line.what ≡ Some fault → IsFirstFault book (done ++ line ∷ later) fault line.number
first_fault book now done later line fault h refused = record {
  before = done;
  line = line;
  later = later;
  whole = refl;
  accepted = h.accepted;
  refused = subst (λ b. line_fault b line.what ≡ Some fault) h.after refused;
  number_is = refl;
}

-- a fault that is no want of memory is the one that the line is refused for
fault_is : (wanted : Option StepFault) (fault : StepFault) → IsFault wanted fault → (fault ≡ NoMemory → ⊥) → wanted ≡ Some fault
fault_is None fault is other = absurd (other is)
fault_is (Some w) fault is other = ap Some (sym is)

-- the replay ends at a line that is not accepted, or memory was wanting
pub ends_at : (book now new : Book) (done later : List Line) (line : Line) (fault : StepFault) → IsReplayed book now done → IsFault (line_fault now line.what) fault
    → IfOk (ended_at fault line.number) (λ how. EndsReplay how book new (done ++ line ∷ later))
ends_at book now new done later line NoMemory h cause = tt
ends_at book now new done later line Order h cause = first_fault book now done later line Order h (fault_is _ _ cause (λ e. cc))
ends_at book now new done later line Unknown h cause = first_fault book now done later line Unknown h (fault_is _ _ cause (λ e. cc))
ends_at book now new done later line Satisfied h cause = first_fault book now done later line Satisfied h (fault_is _ _ cause (λ e. cc))
ends_at book now new done later line Loose h cause = first_fault book now done later line Loose h (fault_is _ _ cause (λ e. cc))
ends_at book now new done later line NoConflict h cause = first_fault book now done later line NoConflict h (fault_is _ _ cause (λ e. cc))
ends_at book now new done later line Rat h cause = first_fault book now done later line Rat h (fault_is _ _ cause (λ e. cc))
ends_at book now new done later line Tautology h cause = first_fault book now done later line Tautology h (fault_is _ _ cause (λ e. cc))
ends_at book now new done later line Variable h cause = first_fault book now done later line Variable h (fault_is _ _ cause (λ e. cc))

pub no_memory_at : (fault : StepFault) (number : ℕ) → IfErr (ended_at fault number) (λ refusal. refusal ≡ lrat.NoMemory)
no_memory_at NoMemory number = refl
no_memory_at Order number = tt
no_memory_at Unknown number = tt
no_memory_at Satisfied number = tt
no_memory_at Loose number = tt
no_memory_at NoConflict number = tt
no_memory_at Rat number = tt
no_memory_at Tautology number = tt
no_memory_at Variable number = tt

-- lines that are all accepted have no first fault
accepted_at : (book : Book) (before : List LineKind) (line : LineKind) (later : List LineKind) → Accepts book (before ++ line ∷ later) → line_fault (after_lines book before) line ≡ None
accepted_at book [] line later h = h.0
accepted_at book (first ∷ before) line later h = accepted_at (after_line book first) before line later h.1

pub no_first_fault : (book : Book) (lines : List Line) (fault : StepFault) (number : ℕ) → Accepts book (kinds_of lines) → IsFirstFault book lines fault number → ⊥
no_first_fault book lines fault number all first =
    let whole : kinds_of lines ≡ kinds_of first.before ++ first.line.what ∷ kinds_of first.later = ap kinds_of first.whole ∙ map-append (λ line. line.what) first.before (first.line ∷ first.later) in
    let fine = accepted_at book (kinds_of first.before) first.line.what (kinds_of first.later) (subst (Accepts book) whole all) in
    let refused = first.refused in
    cc

-- lines up to the shorter of two cuts are accepted where those up to the longer are
accepted_before : (book : Book) (lines before later front rest : List Line) (line other : Line) → lines ≡ before ++ line ∷ later → lines ≡ front ++ other ∷ rest
    → length front < length before → Accepts book (kinds_of before) → line_fault (after_lines book (kinds_of front)) other.what ≡ None
accepted_before book lines before later front rest line other whole cut less all =
    let there : drop (length front) lines ≡ other ∷ rest = cut_rest lines front rest other cut in
    let start : take (length front) lines ≡ front = cut_front lines front rest other cut in
    let fronts : take (length front) before ≡ front = sym (ap (take (length front)) whole ∙ take-append-le (length front) before (line ∷ later) (omega (arith, less))) ∙ start in
    let tails : drop (length front) before ++ line ∷ later ≡ other ∷ rest = sym (ap (drop (length front)) whole ∙ drop-append-le (length front) before (line ∷ later) (omega (arith, less))) ∙ there in
    let more = drop-cons before (length front) line less in
    let is : get_or before (length front) line ≡ other = ap (λ l. get_or l 0 line) (sym (ap (λ l. l ++ line ∷ later) more) ∙ tails) in
    let split : before ≡ front ++ other ∷ drop (suc (length front)) before =
    sym (take-append-drop (length front) before) ∙ ap (λ l. l ++ drop (length front) before) fronts ∙ ap (λ l. front ++ l) more ∙ ap (λ l. front ++ l ∷ drop (suc (length front)) before) is in
    let whole_kinds : kinds_of before ≡ kinds_of front ++ other.what ∷ kinds_of (drop (suc (length front)) before) = ap kinds_of split ∙ map-append (λ l. l.what) front (other ∷ drop (suc (length front)) before) in
    accepted_at book (kinds_of front) other.what (kinds_of (drop (suc (length front)) before)) (subst (Accepts book) whole_kinds all)

same_fault : (wanted : Option StepFault) (a b : StepFault) → wanted ≡ Some a → wanted ≡ Some b → a ≡ b
same_fault wanted a b p q = cc

not_refused : (wanted : Option StepFault) (a : StepFault) → wanted ≡ Some a → wanted ≡ None → ⊥
not_refused wanted a p q = cc

-- the first fault is one
pub one_first_fault : (book : Book) (lines : List Line) (f g : StepFault) (m n : ℕ) → IsFirstFault book lines f m → IsFirstFault book lines g n → (f ≡ g) × (m ≡ n)
one_first_fault book lines f g m n p q = elim (cases_order (length p.before) (length q.before)) [
  | inl same ↦
      let fronts : p.before ≡ q.before = sym (cut_front lines p.before p.later p.line p.whole) ∙ ap (λ k. take k lines) same ∙ cut_front lines q.before q.later q.line q.whole in
      let tails : p.line ∷ p.later ≡ q.line ∷ q.later = sym (cut_rest lines p.before p.later p.line p.whole) ∙ ap (λ k. drop k lines) same ∙ cut_rest lines q.before q.later q.line q.whole in
      let is : p.line ≡ q.line = ap (λ l. get_or l 0 p.line) tails in
      let first : line_fault (after_lines book (kinds_of q.before)) q.line.what ≡ Some f =
      subst (λ l. line_fault (after_lines book (kinds_of l)) q.line.what ≡ Some f) fronts (subst (λ l. line_fault (after_lines book (kinds_of p.before)) l.what ≡ Some f) is p.refused) in
      (same_fault _ f g first q.refused, p.number_is ∙ ap (λ l. l.number) is ∙ sym q.number_is)
  | inr other ↦ elim other [
    | inl less ↦ absurd (not_refused _ f p.refused (accepted_before book lines q.before q.later p.before p.later q.line p.line q.whole p.whole less q.accepted))
    | inr more ↦ absurd (not_refused _ g q.refused (accepted_before book lines p.before p.later q.before q.later p.line q.line p.whole q.whole more p.accepted))
  ]
]
