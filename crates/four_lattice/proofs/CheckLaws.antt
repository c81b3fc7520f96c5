-- The lines of a text of steps, read and replayed one after the other.
use Rattle.std.proofs.Common.{◌≡◌, ℕ, ◌≤◌, List, [], ◌∷◌, ◌++◌, length, refl, sym, ap, ◌∙◌, subst, inl, inr, ◌⊎◌, ◌≢◌, true, false, Result, Ok, Err, None}
use Rattle.std.proofs.lemmas.List.{append-nil}
use Rattle.std.specs.Prelude.{IfOk, IfErr, OnOk}
use Rattle.std.specs.declared.option.Option.{Option}
use Rattle.clause_core.specs.Formula.{Formula}
use Rattle.lrat_replay.specs.Book.{Book, Accepts, line_fault, after_line, after_lines, some_empty, start}
use Rattle.lrat_replay.specs.LineRead.{lines_from}
use Rattle.lrat_replay.specs.LratRead.{before, lrat_of}
use Rattle.lrat_replay.specs.Replay.{IsFault}
use Rattle.lrat_replay.specs.declared.fault.StepFault.{StepFault}
use Rattle.lrat_replay.specs.declared.line.Line.{Line}
use Rattle.lrat_replay.specs.declared.refusal.LratRefusal.{LratRefusal}
use Rattle.lrat_replay.specs.declared.refusal.LratRefusal.TheVariants as forms
use Rattle.lrat_replay.proofs.Tools.{behind_lines, behind-line, behind-none}
use Rattle.wire_io.specs.Told.{IsSpent, Loses}
use Rattle.four_lattice.specs.Check.{kinds_of, IsFirstFault, IsAccepted, adds_empty, end_line}
use Rattle.four_lattice.specs.Checked.{EndsReplay, ended_at, ReplaysText, RefutesBy, RefutesSide, EndsText, EndsCheck}
use Rattle.four_lattice.specs.Devices.{Change}
use Rattle.four_lattice.specs.Judge.{IsLratRefused}
use Rattle.four_lattice.specs.Uses.{most_side_bytes}
use Rattle.four_lattice.specs.declared.check.Replayed.{Replayed}
use Rattle.four_lattice.specs.declared.check.Replayed.TheVariants.{Accepted, Refused}
use Rattle.four_lattice.specs.declared.ending.Ending.{Ending}
use Rattle.four_lattice.specs.declared.ending.Ending.TheVariants as endings
use Rattle.four_lattice.specs.declared.ending.Refusal.TheVariants.{Side, Unconfirmed}
use Rattle.four_lattice.specs.declared.ending.SideRefusal.TheVariants.{Lrat}
use Rattle.four_lattice.specs.declared.ending.Unconfirmed.TheVariants.{Step, Unfinished}
use Rattle.four_lattice.proofs.InputsLaws.{whole_told, LosesUpTo-whole, lrat_memory}
use Rattle.four_lattice.proofs.ReplayedLaws.{IsReplayed, IsReplayed-none, IsReplayed-more, ends_at}

-- Some lines of a text were read, and these are still to be read.
pub record IsReadTo (number : ℕ) (text : List ℕ) (next : ℕ) (rest : List ℕ) : Type 0 where
  pub done : List Line
  pub read : lines_from number text ≡ behind_lines done (lines_from next rest)

pub IsReadTo-none : (number : ℕ) (text : List ℕ) → IsReadTo number text number text
IsReadTo-none number text = record { done = []; read = behind-none (lines_from number text) }

-- one more line
line_more : (first next next' : ℕ) (text rest rest' : List ℕ) (done : List Line) (line : Line) → lines_from first text ≡ behind_lines done (lines_from next rest)
    → lines_from next rest ≡ before (Ok line) (lines_from next' rest') → lines_from first text ≡ behind_lines (done ++ line ∷ []) (lines_from next' rest')
line_more first next next' text rest rest' done line read e = read ∙ ap (behind_lines done) e ∙ behind-line done line (lines_from next' rest')

pub IsReadTo-more : (first next next' : ℕ) (text rest rest' : List ℕ) (line : Line) → IsReadTo first text next rest → lines_from next rest ≡ before (Ok line) (lines_from next' rest') → IsReadTo first text next' rest'
IsReadTo-more first next next' text rest rest' line h e = record { done = h.done ++ line ∷ []; read = line_more first next next' text rest rest' h.done line h.read e }

pub IsReadTo-end : (first next : ℕ) (text rest : List ℕ) → IsReadTo first text next rest → lines_from next rest ≡ Ok [] → (lines : List Line) × (lines_from first text ≡ Ok lines)
IsReadTo-end first next text rest h e = (h.done, h.read ∙ ap (behind_lines h.done) e ∙ ap Ok (append-nil h.done))

pub IsReadTo-refused : (first next : ℕ) (text rest : List ℕ) (refusal : LratRefusal) → IsReadTo first text next rest → lines_from next rest ≡ Err refusal → lines_from first text ≡ Err refusal
IsReadTo-refused first next text rest refusal h e = h.read ∙ ap (behind_lines h.done) e

-- Some lines of a text were replayed, and these are still to be read.
pub record IsReplayedTo (book now : Book) (text : List ℕ) (next : ℕ) (rest : List ℕ) : Type 0 where
  pub done : List Line
  pub read : lines_from 1 text ≡ behind_lines done (lines_from next rest)
  pub replayed : IsReplayed book now done

pub IsReplayedTo-none : (book : Book) (text : List ℕ) → IsReplayedTo book book text 1 text
IsReplayedTo-none book text = record { done = []; read = behind-none (lines_from 1 text); replayed = IsReplayed-none book }

pub IsReplayedTo-more : (book old new : Book) (text rest rest' : List ℕ) (next next' : ℕ) (line : Line) → IsReplayedTo book old text next rest → lines_from next rest ≡ before (Ok line) (lines_from next' rest')
    → line_fault old line.what ≡ None → new ≡ after_line old line.what → IsReplayedTo book new text next' rest'
IsReplayedTo-more book old new text rest rest' next next' line h e fine now = record {
  done = h.done ++ line ∷ [];
  read = line_more 1 next next' text rest rest' h.done line h.read e;
  replayed = IsReplayed-more book old new h.done line h.replayed fine now;
}

pub IsReplayedTo-end : (book now : Book) (text rest : List ℕ) (next : ℕ) → IsReplayedTo book now text next rest → lines_from next rest ≡ Ok [] → ReplaysText Accepted book now text
IsReplayedTo-end book now text rest next h e = record {
  lines = h.done;
  read = h.read ∙ ap (behind_lines h.done) e ∙ ap Ok (append-nil h.done);
  ends = (h.replayed.accepted, h.replayed.after);
}

pub IsReplayedTo-refused : (book now : Book) (text rest : List ℕ) (next : ℕ) (refusal : LratRefusal) → IsReplayedTo book now text next rest → lines_from next rest ≡ Err refusal → lrat_of text ≡ Err refusal
IsReplayedTo-refused book now text rest next refusal h e = h.read ∙ ap (behind_lines h.done) e

-- the lines behind one that is refused have no form
pub refused_behind : (book now : Book) (text rest rest' : List ℕ) (next next' : ℕ) (line : Line) (refusal : LratRefusal) → IsReplayedTo book now text next rest → lines_from next rest ≡ before (Ok line) (lines_from next' rest')
    → lines_from next' rest' ≡ Err refusal → lrat_of text ≡ Err refusal
refused_behind book now text rest rest' next next' line refusal h e later = h.read ∙ ap (behind_lines h.done) (e ∙ ap (before (Ok line)) later)

-- they have the form of lines, and the replay ends at this one
pub stops_at : (book now new : Book) (text rest rest' : List ℕ) (next next' : ℕ) (line : Line) (lines : List Line) (fault : StepFault) (how : Replayed) → IsReplayedTo book now text next rest
    → lines_from next rest ≡ before (Ok line) (lines_from next' rest') → lines_from next' rest' ≡ Ok lines → IsFault (line_fault now line.what) fault → ended_at fault line.number ≡ Ok how → ReplaysText how book new text
stops_at book now new text rest rest' next next' line lines fault how h e later cause is = record {
  lines = h.done ++ line ∷ lines;
  read = h.read ∙ ap (behind_lines h.done) (e ∙ ap (before (Ok line)) later);
  ends = subst (λ r. IfOk r (λ how. EndsReplay how book new (h.done ++ line ∷ lines))) is (ends_at book now new h.done lines line fault h.replayed cause);
}

-- the same of an answer
pub stops_ok : (book now new : Book) (text rest rest' : List ℕ) (next next' : ℕ) (line : Line) (fault : StepFault) (answer : Result Replayed LratRefusal) → IsReplayedTo book now text next rest
    → lines_from next rest ≡ before (Ok line) (lines_from next' rest') → IsFault (line_fault now line.what) fault → OnOk answer ((lines : List Line) × (lines_from next' rest' ≡ Ok lines))
    → OnOk answer (ended_at fault line.number ≡ answer) → IfOk answer (λ how. ReplaysText how book new text)
stops_ok book now new text rest rest' next next' line fault (Ok how) h e cause later is = stops_at book now new text rest rest' next next' line later.0 fault how h e later.1 cause is
stops_ok book now new text rest rest' next next' line fault (Err refusal) h e cause later is = tt

pub stops_err : (book now : Book) (text rest rest' : List ℕ) (next next' : ℕ) (line : Line) (answer : Result Replayed LratRefusal) → IsReplayedTo book now text next rest → lines_from next rest ≡ before (Ok line) (lines_from next' rest')
    → IfErr answer (λ refusal. (refusal ≡ forms.NoMemory) ⊎ (lines_from next' rest' ≡ Err refusal)) → IfErr answer (λ refusal. (refusal ≡ forms.NoMemory) ⊎ (lrat_of text ≡ Err refusal))
stops_err book now text rest rest' next next' line (Ok how) h e later = tt
stops_err book now text rest rest' next next' line (Err refusal) h e later = elim later [ inl m ↦ inl m | inr r ↦ inr (refused_behind book now text rest rest' next next' line refusal h e r) ]

-- what a text comes to
pub text_refutes : (formula : Formula) (old now : Book) (text : List ℕ) → old ≡ start formula → ReplaysText Accepted old now text → some_empty now.steps ≡ true → RefutesBy formula text
text_refutes formula old now text begins h empty = record {
  lines = h.lines;
  read = h.read;
  refutes = (subst (λ b. Accepts b (kinds_of h.lines)) begins h.ends.0, sym (ap (λ b. some_empty (after_lines b (kinds_of h.lines)).steps) begins) ∙ sym (ap (λ b. some_empty b.steps) h.ends.1) ∙ empty);
}

pub text_unfinished : (formula : Formula) (old now : Book) (text : List ℕ) (ending : Ending) → old ≡ start formula → ReplaysText Accepted old now text → some_empty now.steps ≡ false
    → ending ≡ endings.Refused (Unconfirmed (Unfinished (end_line text))) → EndsText formula text ending
text_unfinished formula old now text ending begins h empty is =
    let accepted : IsAccepted formula h.lines = subst (λ b. Accepts b (kinds_of h.lines)) begins h.ends.0 in
    let none : adds_empty formula h.lines ≡ false = sym (ap (λ b. some_empty (after_lines b (kinds_of h.lines)).steps) begins) ∙ sym (ap (λ b. some_empty b.steps) h.ends.1) ∙ empty in
    inr (inl (record { lines = h.lines; read = h.read; stops = inl (Unconfirmed (Unfinished (end_line text)), inr (accepted, none, refl), is) }))

pub text_refused : (formula : Formula) (old now : Book) (text : List ℕ) (fault : StepFault) (number : ℕ) (ending : Ending) → old ≡ start formula → ReplaysText (Refused fault number) old now text
    → ending ≡ endings.Refused (Unconfirmed (Step fault number)) → EndsText formula text ending
text_refused formula old now text fault number ending begins h is =
    inr (inl (record { lines = h.lines; read = h.read; stops = inl (Unconfirmed (Step fault number), inl (fault, number, subst (λ b. IsFirstFault b h.lines fault number) begins h.ends, refl), is) }))

pub text_formless : (formula : Formula) (text : List ℕ) (refusal : LratRefusal) (ending : Ending) → (refusal ≡ forms.NoMemory) ⊎ (lrat_of text ≡ Err refusal) → (refusal ≢ forms.NoMemory → ending ≡ endings.Refused (Side (Lrat refusal)))
    → (refusal ≡ forms.NoMemory → ending ≡ endings.NoMemory) → EndsText formula text ending
text_formless formula text refusal ending cause refused wanting = elim (lrat_memory refusal) [
  | inl m ↦ inr (inr (wanting m))
  | inr o ↦ elim cause [ inl m ↦ absurd (o m) | inr e ↦ inl (record { refusal = refusal; refused = e; ends = refused o }) ]
]

-- what a side file was read as
pub side_refutes : (formula : Formula) (old new : Option (List ℕ)) (bytes : List ℕ) → Loses old new bytes → IsSpent new → length bytes ≤ most_side_bytes → RefutesBy formula bytes → RefutesSide formula old
side_refutes formula old new bytes lost spent few h = record {
  lines = h.lines;
  reads = whole_told old new bytes (λ b. (length b ≤ most_side_bytes) × (lrat_of b ≡ Ok h.lines)) lost spent (few, h.read);
  refutes = h.refutes;
}

pub side_ends : (formula : Formula) (c : Change) (bytes : List ℕ) (ending : Ending) → Loses c.old.told c.new.told bytes → IsSpent c.new.told → length bytes ≤ most_side_bytes → EndsText formula bytes ending → EndsCheck formula ending c
side_ends formula c bytes ending lost spent few h = elim h [
  | inl a ↦
      inl (
      inl (
        Lrat a.refusal,
        a.ends,
        whole_told c.old.told c.new.told bytes (λ b. IsLratRefused b (Lrat a.refusal)) lost spent (few, a.refused),
        inr (spent, LosesUpTo-whole c.old.told c.new.told bytes most_side_bytes lost few),
      )
      )
  | inr other ↦ elim other [
    | inl b ↦
        inr (record {
          lines = b.lines;
          last = end_line bytes;
          reads = whole_told c.old.told c.new.told bytes (λ x. (length x ≤ most_side_bytes) × (lrat_of x ≡ Ok b.lines)) lost spent (few, b.read);
          last_is = whole_told c.old.told c.new.told bytes (λ x. end_line bytes ≡ end_line x) lost spent refl;
          stops = b.stops;
          spent = spent;
          taken = LosesUpTo-whole c.old.told c.new.told bytes most_side_bytes lost few;
        })
    | inr m ↦ inl (inr (inr (m, LosesUpTo-whole c.old.told c.new.told bytes most_side_bytes lost few)))
  ]
]

-- the same of an answer over the bytes that were read
pub side_refuted : {T E : Type 0} (formula : Formula) (old new : Option (List ℕ)) (bytes text : List ℕ) (answer : Result T E) → text ≡ bytes → Loses old new bytes → IsSpent new → length bytes ≤ most_side_bytes
    → OnOk answer (RefutesBy formula text) → OnOk answer (RefutesSide formula old)
side_refuted formula old new bytes text (Ok x) same lost spent few h = side_refutes formula old new bytes lost spent few (subst (RefutesBy formula) same h)
side_refuted formula old new bytes text (Err x) same lost spent few h = tt

pub side_stopped : {T : Type 0} (formula : Formula) (c : Change) (bytes text : List ℕ) (answer : Result T Ending) → text ≡ bytes → Loses c.old.told c.new.told bytes → IsSpent c.new.told → length bytes ≤ most_side_bytes
    → IfErr answer (EndsText formula text) → IfErr answer (λ ending. EndsCheck formula ending c)
side_stopped formula c bytes text (Ok x) same lost spent few h = tt
side_stopped formula c bytes text (Err ending) same lost spent few h = side_ends formula c bytes ending lost spent few (subst (λ b. EndsText formula b ending) same h)
