-- Reading a journal line by line.
use Rattle.std.proofs.Common.{◌≡◌, ◌≢◌, ℕ, ◌+◌, ◌<◌, ◌≤◌, inl, List, [], ◌∷◌, ◌++◌, length, map, refl, sym, ap, ◌∙◌, subst, arith, append_assoc, length-append, codes}
use Rattle.std.specs.Prelude.{All}
use Rattle.std.specs.Fmt.{decimal}
use Rattle.std.proofs.lemmas.List.{append-nil, length-map, map_push}
use Rattle.std.proofs.lemmas.List.Elements.{All-nil, All-push}
use Rattle.lrat_replay.specs.LratText.{step_text}
use Rattle.lrat_replay.specs.StepRead.{IsLineOf}
use Rattle.lrat_replay.specs.declared.line.Step.{Step}
use Rattle.report_text.specs.Bounds.{AreRails}
use Rattle.report_text.specs.Pieces.{Without, Cuts, words, feeds}
use Rattle.report_text.specs.declared.answer.Version.{Version}
use Rattle.report_text.specs.declared.answer.Version.TheVariants.{One, Two}
use Rattle.report_text.proofs.Tools.{feeds-append, feeds-line}
use Rattle.journal_text.specs.Bounds.{IsClose, IsWritten}
use Rattle.journal_text.specs.Lines.{close_words, HaltsInside, HasSteps, IsRefusedInside}
use Rattle.journal_text.specs.Reading.{first_word, IsClosing, title_text, rails_text, before, Halts, IsRefused, AreNumbered}
use Rattle.journal_text.specs.Reading.Place.{AtRails, Inside}
use Rattle.journal_text.specs.Reading.Next.{StepOrClose}
use Rattle.journal_text.specs.Text.{head_text, steps_text, close_text, question_text, front_text}
use Rattle.journal_text.specs.declared.journal.StepLine.{StepLine}
use Rattle.journal_text.specs.declared.refusal.JournalRefusal.{JournalRefusal}
use Rattle.journal_text.specs.declared.refusal.JournalRefusal.TheVariants as refusals
use Rattle.journal_text.specs.declared.target.Close.{Close}
use Rattle.journal_text.proofs.RunLaws.{steps-more, Without-step_line}
use Rattle.journal_text.proofs.VerdictLaws.{behind_line}
use Rattle.journal_text.proofs.WordsLaws.{step_line, step-line, without_last, words_of_rails, rails_of_words, words_of_close}

-- ---- the head

pub no_title : (line : List ℕ) → line ≢ codes "lattice journal 1" → line ≢ codes "lattice journal 2" → (v : Version) → title_text v ≢ line ++ 10 ∷ []
no_title line one two One e = one (without_last line (codes "lattice journal 1") 10 (sym e))
no_title line one two Two e = two (without_last line (codes "lattice journal 2") 10 (sym e))

pub no_rails : (bytes line rest : List ℕ) → Cuts 10 bytes line rest → ((n : ℕ) → n ≤ 1048575 → words line ≢ codes "rails" ∷ decimal n ∷ []) → IsRefused (title_text Two ++ bytes) (refusals.Rails 2)
no_rails bytes line rest cut none =
    record { place = AtRails; bytes = bytes; is_place = tt; text_is = refl; halts = (refl, (line, rest, cut, (λ (n, few, e). none n few (words_of_rails line n few e)))) }

pub rails_read : (bytes line rest : List ℕ) (n : ℕ) → Cuts 10 bytes line rest → words line ≡ codes "rails" ∷ decimal n ∷ [] → title_text Two ++ bytes ≡ head_text Two n ++ rest
unfolding head_text
rails_read bytes line rest n cut e = ap (λ z. title_text Two ++ z) (behind_line bytes line rest (rails_text n) cut (rails_of_words line n e))

pub rails_none : (bytes : List ℕ) → AreRails One 1048575 × (title_text One ++ bytes ≡ head_text One 1048575 ++ bytes)
unfolding head_text
rails_none bytes = (refl, refl)

-- ---- lines in a section

pub no_closing : (line : List ℕ) (here : ℕ) → IsClosing (first_word line) → ((c : Close) → IsClose c → words line ≢ close_words c) → HaltsInside line here (refusals.Question here)
no_closing line here closing none = λ v bytes rest cut. (refl, (line, rest, cut, (closing, (λ (c, is, e). none c is (words_of_close line c is e)))))

-- ---- steps one after another

abbrev pub steps_of : List StepLine → List Step
steps_of steps = map (λ l. l.step) steps

-- these steps were read, and the next line has this number
pub record StepsRead (bytes : List ℕ) (first : ℕ) (steps : List StepLine) (rest : List ℕ) (number : ℕ) : Type 0 where
  pub written : All IsWritten (steps_of steps)
  pub text : bytes ≡ steps_text (steps_of steps) ++ rest
  pub numbered : AreNumbered first steps
  pub number_is : number ≡ first + length steps

pub StepsRead-none : (bytes : List ℕ) (first : ℕ) (steps : List StepLine) → steps ≡ [] → StepsRead bytes first steps bytes first
StepsRead-none bytes first steps e = subst (λ ss. StepsRead bytes first ss bytes first) (sym e) (record { written = All-nil IsWritten; text = refl; numbered = tt; number_is = omega arith })

numbered-push : (first : ℕ) (steps : List StepLine) (s : StepLine) → AreNumbered first steps → s.line ≡ first + length steps → AreNumbered first (steps ++ s ∷ [])
numbered-push first [] s h e = (let same = e in omega (arith, same), tt)
numbered-push first (t ∷ steps) s h e = (h.0, numbered-push (first + 1) steps s h.1 (let same = e in omega (arith, same)))

pub StepsRead-push : (bytes : List ℕ) (first : ℕ) (steps more : List StepLine) (rest line after : List ℕ) (number : ℕ) (s : Step) → StepsRead bytes first steps rest number → Cuts 10 rest line after → IsWritten s → IsLineOf line s
    → more ≡ steps ++ record { line = number; step = s } ∷ [] → StepsRead bytes first more after (number + 1)
StepsRead-push bytes first steps more rest line after number s h cut written is e =
    subst (λ z. StepsRead bytes first z after (number + 1)) (sym e) (record {
      written = subst (All IsWritten) (sym (map_push (λ l. l.step) steps (record { line = number; step = s }))) (All-push IsWritten (steps_of steps) s h.written written);
      text = h.text ∙ ap (λ z. steps_text (steps_of steps) ++ z) (behind_line rest line after (step_text s.id s.clause s.hints) cut is.text)
          ∙ sym (append_assoc (steps_text (steps_of steps)) (step_text s.id s.clause s.hints) after) ∙ ap (λ z. z ++ after) (sym (steps-more (steps_of steps) s))
          ∙ ap (λ z. steps_text z ++ after) (sym (map_push (λ l. l.step) steps (record { line = number; step = s })));
      numbered = numbered-push first steps (record { line = number; step = s }) h.numbered h.number_is;
      number_is = (let count = h.number_is in omega (arith, count, length-append steps (record { line = number; step = s } ∷ [])));
    })

-- a step is one line
step_feeds : (s : Step) → Without 10 (step_line s) → feeds (step_text s.id s.clause s.hints) ≡ 1
step_feeds s none = ap feeds (step-line s) ∙ feeds-line (step_line s) [] none

pub feeds-steps : (steps : List Step) → feeds (steps_text steps) ≡ length steps
feeds-steps [] = refl
feeds-steps (s ∷ steps) =
    let one = step_feeds s (Without-step_line s) in
    let more = feeds-steps steps in
    omega (arith, one, more, feeds-append (step_text s.id s.clause s.hints) (steps_text steps))

pub length-steps : (steps : List Step) → length steps ≤ length (steps_text steps)
length-steps [] = omega arith
length-steps (s ∷ steps) =
    let long = ap length (step-line s) in
    let more = length-steps steps in
    omega (arith, long, more, length-append (step_text s.id s.clause s.hints) (steps_text steps), length-append (step_line s) (10 ∷ []))

pub steps_bound : (bytes : List ℕ) (first : ℕ) (steps : List StepLine) (rest : List ℕ) (number : ℕ) → StepsRead bytes first steps rest number → number + length rest ≤ first + length bytes
steps_bound bytes first steps rest number h =
    let count = h.number_is in
    let long = ap length h.text in
    let few = length-steps (steps_of steps) in
    omega (arith, count, long, few, length-append (steps_text (steps_of steps)) rest, length-map steps (λ (l : StepLine). l.step))

pub cut_shorter : (bytes line rest : List ℕ) → Cuts 10 bytes line rest → length rest < length bytes
cut_shorter bytes line rest cut = let long = ap length cut.text in omega (arith, long, length-append line (10 ∷ rest))

-- behind steps the text is refused as it is there
pub inside_refused : (bytes : List ℕ) (first : ℕ) (steps : List StepLine) (rest : List ℕ) (number : ℕ) (r : JournalRefusal) → StepsRead bytes first steps rest number → ((v : Version) → Halts (StepOrClose v) rest number r) → IsRefusedInside bytes first r
inside_refused bytes first steps rest number r h halts = λ j output target is few target_is here.
    let ss : List Step = steps_of steps in
    let front : List ℕ = front_text j.version j.rails j.parts in
    let asked : List ℕ = question_text output target in
    let none : front_text j.version j.rails j.parts ++ (question_text output target ++ []) ≡ front_text j.version j.rails j.parts ++ question_text output target = ap (λ z. front_text j.version j.rails j.parts ++ z) (append-nil (question_text output target)) in
    let text : before (Inside j output target []) ++ bytes ≡ before (Inside j output target (steps_of steps)) ++ rest =
    ap (λ z. z ++ bytes) none ∙ ap (λ z. (front_text j.version j.rails j.parts ++ question_text output target) ++ z) h.text
    ∙ append_assoc (front_text j.version j.rails j.parts) (question_text output target) (steps_text (steps_of steps) ++ rest)
    ∙ ap (λ z. front_text j.version j.rails j.parts ++ z) (sym (append_assoc (question_text output target) (steps_text (steps_of steps)) rest))
    ∙ sym (append_assoc (front_text j.version j.rails j.parts) (question_text output target ++ steps_text (steps_of steps)) rest) in
    let number : number ≡ 1 + feeds (before (Inside j output target (steps_of steps))) =
    (let count = h.number_is in
    let lines = feeds-steps (steps_of steps) in
    let same = length-map steps (λ (l : StepLine). l.step) in
    let before_ = ap feeds none in
    omega (
      arith,
      count,
      here,
      lines,
      same,
      before_,
      feeds-append (front_text j.version j.rails j.parts) (question_text output target ++ steps_text (steps_of steps)),
      feeds-append (question_text output target) (steps_text (steps_of steps)),
      feeds-append (front_text j.version j.rails j.parts) (question_text output target),
    )) in
    record {
      place = Inside j output target (steps_of steps);
      bytes = rest;
      is_place = (is, few, target_is, h.written);
      text_is = text;
      halts = subst (λ (z : ℕ). Halts (StepOrClose j.version) rest z r) number (halts j.version);
    }

pub line_refused : (bytes : List ℕ) (first : ℕ) (steps : List StepLine) (rest line after : List ℕ) (number : ℕ) (r : JournalRefusal) → StepsRead bytes first steps rest number → Cuts 10 rest line after → HaltsInside line number r → IsRefusedInside bytes first r
line_refused bytes first steps rest line after number r h cut halts = inside_refused bytes first steps rest number r h (λ v. halts v rest after cut)

pub steps_run_out : (bytes : List ℕ) (first : ℕ) (steps : List StepLine) (rest : List ℕ) (number : ℕ) → StepsRead bytes first steps rest number → Without 10 rest → IsRefusedInside bytes first (refusals.Truncated number)
steps_run_out bytes first steps rest number h none = inside_refused bytes first steps rest number (refusals.Truncated number) h (λ v. inl (refl, none))

pub section_closes : (bytes : List ℕ) (first : ℕ) (steps : List StepLine) (rest line after : List ℕ) (number : ℕ) (c : Close) → StepsRead bytes first steps rest number → Cuts 10 rest line after → IsClose c → close_text c ≡ line ++ 10 ∷ []
    → HasSteps bytes first steps c number after
section_closes bytes first steps rest line after number c h cut is e = record {
  written = h.written;
  is_close = is;
  text = h.text ∙ ap (λ z. steps_text (steps_of steps) ++ z) (behind_line rest line after (close_text c) cut e);
  numbered = h.numbered;
  close_is = h.number_is;
}
