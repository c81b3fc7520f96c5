-- Sections that a question writes, or a front of one.
use Rattle.std.proofs.Common.{◌≡◌, ◌⊎◌, inl, inr, ℕ, ◌≤◌, Bool, false, List, [], ◌∷◌, ◌++◌, refl, sym, ap, ◌∙◌, subst, append_assoc, arith, None, Some}
use Rattle.std.specs.declared.option.Option.{Option}
use Rattle.std.specs.Prelude.{IfSome, All}
use Rattle.std.proofs.lemmas.List.{append-nil}
use Rattle.std.proofs.lemmas.List.Elements.{All-nil, All-cons}
use Rattle.cube_core.specs.Function.{Function}
use Rattle.lrat_replay.specs.declared.line.Step.{Step}
use Rattle.wire_io.specs.Causes.{Rose}
use Rattle.wire_io.specs.Told.{Gains, GainsFront}
use Rattle.journal_text.specs.Bounds.{IsAsked, IsClose, IsTarget, IsWritten}
use Rattle.journal_text.specs.Calls.{WasCut, WasRefused, IsSectionBegun}
use Rattle.journal_text.specs.Kept.{Learning}
use Rattle.journal_text.specs.Origin.{origin_of}
use Rattle.journal_text.specs.Parts.{Section, Question}
use Rattle.journal_text.specs.Proved.{ShowsClose}
use Rattle.journal_text.specs.Text.{question_text, steps_text, close_text, section_text}
use Rattle.journal_text.specs.declared.target.Close.{Close}
use Rattle.journal_text.specs.declared.target.Close.TheVariants.{Satisfied}
use Rattle.journal_text.specs.declared.target.Target.{Target}
use Rattle.lattice_question.specs.Asked.{SectionSo, AddsSection}
use Rattle.lattice_question.specs.Closing.{StoppedSection, ClosedSo}
use Rattle.lattice_question.specs.Written.{IsSectionOf, StoppedAsking, StoppedQuestion}
use Rattle.journal_text.specs.declared.fault.JournalFault.{JournalFault}
use Rattle.journal_text.specs.declared.fault.JournalFault.TheVariants.{Sink, NoMemory}
use Rattle.lattice_question.specs.declared.question.Outcome.{Outcome}
use Rattle.lattice_question.specs.declared.question.Outcome.TheVariants as outcome
use Rattle.lattice_question.proofs.Fronts.{gains_nothing, front_longer}

section_is : (s : Section) → section_text s ≡ question_text s.output s.target ++ (steps_text s.steps ++ close_text s.close)
unfolding section_text
section_is s = refl

origin_none : origin_of None ≡ []
unfolding origin_of
origin_none = refl

-- a section of a target
abbrev asked_as : ℕ → Target → List Step → Close → Section
asked_as output t steps close = record { output = output; target = t; steps = steps; close = close }

-- the question of a section
pub record IsBegun (output : ℕ) (t : Target) (got got' : Option (List ℕ)) : Type 0 where
  pub few_outputs : output ≤ 63
  pub bounds : IsTarget t
  pub line : Gains got got' (question_text output t)
  pub origin : IfSome got' (λ bytes. origin_of got' ≡ bytes)

is_asked : (output : ℕ) (t : Target) (steps : List Step) (close : Close) → output ≤ 63 → IsTarget t → All IsWritten steps → IsClose close → IsAsked (asked_as output t steps close)
is_asked output t steps close low bounds written closes = record { output = low; target = bounds; steps = written; close = closes }

-- where the question of a sink that tells stands
begins_at : (output : ℕ) (t : Target) (a b c : Option (List ℕ)) → IsBegun output t a b → (origin_of c ≡ origin_of b) ⊎ (origin_of c ≡ []) → (origin_of c ≡ [] → ⊥)
    → (x : List ℕ) × (a ≡ Some x) × (origin_of c ≡ x ++ question_text output t)
begins_at output t a b c h (inr empty) told = absurd (told empty)
begins_at output t a None c h (inl same) told = absurd (told (same ∙ origin_none))
begins_at output t None (Some y) c h (inl same) told = absurd h.line
begins_at output t (Some x) (Some y) c h (inl same) told = (x, refl, same ∙ h.origin ∙ h.line)

-- a closed section
pub adds_section : (rails : ℕ) (f : Function) (budget output : ℕ) (t : Target) (outcome : Outcome) (a b c d : Option (List ℕ)) → IsBegun output t a b → (origin_of c ≡ origin_of b) ⊎ (origin_of c ≡ [])
    → IfSome d (λ bytes. ClosedSo rails f budget t outcome (origin_of c) bytes) → AddsSection output t a d (SectionSo rails f budget outcome)
adds_section rails f budget output t outcome a b c None h same closed = record {
  section = asked_as output t [] Satisfied;
  output_is = refl;
  target_is = refl;
  asked = is_asked output t [] Satisfied h.few_outputs h.bounds (All-nil IsWritten) tt;
  gained = tt;
  holds = tt;
}
adds_section rails f budget output t outcome a b c (Some z) h same closed =
    let at = begins_at output t a b c h same closed.told in
    let section : Section = asked_as output t closed.steps closed.close in
    let text : z ≡ at.0 ++ section_text section =
    closed.text ∙ ap (λ w. w ++ (steps_text closed.steps ++ close_text closed.close)) at.2 ∙ append_assoc at.0 (question_text output t) (steps_text closed.steps ++ close_text closed.close) ∙ ap (λ w. at.0 ++ w) (sym (section_is section)) in
    record {
      section = section;
      output_is = refl;
      target_is = refl;
      asked = is_asked output t closed.steps closed.close h.few_outputs h.bounds closed.written closed.may_close;
      gained = subst (λ o. Gains o (Some z) (section_text section)) (sym at.1) text;
      holds = closed.holds output;
    }

-- one section and nothing else
one_part : (output : ℕ) (s : Section) → s.output ≡ output → IsAsked s → All (IsSectionOf output) (Question s ∷ [])
one_part output s e h = All-cons (IsSectionOf output) (Question s) [] (e, h) (All-nil (IsSectionOf output))

-- a front of a section
module _ (output : ℕ) (t : Target) (before between now : ℕ) (fault : JournalFault) (earlier : before ≤ between) where
  rose_earlier : Rose between now → Rose before now
  rose_earlier r = grind (arith, earlier, r)

  pub stopped_asking : (a b d : Option (List ℕ)) → IsBegun output t a b → StoppedSection b d between now fault → StoppedQuestion output a d before now fault
  stopped_asking a b None h stopped = record {
    more = [];
    are = All-nil (IsSectionOf output);
    front = record { front = []; rest = []; whole = refl; gained = tt };
    later = (let l = stopped.later in omega (arith, earlier, l));
    cause = λ e. rose_earlier (stopped.cause e);
  }
  stopped_asking a b (Some z) h stopped =
      let at = begins_at output t a b b h (inl refl) stopped.told in
      let section : Section = asked_as output t stopped.steps stopped.close in
      let question : List ℕ = question_text output t in
      record {
        more = Question section ∷ [];
        are = one_part output section refl (is_asked output t stopped.steps stopped.close h.few_outputs h.bounds stopped.written stopped.may_close);
        front = record {
          front = question ++ stopped.front;
          rest = stopped.rest;
          whole = append-nil (section_text section) ∙ section_is section ∙ ap (λ w. question ++ w) stopped.whole ∙ sym (append_assoc question stopped.front stopped.rest);
          gained = subst (λ o. Gains o (Some z) (question ++ stopped.front)) (sym at.1) (stopped.text ∙ ap (λ w. w ++ stopped.front) at.2 ∙ append_assoc at.0 question stopped.front);
        };
        later = (let l = stopped.later in omega (arith, earlier, l));
        cause = λ e. rose_earlier (stopped.cause e);
      }

  -- the origin stayed
  pub stopped_later : (b c d : Option (List ℕ)) → (origin_of c ≡ origin_of b) ⊎ (origin_of c ≡ []) → StoppedSection c d between now fault → StoppedSection b d before now fault
  stopped_later b c None same h = record {
    steps = h.steps;
    close = h.close;
    written = h.written;
    may_close = h.may_close;
    front = h.front;
    rest = h.rest;
    whole = h.whole;
    text = tt;
    told = tt;
    later = (let l = h.later in omega (arith, earlier, l));
    cause = λ e. rose_earlier (h.cause e);
  }
  stopped_later b c (Some z) (inr empty) h = absurd (h.told empty)
  stopped_later b c (Some z) (inl same) h = record {
    steps = h.steps;
    close = h.close;
    written = h.written;
    may_close = h.may_close;
    front = h.front;
    rest = h.rest;
    whole = h.whole;
    text = h.text ∙ ap (λ w. w ++ h.front) same;
    told = λ e. h.told (same ∙ e);
    later = (let l = h.later in omega (arith, earlier, l));
    cause = λ e. rose_earlier (h.cause e);
  }

-- nothing was written
pub stopped_blank : (output : ℕ) (a b : Option (List ℕ)) (before now : ℕ) (OfSink : Type 0) → (OfSink → ⊥) → b ≡ a → before ≤ now → StoppedAsking output a b before now OfSink
stopped_blank output a b before now OfSink other same later = record {
  more = [];
  are = All-nil (IsSectionOf output);
  front = record { front = []; rest = []; whole = refl; gained = subst (λ o. Gains a o []) (sym same) (gains_nothing a) };
  later = later;
  cause = λ e. absurd (other e);
}

-- a question's line was cut short
pub stopped_question : (output : ℕ) (t : Target) (a b : Option (List ℕ)) (before now : ℕ) (fault : JournalFault) → output ≤ 63 → IsTarget t → WasCut a b before now (question_text output t) → StoppedQuestion output a b before now fault
stopped_question output t a b before now fault low bounds h =
    let section : Section = asked_as output t [] Satisfied in
    record {
      more = Question section ∷ [];
      are = one_part output section refl (is_asked output t [] Satisfied low bounds (All-nil IsWritten) tt);
      front = subst (GainsFront a b) (sym (append-nil (section_text section) ∙ section_is section)) (front_longer a b (question_text output t) (close_text Satisfied) h.front);
      later = h.later;
      cause = λ _. h.rose;
    }

-- a question that was refused
pub stopped_refused : (output : ℕ) (t : Target) (a b : Option (List ℕ)) (before now : ℕ) (fault : JournalFault) → output ≤ 63 → IsTarget t → WasRefused fault a b before now (question_text output t) → StoppedQuestion output a b before now fault
stopped_refused output t a b before now Sink low bounds h = stopped_question output t a b before now Sink low bounds h
stopped_refused output t a b before now NoMemory low bounds h = stopped_blank output a b before now (NoMemory ≡ Sink) (λ e. cc e) h.0 (subst (λ n. before ≤ n) (sym h.1) (omega arith))

-- ---- a section that is given up

-- for want of memory, or where a step failed
pub stopped_begun : (b c d : Option (List ℕ)) (broken : Bool) (before now : ℕ) (fault : JournalFault) → (origin_of c ≡ origin_of b) ⊎ (origin_of c ≡ []) → d ≡ c → IfSome d (λ bytes. IsSectionBegun bytes (origin_of c) broken) → before ≤ now
    → (fault ≡ Sink → Rose before now) → StoppedSection b d before now fault
stopped_begun b c None broken before now fault same e begun later cause = record {
  steps = [];
  close = Satisfied;
  written = All-nil IsWritten;
  may_close = tt;
  front = [];
  rest = close_text Satisfied;
  whole = refl;
  text = tt;
  told = tt;
  later = later;
  cause = cause;
}
stopped_begun b c (Some z) broken before now fault (inr empty) e begun later cause = absurd (begun.asked empty)
stopped_begun b c (Some z) broken before now fault (inl same) e begun later cause = record {
  steps = begun.steps;
  close = Satisfied;
  written = begun.written;
  may_close = tt;
  front = begun.front;
  rest = begun.rest ++ close_text Satisfied;
  whole = ap (λ w. w ++ close_text Satisfied) begun.lines ∙ append_assoc begun.front begun.rest (close_text Satisfied);
  text = begun.text ∙ ap (λ w. w ++ begun.front) same;
  told = λ none. begun.asked (same ∙ none);
  later = later;
  cause = cause;
}

-- where its last line was cut short
pub stopped_closing : (close : Close) (c d : Option (List ℕ)) (before now : ℕ) (fault : JournalFault) → IsClose close → IfSome c (λ bytes. IsSectionBegun bytes (origin_of c) false) → WasCut c d before now (close_text close) → StoppedSection c d before now fault
stopped_closing close c None before now fault closes begun cut = record {
  steps = [];
  close = close;
  written = All-nil IsWritten;
  may_close = closes;
  front = [];
  rest = close_text close;
  whole = refl;
  text = tt;
  told = tt;
  later = cut.later;
  cause = λ _. cut.rose;
}
stopped_closing close None (Some z) before now fault closes begun cut = absurd cut.front.gained
stopped_closing close (Some y) (Some z) before now fault closes begun cut =
    let lines : steps_text begun.steps ≡ begun.front = begun.lines ∙ ap (λ w. begun.front ++ w) (begun.whole refl) ∙ append-nil begun.front in
    record {
      steps = begun.steps;
      close = close;
      written = begun.written;
      may_close = closes;
      front = begun.front ++ cut.front.front;
      rest = cut.front.rest;
      whole = ap (λ w. w ++ close_text close) lines ∙ ap (λ w. begun.front ++ w) cut.front.whole ∙ sym (append_assoc begun.front cut.front.front cut.front.rest);
      text = cut.front.gained ∙ ap (λ w. w ++ cut.front.front) begun.text ∙ append_assoc (origin_of (Some y)) begun.front cut.front.front;
      told = begun.asked;
      later = cut.later;
      cause = λ _. cut.rose;
    }

-- ---- the same of the objects

module _ {K : Type 0} (got : K → Option (List ℕ)) (faults : K → ℕ) where
  -- the sink is given back as it was
  pub stopped_held : (output : ℕ) (sink held : K) (OfSink : Type 0) → (OfSink → ⊥) → held ≡ sink → StoppedAsking output (got sink) (got held) (faults sink) (faults held) OfSink
  stopped_held output sink held OfSink other same = stopped_blank output (got sink) (got held) (faults sink) (faults held) OfSink other (ap got same) (subst (λ h. faults sink ≤ faults h) (sym same) (omega arith))

  -- after a search for a valuation, from one moment of the section to a later one
  pub stopped_solving : (s t : Learning K) (r held : K) (fault : JournalFault) → (origin_of (got t.sink) ≡ origin_of (got s.sink)) ⊎ (origin_of (got t.sink) ≡ []) → faults s.sink ≤ faults t.sink → held ≡ r → r ≡ t.sink
      → IfSome (got r) (λ bytes. IsSectionBegun bytes (origin_of (got t.sink)) t.broken) → (fault ≡ Sink → Rose (faults s.sink) (faults t.sink)) → StoppedSection (got s.sink) (got held) (faults s.sink) (faults held) fault
  stopped_solving s t r held fault origin later e same begun cause =
      subst (λ h. StoppedSection (got s.sink) (got h) (faults s.sink) (faults h) fault) (sym e)
      (stopped_begun (got s.sink) (got t.sink) (got r) t.broken (faults s.sink) (faults r) fault origin (ap got same) begun (subst (λ h. faults s.sink ≤ faults h) (sym same) later)
      (λ k. subst (λ h. Rose (faults s.sink) (faults h)) (sym same) (cause k)))

  -- the same of a section that went through a solver
  pub stopped_solver : (s begun_as left t : Learning K) (r : K) (fault : JournalFault) → begun_as ≡ s → t ≡ left → (origin_of (got left.sink) ≡ origin_of (got begun_as.sink)) ⊎ (origin_of (got left.sink) ≡ []) → faults begun_as.sink ≤ faults left.sink
      → r ≡ t.sink → IfSome (got r) (λ bytes. IsSectionBegun bytes (origin_of (got t.sink)) t.broken) → (fault ≡ Sink → Rose (faults begun_as.sink) (faults left.sink)) → StoppedSection (got s.sink) (got r) (faults s.sink) (faults r) fault
  stopped_solver s begun_as left t r fault e k origin later same begun cause =
      subst (λ (x : Learning K). StoppedSection (got x.sink) (got r) (faults x.sink) (faults r) fault) e
      (stopped_solving begun_as t r r fault (subst (λ (x : Learning K). (origin_of (got x.sink) ≡ origin_of (got begun_as.sink)) ⊎ (origin_of (got x.sink) ≡ [])) (sym k) origin)
      (subst (λ (x : Learning K). faults begun_as.sink ≤ faults x.sink) (sym k) later) refl same begun (λ w. subst (λ (x : Learning K). Rose (faults begun_as.sink) (faults x.sink)) (sym k) (cause w)))

  -- for want of memory
  pub stopped_wanting : (s t : Learning K) (r held : K) (fault : JournalFault) → fault ≡ NoMemory → t ≡ s → held ≡ r → r ≡ t.sink → IfSome (got r) (λ bytes. IsSectionBegun bytes (origin_of (got t.sink)) t.broken)
      → StoppedSection (got s.sink) (got held) (faults s.sink) (faults held) fault
  stopped_wanting s t r held fault e same k sink begun =
      stopped_solving s t r held fault (inl (ap (λ (x : Learning K). origin_of (got x.sink)) same)) (subst (λ (x : Learning K). faults s.sink ≤ faults x.sink) (sym same) (omega arith)) k sink begun (λ w. cc (sym e ∙ w))

  -- the closing line was cut short
  pub stopped_cut : (s : Learning K) (r held : K) (fault : JournalFault) (close : Close) → IsClose close → s.broken ≡ false → IfSome (got s.sink) (λ bytes. IsSectionBegun bytes (origin_of (got s.sink)) s.broken) → held ≡ r
      → WasCut (got s.sink) (got r) (faults s.sink) (faults r) (close_text close) → StoppedSection (got s.sink) (got held) (faults s.sink) (faults held) fault
  stopped_cut s r held fault close closes whole begun e cut =
      subst (λ h. StoppedSection (got s.sink) (got h) (faults s.sink) (faults h) fault) (sym e)
      (stopped_closing close (got s.sink) (got r) (faults s.sink) (faults r) fault closes (subst (λ b. IfSome (got s.sink) (λ bytes. IsSectionBegun bytes (origin_of (got s.sink)) b)) whole begun) cut)

-- a section shows what it closes with
pub shows_close : (rails : ℕ) (f : Function) (budget : ℕ) (o : Outcome) (s : Section) → SectionSo rails f budget o s → ShowsClose rails f s s.close
shows_close rails f budget (outcome.Refuted steps) s h = subst (ShowsClose rails f s) (sym h.0.close) h.0
shows_close rails f budget (outcome.Satisfied g) s h = subst (ShowsClose rails f s) (sym h.0) h.1
shows_close rails f budget outcome.Spent s h = subst (ShowsClose rails f s) (sym h.0.close) h.0
