-- What is written for an answer: the sections of questions.
use Rattle.std.specs.Prelude.{◌≡◌, ℕ, ◌≤◌, List, ◌++◌, All, IfSome}
use Rattle.std.specs.declared.option.Option.{Option}
use Rattle.std.specs.List.{Contains}
use Rattle.cube_core.specs.Function.{Function}
use Rattle.wire_io.specs.Causes.{Rose}
use Rattle.wire_io.specs.Told.{Gains, GainsFront}
use Rattle.report_text.specs.declared.answer.Answer.{Answer}
use Rattle.report_text.specs.declared.answer.Proof.{Proof}
use Rattle.report_text.specs.declared.answer.Version.TheVariants.{Two}
use Rattle.journal_text.specs.Bounds.{IsAsked}
use Rattle.journal_text.specs.Good.{Good, Licensed, Listed}
use Rattle.journal_text.specs.Parts.{Section, Part, Question, Answered}
use Rattle.journal_text.specs.Proved.{AreReplayed}
use Rattle.journal_text.specs.Text.{parts_text}
use Rattle.journal_text.specs.declared.fault.JournalFault.{JournalFault}
use Rattle.journal_text.specs.declared.fault.JournalFault.TheVariants.{Sink}

-- a section of the output, as a journal may have it
abbrev pub IsSectionOf : ℕ → Part → Type 0
IsSectionOf output (Question s) = (s.output ≡ output) × IsAsked s
IsSectionOf output (Answered block) = ⊥

-- No section among the parts is of the output.
abbrev pub HasNoSection : List Part → ℕ → Type 0
HasNoSection parts output = (s : Section) → Contains parts (Question s) → s.output ≡ output → ⊥

-- Behind these parts the answer is good, licensed with the budget, and listed; and each section of the output among them shows what it closes with.
pub record IsShown (rails output : ℕ) (f : Function) (budget : ℕ) (parts : List Part) (answer : Answer) (proofs : List Proof) : Type 0 where
  pub good : Good rails output f parts answer
  pub licensed : Licensed rails output f parts budget answer
  pub listed : Listed rails output f parts answer proofs
  pub replayed : AreReplayed rails output f parts

-- What a search for an answer wrote: sections of the output alone. Where the sink tells, they show the answer, behind any parts that have no section of the output.
pub record Searched (rails output : ℕ) (f : Function) (budget : ℕ) (got got' : Option (List ℕ)) (answer : Answer) (proofs : List Proof) : Type 0 where
  pub more : List Part
  pub are : All (IsSectionOf output) more
  pub gained : Gains got got' (parts_text Two more)
  pub shown : IfSome got' (λ _. (parts : List Part) → HasNoSection parts output → IsShown rails output f budget (parts ++ more) answer proofs)

-- What was written up to a stop: a front of sections of the output alone. It is the sink's fault only where the sink's count of faults rose.
pub record StoppedAsking (output : ℕ) (got got' : Option (List ℕ)) (faults faults' : ℕ) (OfSink : Type 0) : Type 0 where
  pub more : List Part
  pub are : All (IsSectionOf output) more
  pub front : GainsFront got got' (parts_text Two more)
  pub later : faults ≤ faults'
  pub cause : OfSink → Rose faults faults'

abbrev pub StoppedQuestion : ℕ → Option (List ℕ) → Option (List ℕ) → ℕ → ℕ → JournalFault → Type 0
StoppedQuestion output got got' faults faults' fault = StoppedAsking output got got' faults faults' (fault ≡ Sink)
