-- For the crate's own proofs: what replay of the steps of a section comes to.
use Rattle.std.specs.Prelude.{◌≡◌, ◌≢◌, ◌⊎◌, ℕ, List, map}
use Rattle.clause_core.specs.Formula.{Formula}
use Rattle.lrat_replay.specs.Book.{Book, Accepts, start}
use Rattle.lrat_replay.specs.declared.fault.StepFault.{StepFault}
use Rattle.lrat_replay.specs.declared.fault.StepFault.TheVariants as faults
use Rattle.lrat_replay.specs.declared.line.LineKind.TheVariants.{Add}
use Rattle.lrat_replay.specs.declared.line.Step.{Step}
use Rattle.journal_text.specs.Parts.{Section}
use Rattle.journal_text.specs.declared.journal.SectionText.{SectionText}
use Rattle.journal_text.specs.declared.journal.StepLine.{StepLine}
use Rattle.journal_text.specs.declared.target.Close.TheVariants.{Refuted, Spent}
use Rattle.audit_core.specs.Audit.{Closes, IsFirstFault}
use Rattle.audit_core.specs.declared.refusal.AuditRefusal.{AuditRefusal}
use Rattle.audit_core.specs.declared.refusal.AuditRefusal.TheVariants.{Step as BadStep, Unfinished, Count, NoMemory}

-- the steps, without their lines
abbrev pub steps_of : List StepLine → List Step
steps_of steps = map (λ l. l.step) steps

-- what a fault on a line is refused for
abbrev pub refusal_of : ℕ → StepFault → AuditRefusal
refusal_of line faults.NoMemory = NoMemory
refusal_of line faults.Order = BadStep line faults.Order
refusal_of line faults.Unknown = BadStep line faults.Unknown
refusal_of line faults.Satisfied = BadStep line faults.Satisfied
refusal_of line faults.Loose = BadStep line faults.Loose
refusal_of line faults.NoConflict = BadStep line faults.NoConflict
refusal_of line faults.Rat = BadStep line faults.Rat
refusal_of line faults.Tautology = BadStep line faults.Tautology
refusal_of line faults.Variable = BadStep line faults.Variable

-- Replay of the steps stops at the first that is refused, or for want of memory.
abbrev pub StopsAt : Book → List StepLine → AuditRefusal → Type 0
StopsAt book steps refusal = refusal ≢ NoMemory → (line : ℕ) × (fault : StepFault) × IsFirstFault book steps line fault × (refusal ≡ BadStep line fault)

-- The steps of a section are accepted from a formula, and come to what it closes with.
pub record IsReplayRight (formula : Formula) (s : Section) : Type 0 where
  pub accepted : Accepts (start formula) (map Add s.steps)
  pub closes : Closes formula s.steps s.close

-- what is said of steps that do not come to what their section closes with
abbrev pub IsMiscount : SectionText → AuditRefusal → Type 0
IsMiscount s refusal = ((s.close ≡ Refuted) × (refusal ≡ Unfinished s.close_line)) ⊎ ((budget : ℕ) × (s.close ≡ Spent budget) × (refusal ≡ Count s.close_line))

-- a step of the section is refused
pub record IsStopped (formula : Formula) (s : SectionText) (refusal : AuditRefusal) : Type 0 where
  pub line : ℕ
  pub fault : StepFault
  pub first : IsFirstFault (start formula) s.steps.items line fault
  pub is : refusal ≡ BadStep line fault

-- the steps are accepted, and do not come to what the section closes with
pub record IsMissed (formula : Formula) (s : SectionText) (refusal : AuditRefusal) : Type 0 where
  pub accepted : Accepts (start formula) (map Add (steps_of s.steps.items))
  pub closes_not : Closes formula (steps_of s.steps.items) s.close → ⊥
  pub told : IsMiscount s refusal

-- in which of two ways the steps of a section are not right
abbrev pub IsReplayRefused : Formula → SectionText → AuditRefusal → Type 0
IsReplayRefused formula s refusal = IsStopped formula s refusal ⊎ IsMissed formula s refusal
