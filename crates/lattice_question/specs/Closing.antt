-- For the crate's own proofs: how the section of a question closes.
use Rattle.std.specs.Prelude.{◌≡◌, ℕ, ◌≤◌, List, [], ◌++◌, All, IfSome}
use Rattle.std.specs.declared.option.Option.{Option}
use Rattle.clause_core.specs.Formula.{HasNoSolution, IsSatisfiedBy}
use Rattle.clause_solver.specs.Search.{LearnsNew}
use Rattle.clause_solver.specs.declared.verdict.Verdict.{Verdict}
use Rattle.clause_solver.specs.declared.verdict.Verdict.TheVariants as verdict
use Rattle.cube_core.specs.Function.{Function}
use Rattle.lrat_replay.specs.Book.{Book}
use Rattle.lrat_replay.specs.Learned.{EndsEmpty}
use Rattle.lrat_replay.specs.New.{IsOpen}
use Rattle.lrat_replay.specs.declared.line.Step.{Step}
use Rattle.wire_io.specs.Causes.{Rose}
use Rattle.journal_text.specs.Bounds.{IsClose, IsWritten}
use Rattle.journal_text.specs.Origin.{origin_of}
use Rattle.journal_text.specs.Text.{steps_text, close_text}
use Rattle.journal_text.specs.declared.fault.JournalFault.{JournalFault}
use Rattle.journal_text.specs.declared.fault.JournalFault.TheVariants.{Sink}
use Rattle.journal_text.specs.declared.target.Close.{Close}
use Rattle.journal_text.specs.declared.target.Target.{Target}
use Rattle.lattice_question.specs.Asked.{SectionSo}
use Rattle.lattice_question.specs.declared.question.Outcome.{Outcome}

-- what a verdict says of the ledger's book, which had no steps
abbrev pub VerdictSo : Verdict → Book → Book → ℕ → Type 0
VerdictSo (verdict.Satisfied values) old new budget = IsSatisfiedBy values new.formula
VerdictSo verdict.Refuted old new budget = EndsEmpty new.steps × HasNoSolution new.formula
VerdictSo verdict.Spent old new budget = LearnsNew old new budget × IsOpen new.formula new.steps

-- behind a section's question the sink got a front of the lines of steps and of a closing line; the count of faults rose where the sink's fault is named
pub record StoppedSection (got got' : Option (List ℕ)) (faults faults' : ℕ) (fault : JournalFault) : Type 0 where
  pub steps : List Step
  pub close : Close
  pub written : All IsWritten steps
  pub may_close : IsClose close
  pub front : List ℕ
  pub rest : List ℕ
  pub whole : steps_text steps ++ close_text close ≡ front ++ rest
  pub text : IfSome got' (λ bytes. bytes ≡ origin_of got ++ front)
  pub told : IfSome got' (λ bytes. origin_of got ≡ [] → ⊥)
  pub later : faults ≤ faults'
  pub cause : fault ≡ Sink → Rose faults faults'

-- The bytes are a question's, with lines of steps and a closing line behind it; and this outcome's section, of whichever output, has them.
pub record ClosedSo (rails : ℕ) (f : Function) (budget : ℕ) (target : Target) (outcome : Outcome) (origin bytes : List ℕ) : Type 0 where
  pub steps : List Step
  pub close : Close
  pub written : All IsWritten steps
  pub may_close : IsClose close
  pub told : origin ≡ [] → ⊥
  pub text : bytes ≡ origin ++ (steps_text steps ++ close_text close)
  pub holds : (output : ℕ) → SectionSo rails f budget outcome (record { output = output; target = target; steps = steps; close = close })
