-- What one question comes to.
use Rattle.std.specs.Prelude.{◌≡◌, ℕ, ◌≤◌, List, length, IfSome}
use Rattle.std.specs.declared.option.Option.{Option}
use Rattle.cube_core.specs.Function.{Function}
use Rattle.lattice_grid.specs.Lattice.{Lattice}
use Rattle.lattice_grid.specs.Realise.{IsRealised}
use Rattle.lattice_grid.specs.Rectangle.{Size, IsSize}
use Rattle.reach_encoding.specs.Encoding.{Question as Asking}
use Rattle.wire_io.specs.Told.{Gains}
use Rattle.journal_text.specs.Bounds.{IsAsked}
use Rattle.journal_text.specs.Least.{IsRight, IsRightOn}
use Rattle.journal_text.specs.Parts.{Section, size_of, array_of}
use Rattle.journal_text.specs.Proved.{IsRefuted, IsSpent, IsAccepted, IsLeftOpen}
use Rattle.journal_text.specs.Text.{section_text}
use Rattle.journal_text.specs.declared.target.Close.TheVariants.{Satisfied as SatisfiedClose}
use Rattle.journal_text.specs.declared.target.Target.{Target}
use Rattle.journal_text.specs.declared.target.Target.TheVariants.{Whole, Marked}
use Rattle.lattice_question.specs.declared.question.Outcome.{Outcome}
use Rattle.lattice_question.specs.declared.question.Outcome.TheVariants.{Refuted, Satisfied, Spent}

-- the question that is asked for a target
abbrev pub question_for : ℕ → Function → Target → Asking
question_for rails f target = record { function = f; rails = rails; size = size_of target; array = array_of target }

-- No lattice of this size is right.
pub record IsExcluded (rails : ℕ) (f : Function) (s : Size) : Type 0 where
  pub size : IsSize s
  pub none : IsRealised f.inputs rails f s → ⊥

-- no lattice of the target is right: none of its size; none on its array
abbrev pub HasNone : ℕ → Function → Target → Type 0
HasNone rails f (Whole s) = IsExcluded rails f s
HasNone rails f (Marked a) = (g : Lattice) → IsRightOn rails f a g → ⊥

-- the lattice is right, and of the target: of its size; on its array
abbrev pub IsRightFor : ℕ → Function → Target → Lattice → Type 0
IsRightFor rails f (Whole s) g = IsRight rails f g × (g.size ≡ s)
IsRightFor rails f (Marked a) g = IsRightOn rails f a g

-- what the outcome of a question says of lattices
abbrev pub OutcomeSo : ℕ → Function → Target → Outcome → Type 0
OutcomeSo rails f target (Refuted steps) = HasNone rails f target × (1 ≤ steps) × (steps ≤ 2147483647)
OutcomeSo rails f target (Satisfied g) = IsRightFor rails f target g
OutcomeSo rails f target Spent = Unit {0}

-- what the section of a question shows, by its outcome
abbrev pub SectionSo : ℕ → Function → ℕ → Outcome → Section → Type 0
SectionSo rails f budget (Refuted steps) section = IsRefuted rails f section × (length section.steps ≡ steps)
SectionSo rails f budget (Satisfied g) section = (section.close ≡ SatisfiedClose) × IsAccepted rails f section
SectionSo rails f budget Spent section = IsSpent rails f budget section × IsLeftOpen rails f section

-- A section of the output and of the target was written; where the sink tells, this holds of it.
pub record AddsSection (output : ℕ) (target : Target) (got got' : Option (List ℕ)) (Holds : Section → Type 0) : Type 0 where
  pub section : Section
  pub output_is : section.output ≡ output
  pub target_is : section.target ≡ target
  pub asked : IsAsked section
  pub gained : Gains got got' (section_text section)
  pub holds : IfSome got' (λ _. Holds section)
