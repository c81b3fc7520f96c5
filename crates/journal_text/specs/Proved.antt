-- What a section shows, by the hints that stand in it.
use Rattle.std.specs.Prelude.{◌≡◌, ℕ, List, map, None, Some}
use Rattle.std.specs.List.{Contains}
use Rattle.clause_core.specs.Formula.{Formula}
use Rattle.cube_core.specs.Function.{Function}
use Rattle.lattice_grid.specs.Defects.{Defects}
use Rattle.lattice_grid.specs.Rectangle.{Size}
use Rattle.lrat_replay.specs.Book.{Accepts, start}
use Rattle.lrat_replay.specs.declared.line.LineKind.TheVariants.{Add}
use Rattle.lrat_replay.specs.Laws.{Refutes}
use Rattle.lrat_replay.specs.Learned.{SpentWritten, without_hints}
use Rattle.lrat_replay.specs.New.{IsOpen}
use Rattle.reach_encoding.specs.Encoding.{encoding}
use Rattle.journal_text.specs.declared.target.Close.{Close}
use Rattle.journal_text.specs.declared.target.Close.TheVariants.{Refuted, Spent, Satisfied}
use Rattle.journal_text.specs.Parts.{Section, Part, Question, size_of, array_of}

-- the formula that a section asks, of a function and over rails
abbrev pub formula_of : ℕ → Function → Section → Formula
formula_of rails f s = encoding (record { function = f; rails = rails; size = size_of s.target; array = array_of s.target })

-- The section closes as refuted, and its steps refute its formula: each is accepted by its own hints, and one is the empty clause.
pub record IsRefuted (rails : ℕ) (f : Function) (s : Section) : Type 0 where
  pub close : s.close ≡ Refuted
  pub refutes : Refutes (formula_of rails f s) (map Add s.steps)

-- The section closes as spent, and has exactly so many steps, each accepted by its own hints, none of them empty, each new.
pub record IsSpent (rails : ℕ) (f : Function) (budget : ℕ) (s : Section) : Type 0 where
  pub close : s.close ≡ Spent budget
  pub spent : SpentWritten (formula_of rails f s) s.steps budget

-- Each step of the section is accepted by its own hints.
abbrev pub IsAccepted : ℕ → Function → Section → Type 0
IsAccepted rails f s = Accepts (start (formula_of rails f s)) (map Add s.steps)

-- what a section shows that closes so
abbrev pub ShowsClose : ℕ → Function → Section → Close → Type 0
ShowsClose rails f s Refuted = IsRefuted rails f s
ShowsClose rails f s (Spent budget) = IsSpent rails f budget s
ShowsClose rails f s Satisfied = IsAccepted rails f s

-- Each section of the output among the parts shows what it closes with.
abbrev pub AreReplayed : ℕ → ℕ → Function → List Part → Type 0
AreReplayed rails output f parts = (s : Section) → Contains parts (Question s) → s.output ≡ output → ShowsClose rails f s s.close

-- Each step told propagation something, and propagation after them finds no conflict.
abbrev pub IsLeftOpen : ℕ → Function → Section → Type 0
IsLeftOpen rails f s = IsOpen (formula_of rails f s) (without_hints s.steps)

-- Among the parts is a section of the output, of this size and of no array, of which this holds.
pub record HasWhole (parts : List Part) (output : ℕ) (size : Size) (Holds : Section → Type 0) : Type 0 where
  pub section : Section
  pub is_in : Contains parts (Question section)
  pub of_output : section.output ≡ output
  pub size_is : size_of section.target ≡ size
  pub no_array : array_of section.target ≡ None
  pub holds : Holds section

-- Among the parts is a section of the output and of this array, of which this holds.
pub record HasMarked (parts : List Part) (output : ℕ) (array : Defects) (Holds : Section → Type 0) : Type 0 where
  pub section : Section
  pub is_in : Contains parts (Question section)
  pub of_output : section.output ≡ output
  pub array_is : array_of section.target ≡ Some array
  pub holds : Holds section
