-- For the crate's own proofs: what the parts of `synth`, `map` and `trial` write.
use Rattle.std.specs.Prelude.{◌≡◌, ◌⊎◌, ℕ, ◌+◌, ◌*◌, ◌≤◌, Bool, nat_lt, if◌then◌else◌, List, [], ◌∷◌, ◌++◌, All, map, IfSome, slice_get, Some, codes}
use Rattle.std.specs.List.{Contains}
use Rattle.std.specs.declared.option.Option.{Option}
use Rattle.cube_core.specs.Function.{Function}
use Rattle.defect_array.specs.declared.place.PlaceFault.{PlaceFault}
use Rattle.defect_array.specs.declared.place.PlaceFault.TheVariants as placed
use Rattle.lattice_grid.specs.Defects.{Defects}
use Rattle.pla_reader.specs.Parts.{Parts}
use Rattle.report_text.specs.declared.answer.Version.TheVariants.{Two}
use Rattle.report_text.specs.Bounds.{IsBlock}
use Rattle.report_text.specs.Report as report
use Rattle.report_text.specs.Report.{BlockParts, block_text, blocks_text}
use Rattle.wire_io.specs.Told.{Gains, GainsFront}
use Rattle.journal_text.specs.Bounds.{IsPart, MayStand}
use Rattle.journal_text.specs.Parts.{Section, Part, Question, Answered}
use Rattle.journal_text.specs.Text as text
use Rattle.journal_text.specs.Text.{parts_text}
use Rattle.audit_core.specs.Audit.{Basis, AreRight}
use Rattle.area_search.specs.Answer.{HoldsOfLattices}
use Rattle.lattice_question.specs.Written.{IsSectionOf, HasNoSection, IsShown}
use Rattle.area_search.specs.declared.fault.SearchFault.{SearchFault}
use Rattle.area_search.specs.declared.fault.SearchFault.TheVariants as searched
use Rattle.four_lattice.specs.Devices.{Change, Failed, GainsTold}
use Rattle.four_lattice.specs.Synth.{Sought, Least, OnArray, Holds, IsNamed, IsHeld, IsShownIn, AreAnswers, BeginAnswers, answers_of, IsFront}
use Rattle.four_lattice.specs.Trial.{tally_of, answers_in, AreTried, BeginTried}
use Rattle.four_lattice.specs.declared.ending.Ending.{Ending}
use Rattle.four_lattice.specs.declared.ending.Ending.TheVariants as ending
use Rattle.four_lattice.specs.declared.lattices.WorkFault.{WorkFault}
use Rattle.four_lattice.specs.declared.lattices.WorkFault.TheVariants.{Write, NoMemory}
use Rattle.four_lattice.specs.declared.tally.Tally.{Tally}

-- what is sought, the rails, the most conflicts for a question, and the PLA
pub record Asked : Type 0 where
  pub sought : Sought
  pub rails : ℕ
  pub budget : ℕ
  pub parts : Parts

abbrev pub asked : ℕ → ℕ → Parts → Asked
asked rails budget parts = record { sought = Least; rails = rails; budget = budget; parts = parts }

-- on an array all literals are allowed
abbrev pub asked_on : Defects → ℕ → Parts → Asked
asked_on a budget parts = record { sought = OnArray a; rails = 1048575; budget = budget; parts = parts }

-- what the parts of its journal are tested against
abbrev pub basis_of : Asked → Basis
basis_of a = record { parts = a.parts; version = Two; rails = a.rails }

-- whether an answer is undecided
abbrev pub is_open : Tally → Bool
is_open t = nat_lt 0 t.undecided

-- the tally of these answers and those
abbrev pub joined : Tally → Tally → Tally
joined s t = record { minimum = s.minimum + t.minimum; undecided = s.undecided + t.undecided; area = s.area + t.area }

-- A tally of at most so many answers, none of which has more than 1,048,576 cells.
pub record IsTallyOf (many : ℕ) (t : Tally) : Type 0 where
  pub minimum : t.minimum ≤ many
  pub undecided : t.undecided ≤ many
  pub area : t.area ≤ many * 1048576

-- a fault of writing comes only where one of the sinks failed
abbrev pub HasSinkCause : WorkFault → Change → Change → Type 0
HasSinkCause Write out journal = Failed out ⊎ Failed journal
HasSinkCause NoMemory out journal = Unit {0}

-- no count of faults fell
pub record BothLater (out journal : Change) : Type 0 where
  pub of_out : out.old.faults ≤ out.new.faults
  pub of_journal : journal.old.faults ≤ journal.new.faults

-- ---- one output

-- The block is that of the output, and may stand in a report and a journal.
pub record IsBlockOf (a : Asked) (output : ℕ) (block : BlockParts) : Type 0 where
  pub output_is : block.output ≡ output
  pub named : IsNamed a.parts block
  pub bounds : IsBlock Two block
  pub may_stand : MayStand block.answer

-- The journal got sections of the output, and the block's answer, which they show behind any parts that have no section of the output.
pub record AnswersOutput (a : Asked) (output : ℕ) (block : BlockParts) (journal : Change) : Type 0 where
  pub of : IsBlockOf a output block
  pub function : Function
  pub of_output : slice_get a.parts.functions output ≡ Some function
  pub holds : Holds a.sought a.rails a.budget function block.answer
  pub more : List Part
  pub sections : All (IsSectionOf output) more
  pub gained : Gains journal.old.told journal.new.told (parts_text Two (more ++ Answered block ∷ []))
  pub shown : IfSome journal.new.told (λ _. (before : List Part) → HasNoSection before output
      → IsShown a.rails output function a.budget (before ++ more) block.answer block.proofs)

-- The journal got a front of sections of the output and of an answer.
pub record CutsOutput (a : Asked) (output : ℕ) (journal : Change) : Type 0 where
  pub block : BlockParts
  pub of : IsBlockOf a output block
  pub more : List Part
  pub sections : All (IsSectionOf output) more
  pub front : GainsFront journal.old.told journal.new.told (parts_text Two (more ++ Answered block ∷ []))

-- The journal got the answer of the output, and `out` its block.
pub record WroteOutput (a : Asked) (output : ℕ) (tally : Tally) (out journal : Change) : Type 0 where
  pub block : BlockParts
  pub answers : AnswersOutput a output block journal
  pub tallied : tally ≡ tally_of (block.answer ∷ [])
  pub gained : Gains out.old.told out.new.told (block_text Two block)
  pub later : BothLater out journal

-- Writing stopped within the answer of the output, and `out` got nothing; or `out` got a front of its block.
pub record StoppedOutput (a : Asked) (output : ℕ) (fault : WorkFault) (out journal : Change) : Type 0 where
  pub where_it_stopped : (CutsOutput a output journal × (out.new.told ≡ out.old.told))
      ⊎ ((block : BlockParts) × AnswersOutput a output block journal × GainsFront out.old.told out.new.told (block_text Two block))
  pub later : BothLater out journal
  pub cause : HasSinkCause fault out journal

-- ---- outputs in order

-- These blocks of the outputs, in order, are the answers among the parts; they hold, and where the journal tells the parts show them.
pub record Settled (a : Asked) (outputs : List ℕ) (told : Option (List ℕ)) : Type 0 where
  pub blocks : List BlockParts
  pub all : List Part
  pub outputs_are : map (λ block. block.output) blocks ≡ outputs
  pub named : All (IsNamed a.parts) blocks
  pub held : All (IsHeld a.sought a.rails a.budget a.parts) blocks
  pub answers : answers_of all ≡ blocks
  pub bounds : All (IsPart Two) all
  pub sections : (s : Section) → Contains all (Question s) → Contains outputs s.output
  pub shown : IfSome told (λ _. All (IsShownIn a.rails a.budget a.parts all) blocks)

-- These blocks of the outputs, in order, are the answers among the parts, and may stand.
pub record IsLeft (a : Asked) (outputs : List ℕ) (blocks : List BlockParts) (pending : List Part) : Type 0 where
  pub outputs_are : map (λ block. block.output) blocks ≡ outputs
  pub named : All (IsNamed a.parts) blocks
  pub answers : answers_of pending ≡ blocks
  pub bounds : All (IsPart Two) pending

-- The blocks of the outputs were written, and the parts that show them, which are right.
pub record WroteBlocks (a : Asked) (outputs : List ℕ) (tally : Tally) (out journal : Change) : Type 0 where
  pub settled : Settled a outputs journal.new.told
  pub right : IfSome journal.new.told (λ _. AreRight (basis_of a) settled.all)
  pub tallied : tally ≡ tally_of (answers_in settled.blocks)
  pub out_gained : Gains out.old.told out.new.told (blocks_text Two settled.blocks)
  pub journal_gained : Gains journal.old.told journal.new.told (parts_text Two settled.all)
  pub later : BothLater out journal

-- Some of the outputs were settled, and of the others none has its block in `out`.
pub record StoppedBlocks (a : Asked) (outputs : List ℕ) (fault : WorkFault) (out journal : Change) : Type 0 where
  pub first : List ℕ
  pub last : List ℕ
  pub whole : outputs ≡ first ++ last
  pub settled : Settled a first journal.new.told
  pub left : List BlockParts
  pub pending : List Part
  pub is_left : IsLeft a last left pending
  pub front : GainsFront out.old.told out.new.told (blocks_text Two settled.blocks)
  pub tail : List ℕ
  pub tail_front : IsFront tail (parts_text Two pending)
  pub gained : Gains journal.old.told journal.new.told (parts_text Two settled.all ++ tail)
  pub later : BothLater out journal
  pub cause : HasSinkCause fault out journal

-- ---- the whole

-- The lines before the blocks and before the parts were written.
pub record WroteHeads (rails : ℕ) (names : List (List ℕ)) (out journal : Change) : Type 0 where
  pub out_gained : Gains out.old.told out.new.told (report.head_text Two rails names)
  pub journal_gained : Gains journal.old.told journal.new.told (text.head_text Two rails)
  pub later : BothLater out journal

-- Fronts of them were written.
pub record StoppedHeads (rails : ℕ) (names : List (List ℕ)) (fault : WorkFault) (out journal : Change) : Type 0 where
  pub out_front : GainsFront out.old.told out.new.told (report.head_text Two rails names)
  pub journal_front : GainsFront journal.old.told journal.new.told (text.head_text Two rails)
  pub later : BothLater out journal
  pub cause : HasSinkCause fault out journal

-- The last lines were written.
pub record WroteEnds (out journal : Change) : Type 0 where
  pub out_gained : Gains out.old.told out.new.told (codes "end\n")
  pub journal_gained : Gains journal.old.told journal.new.told (codes "end\n")
  pub later : BothLater out journal

-- Fronts of them were written.
pub record StoppedEnds (fault : WorkFault) (out journal : Change) : Type 0 where
  pub out_front : GainsFront out.old.told out.new.told (codes "end\n")
  pub journal_front : GainsFront journal.old.told journal.new.told (codes "end\n")
  pub later : BothLater out journal
  pub cause : HasSinkCause fault out journal

-- A text and a journal of which this holds were written.
pub record WroteAll (Holds : List ℕ → Option (List ℕ) → Type 0) (out journal : Change) : Type 0 where
  pub bytes : List ℕ
  pub told : Option (List ℕ)
  pub holds : Holds bytes told
  pub out_gained : Gains out.old.told out.new.told bytes
  pub journal_gained : GainsTold journal.old.told journal.new.told told
  pub later : BothLater out journal

-- What was written of a text and a journal stands so.
pub record StoppedWriting (Stands : List ℕ → Option (List ℕ) → Type 0) (fault : WorkFault) (out journal : Change) : Type 0 where
  pub bytes : List ℕ
  pub told : Option (List ℕ)
  pub stands : Stands bytes told
  pub out_gained : Gains out.old.told out.new.told bytes
  pub journal_gained : GainsTold journal.old.told journal.new.told told
  pub later : BothLater out journal
  pub cause : HasSinkCause fault out journal

-- The report and the journal are the answers, with this tally.
pub record AreTallied (a : Asked) (output : Option ℕ) (tally : Tally) (bytes : List ℕ) (told : Option (List ℕ)) : Type 0 where
  pub answers : AreAnswers a.sought a.rails a.budget output a.parts bytes told (is_open tally)
  pub tallied : tally ≡ tally_of (answers_in answers.report.blocks)

-- The report and the journal were written.
abbrev pub WroteAnswers : Asked → Option ℕ → Tally → Change → Change → Type 0
WroteAnswers a output tally out journal = WroteAll (AreTallied a output tally) out journal

-- Fronts of them were written.
abbrev pub StoppedAnswers : Asked → Option ℕ → WorkFault → Change → Change → Type 0
StoppedAnswers a output fault out journal = StoppedWriting (BeginAnswers a.sought a.rails a.budget output a.parts) fault out journal

-- All of a trial was written.
abbrev pub WroteTried : (number budget : ℕ) → Parts → Tally → Change → Change → Type 0
WroteTried number budget parts tally out journal = WroteAll (λ bytes told. AreTried number budget parts bytes told (is_open tally)) out journal

-- Fronts of it were written.
abbrev pub StoppedTried : (number budget : ℕ) → Parts → WorkFault → Change → Change → Type 0
StoppedTried number budget parts fault out journal = StoppedWriting (BeginTried number budget parts) fault out journal

-- how a run ends whose work was done
abbrev pub tally_ending : Tally → Ending
tally_ending t = if is_open t then ending.Undecided else ending.Done

-- what stops a command whose search stopped so
abbrev pub fault_of_search : SearchFault → WorkFault
fault_of_search searched.Sink = Write
fault_of_search searched.NoMemory = NoMemory

-- what stops a command whose placing stopped so
abbrev pub fault_of_place : PlaceFault → WorkFault
fault_of_place placed.Sink = Write
fault_of_place placed.NoMemory = NoMemory
