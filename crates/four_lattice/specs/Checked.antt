-- For the crate's own proofs: what the replay of a text of steps comes to.
use Rattle.std.specs.Prelude.{◌≡◌, ◌⊎◌, ℕ, ◌≤◌, true, List, length, IfSome, Result, Ok, Err}
use Rattle.std.specs.declared.option.Option.{Option}
use Rattle.clause_core.specs.Formula.{Formula}
use Rattle.lrat_replay.specs.declared.fault.StepFault.{StepFault}
use Rattle.lrat_replay.specs.declared.fault.StepFault.TheVariants as faults
use Rattle.lrat_replay.specs.declared.line.Line.{Line}
use Rattle.lrat_replay.specs.declared.refusal.LratRefusal.{LratRefusal}
use Rattle.lrat_replay.specs.declared.refusal.LratRefusal.TheVariants as forms
use Rattle.lrat_replay.specs.Book.{Book, Accepts, after_lines}
use Rattle.lrat_replay.specs.LratRead.{lrat_of}
use Rattle.wire_io.specs.Told.{IsSpent, LosesUpTo}
use Rattle.four_lattice.specs.declared.check.Replayed.{Replayed}
use Rattle.four_lattice.specs.declared.check.Replayed.TheVariants.{Accepted, Refused}
use Rattle.four_lattice.specs.declared.ending.Ending.{Ending}
use Rattle.four_lattice.specs.declared.ending.Ending.TheVariants as endings
use Rattle.four_lattice.specs.declared.ending.Refusal.TheVariants.{Side}
use Rattle.four_lattice.specs.declared.ending.SideRefusal.TheVariants.{Lrat}
use Rattle.four_lattice.specs.Check.{kinds_of, IsFirstFault, IsAccepted, adds_empty, end_line}
use Rattle.four_lattice.specs.Devices.{Change, EndsTest}
use Rattle.four_lattice.specs.Inputs.{EndsLrat}
use Rattle.four_lattice.specs.Judge.{LinesStop}
use Rattle.four_lattice.specs.Uses.{most_side_bytes}

abbrev pub EndsReplay : Replayed → Book → Book → List Line → Type 0
EndsReplay Accepted old new lines = Accepts old (kinds_of lines) × (new ≡ after_lines old (kinds_of lines))
EndsReplay (Refused fault number) old new lines = IsFirstFault old lines fault number

-- how a replay ends at a fault on a line of this number
abbrev pub ended_at : StepFault → ℕ → Result Replayed LratRefusal
ended_at faults.NoMemory number = Err forms.NoMemory
ended_at fault number = Ok (Refused fault number)

-- The text is of some lines, and their replay ends so.
pub record ReplaysText (how : Replayed) (old new : Book) (text : List ℕ) : Type 0 where
  pub lines : List Line
  pub read : lrat_of text ≡ Ok lines
  pub ends : EndsReplay how old new lines

-- The text is of lines that refute the formula.
pub record RefutesBy (formula : Formula) (text : List ℕ) : Type 0 where
  pub lines : List Line
  pub read : lrat_of text ≡ Ok lines
  pub refutes : IsAccepted formula lines × (adds_empty formula lines ≡ true)

-- The text is of lines that do not.
pub record StopsBy (formula : Formula) (text : List ℕ) (ending : Ending) : Type 0 where
  pub lines : List Line
  pub read : lrat_of text ≡ Ok lines
  pub stops : EndsTest (LinesStop formula lines (end_line text)) ending

-- The text is of no lines.
pub record IsNoProof (text : List ℕ) (ending : Ending) : Type 0 where
  pub refusal : LratRefusal
  pub refused : lrat_of text ≡ Err refusal
  pub ends : ending ≡ endings.Refused (Side (Lrat refusal))

-- Why a text refutes nothing, or want of memory.
abbrev pub EndsText : Formula → List ℕ → Ending → Type 0
EndsText formula text ending = IsNoProof text ending ⊎ (StopsBy formula text ending ⊎ (ending ≡ endings.NoMemory))

-- The side file has lines, which refute the formula.
pub record RefutesSide (formula : Formula) (told : Option (List ℕ)) : Type 0 where
  pub lines : List Line
  pub reads : IfSome told (λ bytes. (length bytes ≤ most_side_bytes) × (lrat_of bytes ≡ Ok lines))
  pub refutes : IsAccepted formula lines × (adds_empty formula lines ≡ true)

-- The side file has lines, which do not refute the formula.
pub record StopsCheck (formula : Formula) (ending : Ending) (c : Change) : Type 0 where
  pub lines : List Line
  pub last : ℕ
  pub reads : IfSome c.old.told (λ bytes. (length bytes ≤ most_side_bytes) × (lrat_of bytes ≡ Ok lines))
  pub last_is : IfSome c.old.told (λ bytes. last ≡ end_line bytes)
  pub stops : EndsTest (LinesStop formula lines last) ending
  pub spent : IsSpent c.new.told
  pub taken : LosesUpTo c.old.told c.new.told most_side_bytes

-- Why a side file refutes nothing: it has no lines of steps, or lines that do not.
abbrev pub EndsCheck : Formula → Ending → Change → Type 0
EndsCheck formula ending c = EndsLrat ending c ⊎ StopsCheck formula ending c
