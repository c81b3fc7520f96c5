-- What a run answers.
use Rattle.std.specs.Prelude.{◌≡◌, ℕ, ◌≤◌, ◌⊎◌, Bool, true, false, List, map, string_bytes, String, None, IfSome, IsSomeAnd}
use Rattle.std.specs.Global.{Global}
use Rattle.std.specs.declared.option.Option.{Option}
use Rattle.clause_core.specs.declared.refusal.CnfRefusal.TheVariants as cnf
use Rattle.pla_reader.specs.declared.pla.PlaRefusal.TheVariants as pla
use Rattle.wire_io.specs.Told.{Gains, GainsFront, IsSpent, LosesUpTo}
use Rattle.wire_io.specs.Causes.{Device}
use Rattle.four_lattice.specs.Devices.{Change, GainsTold, still, Failed, IsReadFor}
use Rattle.four_lattice.specs.Ending.{status_of, note_text}
use Rattle.four_lattice.specs.Judge.{Texts, Task, Judgement, Refused as Refuses, Accepted, Comes}
use Rattle.four_lattice.specs.Uses.{Uses, uses, most_bytes, most_side_bytes}
use Rattle.four_lattice.specs.Work.{Written, Does, Begins}
use Rattle.four_lattice.specs.Words.{job_of}
use Rattle.four_lattice.specs.declared.words.Job.{Job}
use Rattle.four_lattice.specs.declared.status.Status.{Status}
use Rattle.four_lattice.specs.declared.status.Status.TheVariants as status
use Rattle.four_lattice.specs.declared.ending.InputRefusal.{InputRefusal}
use Rattle.four_lattice.specs.declared.ending.InputRefusal.TheVariants.{Pla, NoSuchOutput, Cnf, Array}
use Rattle.four_lattice.specs.declared.ending.SideRefusal.{SideRefusal}
use Rattle.four_lattice.specs.declared.ending.SideRefusal.TheVariants.{TooLong}
use Rattle.four_lattice.specs.declared.ending.Refusal.{Refusal}
use Rattle.four_lattice.specs.declared.ending.Refusal.TheVariants.{Words, Input, Side, Unconfirmed}
use Rattle.four_lattice.specs.declared.ending.Ending.{Ending}
use Rattle.four_lattice.specs.declared.ending.Ending.TheVariants.{Done, Undecided, Refused, ReadFault, WriteFault, NoMemory}

-- the job that the words ask for
abbrev pub job_asked : List (String Global) → Option Job
job_asked words = job_of (map string_bytes words)

-- the devices of a run but that of the notes
pub record Devices : Type 0 where
  pub pla : Change
  pub side : Change
  pub out : Change
  pub journal : Change

-- the devices of a command that does not call the journal
abbrev pub quiet : Change → Change → Change → Device → Devices
quiet pla side out journal = record { pla = pla; side = side; out = out; journal = still journal }

-- the texts of the sources before the run
abbrev pub texts : Devices → Texts
texts d = record { pla = d.pla.old.told; side = d.side.old.told }

-- Nothing was written.
abbrev pub IsBlank : Devices → Type 0
IsBlank d = (d.out.new ≡ d.out.old) × (d.journal.new ≡ d.journal.old)

-- A source that the command names failed.
abbrev pub HasReadFault : Uses → Devices → Type 0
HasReadFault u d = ((u.pla ≡ true) × Failed d.pla) ⊎ ((u.side ≡ true) × Failed d.side)

-- A sink that the command names failed.
abbrev pub HasWriteFault : Uses → Devices → Type 0
HasWriteFault u d = Failed d.out ⊎ ((u.journal ≡ true) × Failed d.journal)

-- The texts are accepted as a task, and the sinks gained what it writes, the journal where it tells.
pub record Works (J : Judgement → Type 0) (undecided : Bool) (d : Devices) : Type 0 where
  pub task : Task
  pub accepted : J (Accepted task)
  pub written : Written
  pub does : Does task written
  pub decided : written.undecided ≡ undecided
  pub out : Gains d.out.old.told d.out.new.told written.out
  pub journal : GainsTold d.journal.old.told d.journal.new.told written.journal

-- The texts are accepted as a task, and the sinks gained what stands of it where it broke off, the journal where it tells.
pub record Began (J : Judgement → Type 0) (d : Devices) : Type 0 where
  pub task : Task
  pub accepted : J (Accepted task)
  pub out : List ℕ
  pub journal : Option (List ℕ)
  pub begins : Begins task out journal
  pub out_gained : Gains d.out.old.told d.out.new.told out
  pub journal_gained : GainsTold d.journal.old.told d.journal.new.told journal

-- How a run ends: refused texts are told to be so, and nothing is written; a fault has its cause; work is that of accepted texts.
abbrev pub Ends : (Judgement → Type 0) → Uses → Ending → Devices → Type 0
Ends J u Done d = Works J false d
Ends J u Undecided d = Works J true d
Ends J u (Refused refusal) d = J (Refuses refusal) × IsBlank d
Ends J u ReadFault d = HasReadFault u d × IsBlank d
Ends J u WriteFault d = HasWriteFault u d × Began J d
Ends J u NoMemory d = IsBlank d ⊎ Began J d

abbrev pub IsInputRead : ℕ → InputRefusal → Change → Type 0
IsInputRead most (Pla refusal) c = IsReadFor (refusal ≡ pla.TooLong) most c
IsInputRead most (Cnf refusal) c = IsReadFor (refusal ≡ cnf.TooLong) most c
IsInputRead most NoSuchOutput c = IsSpent c.new.told
IsInputRead most (Array refusal) c = IsSpent c.new.told

abbrev pub IsSideRead : SideRefusal → Change → Type 0
IsSideRead refusal c = IsReadFor (refusal ≡ TooLong) most_side_bytes c

-- Nothing is left of the sources that the command names.
abbrev pub AreSpent : Uses → Devices → Type 0
AreSpent u d = (u.pla ≡ true → IsSpent d.pla.new.told) × (u.side ≡ true → IsSpent d.side.new.told)

-- How far the sources were read.
abbrev pub AreRead : Uses → ℕ → Ending → Devices → Type 0
AreRead u most Done d = AreSpent u d
AreRead u most Undecided d = AreSpent u d
AreRead u most (Refused Words) d = Unit {0}
AreRead u most (Refused (Input refusal)) d = IsInputRead most refusal d.pla
AreRead u most (Refused (Side refusal)) d = IsSpent d.pla.new.told × IsSideRead refusal d.side
AreRead u most (Refused (Unconfirmed refusal)) d = AreSpent u d
AreRead u most ReadFault d = LosesUpTo d.pla.old.told d.pla.new.told most × LosesUpTo d.side.old.told d.side.new.told most_side_bytes
AreRead u most WriteFault d = AreSpent u d
AreRead u most NoMemory d = LosesUpTo d.pla.old.told d.pla.new.told most × LosesUpTo d.side.old.told d.side.new.told most_side_bytes

-- The line of notes was taken, or a front of it where the faults of notes rose.
pub record IsNoted (notes : Change) (line : List ℕ) : Type 0 where
  pub front : GainsFront notes.old.told notes.new.told line
  pub whole : Gains notes.old.told notes.new.told line ⊎ Failed notes

-- No count of faults fell.
pub record AreLater (d : Devices) : Type 0 where
  pub pla : d.pla.old.faults ≤ d.pla.new.faults
  pub side : d.side.old.faults ≤ d.side.new.faults
  pub out : d.out.old.faults ≤ d.out.new.faults
  pub journal : d.journal.old.faults ≤ d.journal.new.faults

-- What is known of a run before its line of notes: how it ended, with its cause, and how far the sources were read.
pub record Finishes (J : Judgement → Type 0) (u : Uses) (most : ℕ) (ending : Ending) (d : Devices) : Type 0 where
  pub ends : Ends J u ending d
  pub read : AreRead u most ending d
  pub later : AreLater d

-- The same of a command that does not call the journal, whatever that is.
abbrev pub FinishesQuiet : (Texts → Judgement → Type 0) → Uses → ℕ → Ending → Change → Change → Change → Type 0
FinishesQuiet J u most ending pla side out =
    (journal : Device) → Finishes (J (record { pla = pla.old.told; side = side.old.told })) u most ending (quiet pla side out journal)

-- The same of words that may ask for a job.
abbrev pub FinishesAsked : Option Job → Ending → Devices → Type 0
FinishesAsked asked ending d = Finishes (Comes IfSome asked (texts d)) (uses asked) (most_bytes asked) ending d

-- What is known of a run: how it ended, its status, and the line of notes of that ending.
pub record Answers (asked : Option Job) (result : Status) (d : Devices) (notes : Change) : Type 0 where
  pub ending : Ending
  pub status_is : result ≡ status_of ending
  pub finishes : FinishesAsked asked ending d
  pub noted : IsNoted notes (note_text ending)
  pub notes_later : notes.old.faults ≤ notes.new.faults

-- Memory was wanting, or a source that the command names failed.
abbrev pub IsCutOff : Option Job → Status → Devices → Type 0
IsCutOff asked result d = (result ≡ status.NoMemory) ⊎ ((result ≡ status.ReadFault) × HasReadFault (uses asked) d)

-- Told texts that are refused end the run as that refusal, with its line of notes and nothing written.
abbrev pub SettlesRefusal : Option Job → Status → Devices → Change → Type 0
SettlesRefusal asked result d notes = (refusal : Refusal) → Comes IsSomeAnd asked (texts d) (Refuses refusal)
    → IsCutOff asked result d ⊎ ((result ≡ status_of (Refused refusal)) × IsBlank d × IsNoted notes (note_text (Refused refusal)))

-- The task was done, all of it, and its answers are all decided or not.
pub record IsDone (task : Task) (result : Status) (d : Devices) : Type 0 where
  pub written : Written
  pub does : Does task written
  pub out : Gains d.out.old.told d.out.new.told written.out
  pub journal : GainsTold d.journal.old.told d.journal.new.told written.journal
  pub status_is : ((written.undecided ≡ false) × (result ≡ status.Done)) ⊎ ((written.undecided ≡ true) × (result ≡ status.Undecided))

-- Told texts that are accepted end the run with their task done, or a sink that the command names failed.
abbrev pub SettlesTask : Option Job → Status → Devices → Type 0
SettlesTask asked result d = (task : Task) → Comes IsSomeAnd asked (texts d) (Accepted task)
    → IsCutOff asked result d ⊎ (((result ≡ status.WriteFault) × HasWriteFault (uses asked) d) ⊎ IsDone task result d)

-- Refused words come exactly where the words are no command's, but for want of memory.
pub record AreJudged (asked : Option Job) (result : Status) : Type 0 where
  pub refused : result ≡ status.Words → asked ≡ None
  pub judged : asked ≡ None → (result ≡ status.Words) ⊎ (result ≡ status.NoMemory)
