-- The number with which a process ends.
use Rattle.std.specs.Prelude.{◌≡◌, ℕ}
use Rattle.std.specs.declared.option.Option.{Option}
use Rattle.wire_io.specs.Causes.{Device}
use Rattle.four_lattice.specs.Devices.{Change}
use Rattle.four_lattice.specs.Ending.{number_of}
use Rattle.four_lattice.specs.Run.{Answers, AreJudged}
use Rattle.four_lattice.specs.declared.status.Status.{Status}
use Rattle.four_lattice.specs.declared.words.Job.{Job}

-- The number is that of the status of a run over these devices, which gave the sink of the journal back as some device.
pub record IsExit (asked : Option Job) (number : ℕ) (pla side out notes : Change) (journal : Device) : Type 0 where
  pub status : Status
  pub number_is : number ≡ number_of status
  pub judged : AreJudged asked status
  pub given_back : Device
  pub answers : Answers asked status (record { pla = pla; side = side; out = out; journal = record { old = journal; new = given_back } }) notes
