-- Which devices a command uses beside the standard output and error.
use Rattle.std.specs.Prelude.{ℕ, Bool, true, false, None, Some}
use Rattle.std.specs.declared.option.Option.{Option}
use Rattle.four_lattice.specs.declared.words.Job.{Job}
use Rattle.four_lattice.specs.declared.words.Job.TheVariants.{Pairs, Dual, Cnf, Verify, Check, Audit, Synth, Map, Renew, Trial}

-- whether the standard input is read, and the side file, whether a journal is written, and finders are asked
pub record Uses : Type 0 where
  pub pla : Bool
  pub side : Bool
  pub journal : Bool
  pub finders : Bool

abbrev pub nothing : Uses
nothing = record { pla = false; side = false; journal = false; finders = false }

abbrev pub pla_alone : Uses
pla_alone = record { pla = true; side = false; journal = false; finders = false }

abbrev pub pla_and_side : Uses
pla_and_side = record { pla = true; side = true; journal = false; finders = false }

abbrev pub pla_journal_and_finders : Uses
pla_journal_and_finders = record { pla = true; side = false; journal = true; finders = true }

abbrev pub pla_and_journal : Uses
pla_and_journal = record { pla = true; side = false; journal = true; finders = false }

abbrev pub journal_and_finders : Uses
journal_and_finders = record { pla = false; side = false; journal = true; finders = true }

-- the table of devices
abbrev pub uses_of : Job → Uses
uses_of (Pairs output) = pla_alone
uses_of (Dual output) = pla_alone
uses_of (Cnf output size) = pla_alone
uses_of Verify = pla_and_side
uses_of Check = pla_and_side
uses_of Audit = pla_and_side
uses_of Renew = pla_and_side
uses_of (Synth conflicts output rails) = pla_journal_and_finders
uses_of (Map conflicts output) = pla_and_journal
uses_of (Trial conflicts number) = journal_and_finders

-- words that ask for no job use nothing
abbrev pub uses : Option Job → Uses
uses None = nothing
uses (Some job) = uses_of job

-- the most bytes of a PLA with what follows it, of a CNF, and of a side file
abbrev pub most_pla_bytes : ℕ
most_pla_bytes = 4194304

abbrev pub most_cnf_bytes : ℕ
most_cnf_bytes = 67108864

abbrev pub most_side_bytes : ℕ
most_side_bytes = 536870912

-- the most bytes that the standard input of a job may have
abbrev pub most_bytes_of : Job → ℕ
most_bytes_of (Pairs output) = most_pla_bytes
most_bytes_of (Dual output) = most_pla_bytes
most_bytes_of (Cnf output size) = most_pla_bytes
most_bytes_of Verify = most_pla_bytes
most_bytes_of Check = most_cnf_bytes
most_bytes_of Audit = most_pla_bytes
most_bytes_of Renew = most_pla_bytes
most_bytes_of (Synth conflicts output rails) = most_pla_bytes
most_bytes_of (Map conflicts output) = most_pla_bytes
most_bytes_of (Trial conflicts number) = 0

abbrev pub most_bytes : Option Job → ℕ
most_bytes None = 0
most_bytes (Some job) = most_bytes_of job
