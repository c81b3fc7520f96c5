-- For the crate's own proofs: what reading the inputs of a command comes to.
use Rattle.std.specs.Prelude.{◌≡◌, ℕ, List}
use Rattle.clause_core.specs.declared.refusal.CnfRefusal.TheVariants as cnf
use Rattle.defect_array.specs.Reading.{Refused as IsNoArray}
use Rattle.defect_array.specs.declared.read.ArrayRefusal.{ArrayRefusal}
use Rattle.pla_reader.specs.declared.pla.PlaRefusal.TheVariants as pla
use Rattle.pla_reader.specs.Reading.{Refused}
use Rattle.four_lattice.specs.Devices.{Change, EndsText}
use Rattle.four_lattice.specs.Judge.{as_pla, as_cnf, as_array, IsCnfRefused, IsLratRefused, IsReportRefused, IsJournalRefused}
use Rattle.four_lattice.specs.Uses.{most_pla_bytes, most_cnf_bytes, most_side_bytes}
use Rattle.four_lattice.specs.declared.ending.SideRefusal.TheVariants.{TooLong}
use Rattle.four_lattice.specs.declared.ending.Refusal.{Refusal}
use Rattle.four_lattice.specs.declared.ending.Refusal.TheVariants.{Side}
use Rattle.four_lattice.specs.declared.ending.Ending.{Ending}

-- Why no PLA was read.
abbrev pub EndsPla : Ending → Change → Type 0
EndsPla = EndsText as_pla (λ r. r ≡ pla.TooLong) Refused most_pla_bytes

-- Why no formula was read.
abbrev pub EndsCnf : Ending → Change → Type 0
EndsCnf = EndsText as_cnf (λ r. r ≡ cnf.TooLong) IsCnfRefused most_cnf_bytes

-- Why no lines were read of the side file.
abbrev pub EndsLrat : Ending → Change → Type 0
EndsLrat = EndsText Side (λ r. r ≡ TooLong) IsLratRefused most_side_bytes

-- Why no report was read of the side file.
abbrev pub EndsReport : Ending → Change → Type 0
EndsReport = EndsText Side (λ r. r ≡ TooLong) IsReportRefused most_side_bytes

-- Why no journal was read of the side file.
abbrev pub EndsJournal : Ending → Change → Type 0
EndsJournal = EndsText Side (λ r. r ≡ TooLong) IsJournalRefused most_side_bytes

-- The bytes behind a PLA are refused as an array.
abbrev pub RefusesArray : List ℕ → Refusal → Type 0
RefusesArray bytes refusal = (r : ArrayRefusal) × IsNoArray bytes r × (refusal ≡ as_array r)
