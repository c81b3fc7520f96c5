-- How an array that is refused makes a run of `map` that finishes so, and what is read behind a PLA.
use Rattle.std.proofs.Common.{◌≡◌, ℕ, List, sym, ap, ◌∙◌, subst, inl, inr, Some, None}
use Rattle.std.specs.Prelude.{IfSome}
use Rattle.std.specs.declared.option.Option.{Option}
use Rattle.defect_array.specs.Reading.{Refused as IsNoArray}
use Rattle.defect_array.specs.declared.read.ArrayRefusal.{ArrayRefusal}
use Rattle.wire_io.specs.Told.{LosesUpTo, IsSpent}
use Rattle.four_lattice.specs.Devices.{EndsTest}
use Rattle.four_lattice.specs.Inputs.{RefusesArray}
use Rattle.four_lattice.specs.Judge.{Judgement, Refused as Refuses, as_array}
use Rattle.four_lattice.specs.Run.{Devices, IsBlank, AreLater, Finishes}
use Rattle.four_lattice.specs.Uses.{Uses, most_side_bytes}
use Rattle.four_lattice.specs.declared.ending.Ending.{Ending}
use Rattle.four_lattice.specs.declared.ending.Ending.TheVariants.{Refused}

-- what holds of the bytes that were read holds of those that were told
pub where_read : (told : Option (List ℕ)) (bytes : List ℕ) (P : List ℕ → Type 0) → IfSome told (λ b. bytes ≡ b) → P bytes → IfSome told P
where_read None bytes P same p = tt
where_read (Some b) bytes P same p = subst P same p

-- the array behind a PLA is refused, or memory was wanting for it
pub array_stops : (J : Judgement → Type 0) (u : Uses) (most : ℕ) (d : Devices) (bytes : List ℕ) → IsBlank d → AreLater d → IsSpent d.pla.new.told
    → LosesUpTo d.pla.old.told d.pla.new.told most → LosesUpTo d.side.old.told d.side.new.told most_side_bytes → ((r : ArrayRefusal) → IsNoArray bytes r → J (Refuses (as_array r)))
    → (ending : Ending) → EndsTest (RefusesArray bytes) ending → Finishes J u most ending d
array_stops J u most d bytes blank later spent first second judged ending h = elim h [
  | inl a ↦ subst (λ e. Finishes J u most e d) (sym (a.2 ∙ ap Refused a.1.2)) (record { ends = (judged a.1.0 a.1.1, blank); read = spent; later = later })
  | inr m ↦ subst (λ e. Finishes J u most e d) (sym m) (record { ends = inl blank; read = (first, second); later = later })
]
