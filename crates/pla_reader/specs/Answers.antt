-- Each text is one value or has one refusal, and a plain text is what it means.
use Rattle.std.specs.Prelude.{◌≡◌, ◌⊎◌, ℕ, ◌≤◌, List, length}
use Rattle.pla_reader.specs.declared.pla.PlaRefusal.{PlaRefusal}
use Rattle.pla_reader.specs.Parts.{Parts}
use Rattle.pla_reader.specs.PlainParts.{ReadsPlain}
use Rattle.pla_reader.specs.Reading.{Reads, Refused}

-- A text is read in one way.
abbrev pub IsReadOneWay : Type 0
IsReadOneWay = (bytes : List ℕ) (a b : Parts) → Reads bytes a → Reads bytes b → a ≡ b

-- A text is refused in one way.
abbrev pub IsRefusedOneWay : Type 0
IsRefusedOneWay = (bytes : List ℕ) (a b : PlaRefusal) → Refused bytes a → Refused bytes b → a ≡ b

-- No text is both read and refused.
abbrev pub IsEither : Type 0
IsEither = (bytes : List ℕ) (parts : Parts) (refusal : PlaRefusal) → Reads bytes parts → Refused bytes refusal → ⊥

-- Each text is read or refused.
abbrev pub IsReadOrRefused : Type 0
IsReadOrRefused = (bytes : List ℕ) → ((parts : Parts) × Reads bytes parts) ⊎ ((refusal : PlaRefusal) × Refused bytes refusal)

-- A plain text that is short enough is read as what it means, and the rest begins after it.
abbrev pub IsPlainRead : Type 0
IsPlainRead = (bytes : List ℕ) (parts : Parts) → length bytes ≤ 4194304 → ReadsPlain bytes parts → Reads bytes parts
