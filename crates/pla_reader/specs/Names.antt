-- The bytes of a name, and the names that inputs and outputs have where a text gives none.
use Rattle.std.specs.Prelude.{ℕ, suc, zero, List, [], ◌∷◌, ◌++◌}
use Rattle.std.specs.Fmt.{decimal}
use Rattle.pla_reader.specs.declared.name.Name.{Name}

abbrev pub bytes_of : Name → List ℕ
bytes_of name = name.bytes.items

-- a letter and a number from 0 on, so many
abbrev pub default_names : ℕ → ℕ → List (List ℕ)
default_names letter zero = []
default_names letter (suc n) = default_names letter n ++ (letter ∷ decimal n) ∷ []
