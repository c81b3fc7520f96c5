-- The text of a step.
use Rattle.std.specs.Prelude.{ℕ, List, [], ◌∷◌, ◌++◌, codes, ℤ}
use Rattle.std.specs.List.{flat_map}
use Rattle.std.specs.Fmt.{decimal, signed_decimal}
use Rattle.clause_core.specs.Literal.{Literal}
use Rattle.clause_core.specs.Cnf.{literals_text}

-- each hint with a blank behind it
abbrev pub hints_text : List ℤ → List ℕ
hints_text hints = flat_map (λ hint. signed_decimal hint ++ codes " ") hints

-- the identifier with a blank behind it
abbrev pub id_text : ℕ → List ℕ
id_text id = flat_map (λ piece. piece) (decimal id ∷ codes " " ∷ [])

-- a 0, the hints and a 0
abbrev pub end_text : List ℤ → List ℕ
end_text hints = codes "0 " ++ (hints_text hints ++ codes "0\n")

-- a line: the identifier, the literals, a 0, the hints, and a 0
abbrev pub step_text : ℕ → List Literal → List ℤ → List ℕ
step_text id clause hints = id_text id ++ (literals_text clause ++ end_text hints)
