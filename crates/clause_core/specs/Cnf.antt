-- The text of a formula.
use Rattle.std.specs.Prelude.{ℕ, List, [], ◌∷◌, ◌++◌, codes, length}
use Rattle.std.specs.List.{flat_map}
use Rattle.std.specs.Fmt.{decimal, signed_decimal}
use Rattle.clause_core.specs.Literal.{Literal, signed}
use Rattle.clause_core.specs.Formula.{Formula}

-- a variable by its number, its complement with a sign before it
abbrev pub literal_text : Literal → List ℕ
literal_text l = signed_decimal (signed l)

-- each literal with a blank behind it
abbrev pub literals_text : List Literal → List ℕ
literals_text clause = flat_map (λ l. literal_text l ++ codes " ") clause

-- a line: the literals, and then 0
abbrev pub clause_text : List Literal → List ℕ
clause_text clause = literals_text clause ++ codes "0\n"

-- the first line: how many variables and clauses there are
abbrev pub head_text : ℕ → ℕ → List ℕ
head_text vars clauses = flat_map (λ piece. piece) (codes "p cnf " ∷ decimal vars ∷ codes " " ∷ decimal clauses ∷ codes "\n" ∷ [])

unfoldable pub cnf_text : Formula → List ℕ
cnf_text f = head_text f.vars (length f.clauses) ++ flat_map clause_text f.clauses
