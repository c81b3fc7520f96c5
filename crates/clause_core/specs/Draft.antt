-- For the crate's own proofs: what a draft of a formula takes.
use Rattle.std.specs.Prelude.{◌≡◌, ◌++◌, List}
use Rattle.clause_core.specs.declared.draft.Draft.{Draft}
use Rattle.clause_core.specs.declared.number.Number.{Number}
use Rattle.clause_core.specs.CnfRead.{pieces_of, joined}

-- whatever numbers come later, the pieces are those of these numbers and the later ones
abbrev pub Takes : Draft → Draft → List Number → Type 0
Takes old new numbers = (later : List Number) → joined new.formula.clauses new.begun.items (pieces_of later) ≡ joined old.formula.clauses old.begun.items (pieces_of (numbers ++ later))
