-- For the crate's own proofs: clauses whose literals are all known.
use Rattle.std.specs.Prelude.{◌≡◌, true, List}
use Rattle.std.specs.List.{Contains}
use Rattle.clause_core.specs.Literal.{Literal, has}
use Rattle.lrat_replay.specs.Status.{Known}

abbrev pub AreKnown : Known → List Literal → Type 0
AreKnown known clause = (l : Literal) → has clause l ≡ true → known l ≡ true

-- a clause of the list has only literals that are known
pub record SomeAreKnown (known : Known) (clauses : List (List Literal)) : Type 0 where
  pub clause : List Literal
  pub among : Contains clauses clause
  pub known_all : AreKnown known clause
