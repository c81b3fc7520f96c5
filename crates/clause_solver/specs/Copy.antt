-- A solver's own clauses are those of its ledger.
use Rattle.std.specs.Prelude.{◌≡◌, List, length}
use Rattle.std.specs.FinSet as set
use Rattle.clause_core.specs.Literal.{Literal}
use Rattle.lrat_replay.specs.Book.{Book, numbered, all_of, last_id}

pub record IsCopy (book : Book) (clauses : List (List Literal)) : Type 0 where
  pub same : all_of book ≡ numbered 1 clauses
  pub kept : book.deleted ≡ set.empty
  pub count : last_id book ≡ length clauses
