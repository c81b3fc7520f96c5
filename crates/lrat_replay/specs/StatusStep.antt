-- For the crate's own proofs: a status, literal by literal.
use Rattle.std.specs.Prelude.{cond}
use Rattle.clause_core.specs.Literal.{Literal, same}
use Rattle.lrat_replay.specs.declared.status.Status.{Status}
use Rattle.lrat_replay.specs.declared.status.Status.TheVariants.{Satisfied, Unresolved, Forces, Conflict}

-- one more literal without value
abbrev pub with_unassigned : Status → Literal → Status
with_unassigned Conflict l = Forces l
with_unassigned (Forces first) l = cond (same first l) (Forces first) Unresolved
with_unassigned Unresolved l = Unresolved
with_unassigned Satisfied l = Satisfied
