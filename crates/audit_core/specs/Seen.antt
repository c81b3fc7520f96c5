-- For the crate's own proofs: what is kept of parts that are right.
use Rattle.std.specs.Prelude.{◌≡◌, List, length}
use Rattle.journal_text.specs.Parts.{Part}
use Rattle.audit_core.specs.Audit.{Basis, AreRight}
use Rattle.audit_core.specs.Bare.{asked_in}
use Rattle.audit_core.specs.Confirmed.{confirmed_from}
use Rattle.audit_core.specs.Sought.{IsNext, AreKept}
use Rattle.audit_core.specs.declared.part.Seen.{Seen}

-- The parts are right; and these are the least output that the next answer may be for, the shapes that they refute of each output, their sections without steps, how many they are, and their answers.
pub record IsSeen (basis : Basis) (before : List Part) (seen : Seen) : Type 0 where
  pub right : AreRight basis before
  pub next : IsNext before seen.least
  pub kept : AreKept before basis.parts.outputs seen.refuted.items
  pub asked : seen.asked.items ≡ asked_in before
  pub many : seen.many ≡ length before
  pub confirmed : seen.confirmed.items ≡ confirmed_from 0 before
