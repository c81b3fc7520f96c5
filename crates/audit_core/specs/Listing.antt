-- For the crate's own proofs: answers that are given their lists of proofs.
use Rattle.std.specs.Prelude.{◌≡◌, ◌≤◌, List, ◌∷◌, ◌++◌, ⊤, length, map}
use Rattle.report_text.specs.declared.answer.Proof.{Proof}
use Rattle.journal_text.specs.Good.{Lists}
use Rattle.journal_text.specs.Parts.{Section, Part, Question, Answered}
use Rattle.audit_core.specs.Audit.{HasSection}
use Rattle.audit_core.specs.Renewed.{unlisted}
use Rattle.audit_core.specs.Sought.{ListsClosed}

-- a section has no more steps than a text may have bytes
abbrev pub HasFewSteps : Part → Type 0
HasFewSteps (Question s) = length s.steps ≤ 536870912
HasFewSteps (Answered block) = ⊤

-- What a list of proofs gained tells of the part, whatever parts and proofs come behind.
abbrev pub Adds : (Section → Type 0) → Part → List Proof → List Proof → Type 0
Adds Counts part old new = (rest : List Part) (later : List Proof) → Lists Counts rest later → (more : List Proof) × (old ++ more ≡ new ++ later) × Lists Counts (part ∷ rest) more

-- where the section that an answer speaks of stands before it, it lists its proofs
abbrev pub ListsAfter : List Part → Part → Type 0
ListsAfter before (Question s) = ⊤
ListsAfter before (Answered block) = HasSection before block.output block.answer → ListsClosed block.output before block.answer block.proofs

-- the part with its list of proofs behind these
pub record IsRelisted (before : List Part) (old new : Part) : Type 0 where
  pub same : unlisted new ≡ unlisted old
  pub listed : ListsAfter before new

-- each part lists its proofs behind those before it
abbrev pub AreListed : List Part → Type 0
AreListed parts = (before : List Part) (part : Part) (later : List Part) → parts ≡ before ++ part ∷ later → ListsAfter before part

-- the same parts, each with its list of proofs
pub record AreRelisted (old new : List Part) : Type 0 where
  pub same : map unlisted new ≡ map unlisted old
  pub listed : AreListed new
