-- That an audit comes to one thing, and a journal is made anew in one way; and when what is written is right.
use Rattle.std.specs.Prelude.{◌≡◌, List, [], ◌∷◌, ◌++◌, All, slice_get, Some}
use Rattle.cube_core.specs.Function.{Function}
use Rattle.pla_reader.specs.Parts.{Parts, IsPla}
use Rattle.report_text.specs.Report.{BlockParts}
use Rattle.report_text.specs.declared.answer.Version.TheVariants.{Two}
use Rattle.journal_text.specs.Bounds.{IsJournal}
use Rattle.journal_text.specs.Good.{Good, Listed}
use Rattle.journal_text.specs.Parts.{Section, Part, Answered, JournalParts, parts_of_journal}
use Rattle.journal_text.specs.Proved.{ShowsClose, AreReplayed}
use Rattle.journal_text.specs.declared.journal.Journal.{Journal}
use Rattle.audit_core.specs.Audit.{Basis, Claim, IsRightSection, IsOf, IsRightAnswer, AreRight, Audited, IsAuditRefused}
use Rattle.audit_core.specs.Renewed.{IsRenewed}
use Rattle.audit_core.specs.Sought.{IsSection}
use Rattle.audit_core.specs.declared.refusal.AuditRefusal.{AuditRefusal}

-- A journal that is right has no refusal.
abbrev pub IsNeverBoth : Type 0
IsNeverBoth = (parts : Parts) (journal : Journal) (refusal : AuditRefusal) → IsPla parts → Audited parts (parts_of_journal journal) → IsAuditRefused parts journal refusal → ⊥

-- A journal has one refusal at most.
abbrev pub IsOneRefusal : Type 0
IsOneRefusal = (parts : Parts) (journal : Journal) (a b : AuditRefusal) → IsPla parts → IsAuditRefused parts journal a → IsAuditRefused parts journal b → a ≡ b

-- A journal is made anew for a PLA in one way.
abbrev pub IsOneRenewal : Type 0
IsOneRenewal = (parts : Parts) (old new other : JournalParts) → IsRenewed parts old new → IsRenewed parts old other → new ≡ other

-- A journal of version 2 that is right is the one that it gives anew.
abbrev pub IsOwnRenewal : Type 0
IsOwnRenewal = (parts : Parts) (journal : JournalParts) → journal.version ≡ Two → IsJournal journal → Audited parts journal → IsRenewed parts journal journal

-- A section of an output that shows what it closes with is right.
abbrev pub AreRightSections : Type 0
AreRightSections = (basis : Basis) (s : Section) (f : Function) → slice_get basis.parts.functions s.output ≡ Some f → ShowsClose basis.rails f s s.close → IsRightSection basis s

-- An answer for an output that is good and listed behind the parts before it is right.
abbrev pub AreRightAnswers : Type 0
AreRightAnswers = (c : Claim) (f : Function) → IsPla c.basis.parts → IsOf c f → Good c.basis.rails c.block.output f c.before c.block.answer → Listed c.basis.rails c.block.output f c.before c.block.answer c.block.proofs → IsRightAnswer c

-- Behind parts that are right, sections of an output that show what they close with, and its answer, good and listed, are right too.
abbrev pub AddsRight : Type 0
AddsRight =
    (basis : Basis) (before more : List Part) (block : BlockParts) (f : Function) → IsPla basis.parts → AreRight basis before → All (IsSection (λ s. s.output ≡ block.output)) more
    → IsOf (record { basis = basis; before = before ++ more; block = block }) f → AreReplayed basis.rails block.output f (before ++ more)
    → Good basis.rails block.output f (before ++ more) block.answer → Listed basis.rails block.output f (before ++ more) block.answer block.proofs → AreRight basis (before ++ (more ++ Answered block ∷ []))
