-- What the tests of `verify`, `check` and `audit` refuse, as refusals of a run, and the texts of `verify` and `audit`.
use Rattle.std.proofs.Common.{◌≡◌, ℕ, suc, ◌++◌, List, [], ◌∷◌, length, refl, sym, ap, ◌∙◌, codes, inl, inr}
use Rattle.std.specs.Fmt.{decimal}
use Rattle.std.proofs.lemmas.List.{length-map}
use Rattle.audit_core.specs.Confirmed.{confirmed_from}
use Rattle.clause_core.specs.Formula.{Formula}
use Rattle.journal_text.specs.Parts.{Part, Question, Answered, JournalParts}
use Rattle.lrat_replay.specs.declared.line.Line.{Line}
use Rattle.pla_reader.specs.Parts.{Parts}
use Rattle.report_text.specs.declared.answer.Report.{Report}
use Rattle.report_text.specs.Report.{ReportParts, parts_of_report, parts_of_block}
use Rattle.four_lattice.specs.Judge.{Denies, LinesStop, Unconfirms}
use Rattle.four_lattice.specs.Synth.{answers_of}
use Rattle.four_lattice.specs.Work.{realised_text, confirmed_text}
use Rattle.four_lattice.specs.declared.ending.Unconfirmed.{Unconfirmed}
use Rattle.four_lattice.specs.declared.ending.Unconfirmed.TheVariants.{Denied, Step, Unfinished, Unaudited}
use Rattle.four_lattice.specs.declared.ending.Refusal.{Refusal}
use Rattle.four_lattice.specs.declared.ending.Refusal.TheVariants as refusal

-- the text with the number of blocks
pub realised_by : (many : ℕ) (report : Report) → many ≡ length report.blocks.items → codes "realised " ++ (decimal many ++ codes "\n") ≡ realised_text (parts_of_report report)
realised_by many report is = ap (λ n. codes "realised " ++ (decimal n ++ codes "\n")) (is ∙ sym (length-map report.blocks.items parts_of_block))

-- a report that does not verify is unconfirmed
pub denial_level : (parts : Parts) (report : ReportParts) (r : Refusal) → Denies parts report r → (x : Unconfirmed) × (r ≡ refusal.Unconfirmed x)
denial_level parts report r h = (Denied h.0, h.2)

-- lines that do not refute the formula are unconfirmed
pub lines_level : (formula : Formula) (lines : List Line) (last : ℕ) (r : Refusal) → LinesStop formula lines last r → (x : Unconfirmed) × (r ≡ refusal.Unconfirmed x)
lines_level formula lines last r h = elim h [ inl a ↦ (Step a.0 a.1, a.3) | inr b ↦ (Unfinished last, b.2) ]

-- the text with the number of answers
pub confirmed_by : (many : ℕ) (journal : JournalParts) → many ≡ length (answers_of journal.parts) → codes "confirmed " ++ (decimal many ++ codes "\n") ≡ confirmed_text journal
confirmed_by many journal is = ap (λ n. codes "confirmed " ++ (decimal n ++ codes "\n")) is

-- each answer of a journal is confirmed, and no more
pub confirmed_many : (place : ℕ) (parts : List Part) → length (confirmed_from place parts) ≡ length (answers_of parts)
confirmed_many place [] = refl
confirmed_many place (Question s ∷ parts) = confirmed_many (suc place) parts
confirmed_many place (Answered block ∷ parts) = ap suc (confirmed_many (suc place) parts)

-- a journal that is not right is unconfirmed
pub audit_level : (parts : Parts) (journal : JournalParts) (r : Refusal) → Unconfirms parts journal r → (x : Unconfirmed) × (r ≡ refusal.Unconfirmed x)
audit_level parts journal r h = (Unaudited h.0, h.2)
