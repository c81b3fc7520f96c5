-- Told texts come to one judgement. Of two readings the one is of texts that are told, the other of texts where they are told.
use Rattle.std.proofs.Common.{◌≡◌, ℕ, ◌<◌, ◌≤◌, inl, inr, List, length, sym, ap, ◌∙◌, subst, arith, true, Some, Ok, Err, refl}
use Rattle.std.specs.Prelude.{IfSome, IsSomeAnd, slice_get, drop, None}
use Rattle.cube_core.specs.Function.{Function}
use Rattle.defect_array.specs.Reading.{Reads as ReadsArray}
use Rattle.defect_array.proofs.Tools.{one_reading, one_refusal as one_array_refusal, never_both}
use Rattle.lattice_grid.specs.Defects.{Defects}
use Rattle.lattice_grid.specs.Rectangle.{Size}
use Rattle.std.specs.declared.option.Option.{Option}
use Rattle.std.proofs.lemmas.Bool.{true≢false}
use Rattle.audit_core.specs.Audit.{Audited}
use Rattle.clause_core.specs.Formula.{Formula}
use Rattle.clause_core.specs.CnfRead.{cnf_of}
use Rattle.clause_core.specs.declared.refusal.CnfRefusal.{CnfRefusal}
use Rattle.journal_text.specs.Parts.{JournalParts}
use Rattle.journal_text.specs.Reading.{Gives as GivesJournal, IsRefused as IsNoJournal}
use Rattle.journal_text.specs.declared.refusal.JournalRefusal.{JournalRefusal}
use Rattle.journal_text.proofs.Tools.{one_answer as one_journal_answer}
use Rattle.lrat_replay.specs.declared.line.Line.{Line}
use Rattle.lrat_replay.specs.declared.refusal.LratRefusal.{LratRefusal}
use Rattle.lrat_replay.specs.Book.{start}
use Rattle.lrat_replay.specs.LratRead.{lrat_of}
use Rattle.pla_reader.specs.Parts.{Parts}
use Rattle.pla_reader.specs.Reading.{Reads, Refused as IsPlaRefused}
use Rattle.pla_reader.proofs.Tools.{Reads-once, Refused-once, Reads-or_Refused}
use Rattle.report_text.specs.declared.report.ReportRefusal.{ReportRefusal}
use Rattle.trial_text.specs.Made.{made}
use Rattle.report_text.specs.Reading.{Gives, IsRefused}
use Rattle.report_text.specs.Report.{ReportParts}
use Rattle.report_text.proofs.Tools.{one_answer}
use Rattle.four_lattice.specs.Check.{IsAccepted, adds_empty, end_line}
use Rattle.four_lattice.specs.Judge.{Texts, Task, Judgement, Refused, Accepted, Lattices, Encoding, Realised, Refuted, Confirmed, Minima, Placed, Tried, Stage, Test, Last, TextRefuses, as_pla, as_cnf, as_array, IsArrayRefused, ArrayRefuses, ArrayGives, IsCnfRefused, IsLratRefused, IsReportRefused, IsJournalRefused, JournalRefuses, JournalGives, Unconfirms, AuditComes, LratRefuses, LratGives, ReportRefuses, ReportGives, LacksOutput, LacksFunction, Denies, LinesStop, LinesRefuse, LatticesCome, EncodingComes, VerifyComes, CheckComes, SynthComes, MapComes, JobComes, Comes, Renewed, JournalComes}
use Rattle.four_lattice.specs.Laws.{IsOneJudgement, IsConfirmed}
use Rattle.four_lattice.specs.Uses.{most_side_bytes}
use Rattle.four_lattice.specs.Lattices.{IsThere}
use Rattle.four_lattice.specs.Verified.{IsVerified}
use Rattle.four_lattice.specs.declared.lattices.Construction.{Construction}
use Rattle.four_lattice.specs.declared.ending.SideRefusal.{SideRefusal}
use Rattle.four_lattice.specs.declared.ending.SideRefusal.TheVariants as side
use Rattle.four_lattice.specs.declared.ending.Unconfirmed.TheVariants.{Denied, Step, Unfinished, Unaudited}
use Rattle.four_lattice.specs.declared.ending.Refusal.{Refusal}
use Rattle.four_lattice.specs.declared.ending.Refusal.TheVariants as refusal
use Rattle.four_lattice.specs.declared.words.Job.{Job}
use Rattle.four_lattice.specs.declared.words.Job.TheVariants as jobs
use Rattle.four_lattice.proofs.AuditedLaws.{has_functions, one_unaudited, no_unaudited}
use Rattle.four_lattice.proofs.VerifiedLaws.{one_denial, no_denial}
use Rattle.four_lattice.proofs.ReplayedLaws.{one_first_fault, no_first_fault}

-- One judgement of a stage: one refusal, no refusal where there is a value, one value, and one judgement from there.
stage_one_of : (X : Type 0) (R R' : Refusal → Type 0) (G G' : X → Type 0) (next next' : X → Judgement → Type 0)
    → ((a b : Refusal) → R a → R' b → a ≡ b) → ((a : Refusal) (x : X) → R a → G' x → ⊥) → ((x : X) (a : Refusal) → G x → R' a → ⊥) → ((x y : X) → G x → G' y → x ≡ y)
    → ((x : X) → G x → (i j : Judgement) → next x i → next' x j → i ≡ j)
    → (i j : Judgement) → Stage X R G next i → Stage X R' G' next' j → i ≡ j
stage_one_of X R R' G G' next next' one none none' same rest i j a b = elim a [
  | inl h ↦ elim b [ inl k ↦ h.2 ∙ ap Refused (one h.0 k.0 h.1 k.1) ∙ sym k.2 | inr k ↦ absurd (none h.0 k.0 h.1 k.1) ]
  | inr h ↦ elim b [ inl k ↦ absurd (none' h.0 k.0 h.1 k.1) | inr k ↦ rest h.0 h.1 i j h.2 (subst (λ x. next' x j) (sym (same h.0 k.0 h.1 k.1)) k.2) ]
]

stage_one : (X : Type 0) (R R' : Refusal → Type 0) (G G' : X → Type 0) (next next' : X → Judgement → Type 0)
    → ((a b : Refusal) → R a → R' b → a ≡ b) → ((a : Refusal) (x : X) → R a → G' x → ⊥) → ((x : X) (a : Refusal) → G x → R' a → ⊥) → ((x y : X) → G x → G' y → x ≡ y)
    → ((x : X) (i j : Judgement) → next x i → next' x j → i ≡ j)
    → (i j : Judgement) → Stage X R G next i → Stage X R' G' next' j → i ≡ j
stage_one X R R' G G' next next' one none none' same rest = stage_one_of X R R' G G' next next' one none none' same (λ x g. rest x)

last_one : (R R' : Refusal → Type 0) (Holds : Type 0) (task : Task) → ((a b : Refusal) → R a → R' b → a ≡ b) → ((a : Refusal) → R a → Holds → ⊥) → ((a : Refusal) → R' a → Holds → ⊥)
    → (i j : Judgement) → Last R Holds task i → Last R' Holds task j → i ≡ j
last_one R R' Holds task one none none' i j a b = elim a [
  | inl h ↦ elim b [ inl k ↦ h.2 ∙ ap Refused (one h.0 k.0 h.1 k.1) ∙ sym k.2 | inr k ↦ absurd (none h.0 h.1 k.0) ]
  | inr h ↦ elim b [ inl k ↦ absurd (none' k.0 k.1 h.0) | inr k ↦ h.1 ∙ sym k.1 ]
]

test_one : (R R' : Refusal → Type 0) (Holds : Type 0) (next next' : Judgement → Type 0) → ((a b : Refusal) → R a → R' b → a ≡ b) → ((a : Refusal) → R a → Holds → ⊥) → ((a : Refusal) → R' a → Holds → ⊥)
    → ((i j : Judgement) → next i → next' j → i ≡ j) → (i j : Judgement) → Test R Holds next i → Test R' Holds next' j → i ≡ j
test_one R R' Holds next next' one none none' rest i j a b = elim a [
  | inl h ↦ elim b [ inl k ↦ h.2 ∙ ap Refused (one h.0 k.0 h.1 k.1) ∙ sym k.2 | inr k ↦ absurd (none h.0 h.1 k.0) ]
  | inr h ↦ elim b [ inl k ↦ absurd (none' k.0 k.1 h.0) | inr k ↦ rest i j h.1 k.1 ]
]

-- What two readings of one text say together, where the one is that it is told.
abbrev Together : (Option (List ℕ) → (List ℕ → Type 0) → Type 0) → Type 1
Together Of = (Z : Type 0) (told : Option (List ℕ)) (P Q : List ℕ → Type 0) → ((bytes : List ℕ) → P bytes → Q bytes → Z) → IsSomeAnd told P → Of told Q → Z

module _ (Of : Option (List ℕ) → (List ℕ → Type 0) → Type 0) (both : Together Of) where
  -- one text, read in two ways: one refusal, no refusal where there is a value, one value
  module _ {R X : Type 0} (told : Option (List ℕ)) (at : R → Refusal) (IsRefusedText : List ℕ → R → Type 0) (Gives' : List ℕ → X → Type 0)
      (one : (bytes : List ℕ) (a b : R) → IsRefusedText bytes a → IsRefusedText bytes b → a ≡ b)
      (none : (bytes : List ℕ) (a : R) (x : X) → IsRefusedText bytes a → Gives' bytes x → ⊥)
      (same : (bytes : List ℕ) (x y : X) → Gives' bytes x → Gives' bytes y → x ≡ y) where
    one_refusal : (a b : Refusal) → TextRefuses IsSomeAnd told at IsRefusedText a → TextRefuses Of told at IsRefusedText b → a ≡ b
    one_refusal a b p q = p.2 ∙ ap at (both _ told (λ t. IsRefusedText t p.0) (λ t. IsRefusedText t q.0) (λ t h k. one t p.0 q.0 h k) p.1 q.1) ∙ sym q.2

    no_value : (a : Refusal) (x : X) → TextRefuses IsSomeAnd told at IsRefusedText a → Of told (λ t. Gives' t x) → ⊥
    no_value a x p q = both _ told (λ t. IsRefusedText t p.0) (λ t. Gives' t x) (λ t h k. none t p.0 x h k) p.1 q

    no_refusal : (x : X) (a : Refusal) → IsSomeAnd told (λ t. Gives' t x) → TextRefuses Of told at IsRefusedText a → ⊥
    no_refusal x a p q = both _ told (λ t. Gives' t x) (λ t. IsRefusedText t q.0) (λ t h k. none t q.0 x k h) p q.1

    one_value : (x y : X) → IsSomeAnd told (λ t. Gives' t x) → Of told (λ t. Gives' t y) → x ≡ y
    one_value x y p q = both _ told (λ t. Gives' t x) (λ t. Gives' t y) (λ t h k. same t x y h k) p q

    text_one_of : (next next' : X → Judgement → Type 0) → ((x : X) → IsSomeAnd told (λ t. Gives' t x) → (i j : Judgement) → next x i → next' x j → i ≡ j)
        → (i j : Judgement) → Stage X (TextRefuses IsSomeAnd told at IsRefusedText) (λ x. IsSomeAnd told (λ t. Gives' t x)) next i
        → Stage X (TextRefuses Of told at IsRefusedText) (λ x. Of told (λ t. Gives' t x)) next' j → i ≡ j
    text_one_of next next' rest =
        stage_one_of X (TextRefuses IsSomeAnd told at IsRefusedText) (TextRefuses Of told at IsRefusedText) (λ x. IsSomeAnd told (λ t. Gives' t x)) (λ x. Of told (λ t. Gives' t x))
        next next' one_refusal no_value no_refusal one_value rest

    text_one : (next next' : X → Judgement → Type 0) → ((x : X) (i j : Judgement) → next x i → next' x j → i ≡ j)
        → (i j : Judgement) → Stage X (TextRefuses IsSomeAnd told at IsRefusedText) (λ x. IsSomeAnd told (λ t. Gives' t x)) next i
        → Stage X (TextRefuses Of told at IsRefusedText) (λ x. Of told (λ t. Gives' t x)) next' j → i ≡ j
    text_one next next' rest =
        stage_one X (TextRefuses IsSomeAnd told at IsRefusedText) (TextRefuses Of told at IsRefusedText) (λ x. IsSomeAnd told (λ t. Gives' t x)) (λ x. Of told (λ t. Gives' t x))
        next next' one_refusal no_value no_refusal one_value rest

  -- the text of a PLA
  pla_one : (told : Option (List ℕ)) (next next' : Parts → Judgement → Type 0) → ((x : Parts) (i j : Judgement) → next x i → next' x j → i ≡ j)
      → (i j : Judgement) → Stage Parts (TextRefuses IsSomeAnd told as_pla IsPlaRefused) (λ x. IsSomeAnd told (λ t. Reads t x)) next i
      → Stage Parts (TextRefuses Of told as_pla IsPlaRefused) (λ x. Of told (λ t. Reads t x)) next' j → i ≡ j
  pla_one told next next' rest = text_one told as_pla IsPlaRefused Reads (λ t a b h k. Refused-once t a b h k) (λ t a x h k. Reads-or_Refused t x a k h) (λ t x y h k. Reads-once t x y h k) next next' rest

  -- what follows may ask that it was read
  pla_one_of : (told : Option (List ℕ)) (next next' : Parts → Judgement → Type 0) → ((x : Parts) → IsSomeAnd told (λ t. Reads t x) → (i j : Judgement) → next x i → next' x j → i ≡ j)
      → (i j : Judgement) → Stage Parts (TextRefuses IsSomeAnd told as_pla IsPlaRefused) (λ x. IsSomeAnd told (λ t. Reads t x)) next i
      → Stage Parts (TextRefuses Of told as_pla IsPlaRefused) (λ x. Of told (λ t. Reads t x)) next' j → i ≡ j
  pla_one_of told next next' rest = text_one_of told as_pla IsPlaRefused Reads (λ t a b h k. Refused-once t a b h k) (λ t a x h k. Reads-or_Refused t x a k h) (λ t x y h k. Reads-once t x y h k) next next' rest

  -- the text of an array behind a PLA
  array_one : (told : Option (List ℕ)) (parts : Parts) (next next' : Defects → Judgement → Type 0) → ((x : Defects) (i j : Judgement) → next x i → next' x j → i ≡ j)
      → (i j : Judgement) → Stage Defects (TextRefuses IsSomeAnd told as_array (IsArrayRefused parts)) (λ x. IsSomeAnd told (λ t. ReadsArray (drop parts.rest t) x)) next i
      → Stage Defects (TextRefuses Of told as_array (IsArrayRefused parts)) (λ x. Of told (λ t. ReadsArray (drop parts.rest t) x)) next' j → i ≡ j
  array_one told parts next next' rest =
      text_one told as_array (IsArrayRefused parts) (λ t x. ReadsArray (drop parts.rest t) x) (λ t a b h k. one_array_refusal (drop parts.rest t) a b h k)
      (λ t a x h k. never_both (drop parts.rest t) x a k h) (λ t x y h k. one_reading (drop parts.rest t) x y h k) next next' rest

  -- the text of a formula
  same_refusal : (text : List ℕ) (a b : CnfRefusal) → cnf_of text ≡ Err a → cnf_of text ≡ Err b → a ≡ b
  same_refusal text a b p q = cc

  differ : (text : List ℕ) (refusal : CnfRefusal) (formula : Formula) → cnf_of text ≡ Err refusal → cnf_of text ≡ Ok formula → ⊥
  differ text refusal formula p q = cc

  same_formula : (text : List ℕ) (a b : Formula) → cnf_of text ≡ Ok a → cnf_of text ≡ Ok b → a ≡ b
  same_formula text a b p q = cc

  cnf_one : (told : Option (List ℕ)) (next next' : Formula → Judgement → Type 0) → ((x : Formula) (i j : Judgement) → next x i → next' x j → i ≡ j)
      → (i j : Judgement) → Stage Formula (TextRefuses IsSomeAnd told as_cnf IsCnfRefused) (λ x. IsSomeAnd told (λ t. cnf_of t ≡ Ok x)) next i
      → Stage Formula (TextRefuses Of told as_cnf IsCnfRefused) (λ x. Of told (λ t. cnf_of t ≡ Ok x)) next' j → i ≡ j
  cnf_one told next next' rest = text_one told as_cnf IsCnfRefused (λ t x. cnf_of t ≡ Ok x) same_refusal differ same_formula next next' rest

  -- a side file: too long, refused, or one value
  long_and_short : {Z : Type 0} (n : ℕ) → 536870912 < n → n ≤ 536870912 → Z
  long_and_short n long short = absurd (omega (arith, long, short))

  same_lrat_refusal : (text : List ℕ) (a b : LratRefusal) → lrat_of text ≡ Err a → lrat_of text ≡ Err b → a ≡ b
  same_lrat_refusal text a b p q = cc

  differ_lrat : (text : List ℕ) (lines : List Line) (refusal : LratRefusal) → lrat_of text ≡ Ok lines → lrat_of text ≡ Err refusal → ⊥
  differ_lrat text lines refusal p q = cc

  same_lines : (text : List ℕ) (a b : List Line) → lrat_of text ≡ Ok a → lrat_of text ≡ Ok b → a ≡ b
  same_lines text a b p q = cc

  one_lrat : (text : List ℕ) (a b : SideRefusal) → IsLratRefused text a → IsLratRefused text b → a ≡ b
  one_lrat text side.TooLong side.TooLong h k = refl
  one_lrat text side.TooLong (side.Report b) h k = absurd k
  one_lrat text side.TooLong (side.Lrat b) h k = long_and_short (length text) h k.0
  one_lrat text side.TooLong (side.Journal b) h k = absurd k
  one_lrat text (side.Report a) b h k = absurd h
  one_lrat text (side.Lrat a) side.TooLong h k = long_and_short (length text) k h.0
  one_lrat text (side.Lrat a) (side.Report b) h k = absurd k
  one_lrat text (side.Lrat a) (side.Lrat b) h k = ap side.Lrat (same_lrat_refusal text a b h.1 k.1)
  one_lrat text (side.Lrat a) (side.Journal b) h k = absurd k
  one_lrat text (side.Journal a) b h k = absurd h

  no_lrat : (text : List ℕ) (a : SideRefusal) (lines : List Line) → IsLratRefused text a → (length text ≤ 536870912) × (lrat_of text ≡ Ok lines) → ⊥
  no_lrat text side.TooLong lines h k = long_and_short (length text) h k.0
  no_lrat text (side.Report a) lines h k = h
  no_lrat text (side.Lrat a) lines h k = differ_lrat text lines a k.1 h.1
  no_lrat text (side.Journal a) lines h k = h

  lrat_one : (told : Option (List ℕ)) (next next' : List Line → Judgement → Type 0) → ((x : List Line) (i j : Judgement) → next x i → next' x j → i ≡ j)
      → (i j : Judgement) → Stage (List Line) (TextRefuses IsSomeAnd told refusal.Side IsLratRefused) (λ x. IsSomeAnd told (λ t. (length t ≤ 536870912) × (lrat_of t ≡ Ok x))) next i
      → Stage (List Line) (TextRefuses Of told refusal.Side IsLratRefused) (λ x. Of told (λ t. (length t ≤ 536870912) × (lrat_of t ≡ Ok x))) next' j → i ≡ j
  lrat_one told next next' rest =
      text_one told refusal.Side IsLratRefused (λ t x. (length t ≤ 536870912) × (lrat_of t ≡ Ok x)) one_lrat no_lrat (λ t a b h k. same_lines t a b h.1 k.1) next next' rest

  same_report_refusal : (text : List ℕ) (a b : ReportRefusal) → IsRefused text a → IsRefused text b → a ≡ b
  same_report_refusal text a b p q = let e : Err a ≡ Err b = one_answer text (Err a) (Err b) p q in cc

  differ_report : (text : List ℕ) (report : ReportParts) (refusal : ReportRefusal) → Gives text (Ok report) → IsRefused text refusal → ⊥
  differ_report text report refusal p q = let e : Ok report ≡ Err refusal = one_answer text (Ok report) (Err refusal) p q in cc

  same_report : (text : List ℕ) (a b : ReportParts) → Gives text (Ok a) → Gives text (Ok b) → a ≡ b
  same_report text a b p q = let e : Ok a ≡ Ok b = one_answer text (Ok a) (Ok b) p q in cc

  one_report : (text : List ℕ) (a b : SideRefusal) → IsReportRefused text a → IsReportRefused text b → a ≡ b
  one_report text side.TooLong side.TooLong h k = refl
  one_report text side.TooLong (side.Report b) h k = long_and_short (length text) h k.0
  one_report text side.TooLong (side.Lrat b) h k = absurd k
  one_report text side.TooLong (side.Journal b) h k = absurd k
  one_report text (side.Report a) side.TooLong h k = long_and_short (length text) k h.0
  one_report text (side.Report a) (side.Report b) h k = ap side.Report (same_report_refusal text a b h.1 k.1)
  one_report text (side.Report a) (side.Lrat b) h k = absurd k
  one_report text (side.Report a) (side.Journal b) h k = absurd k
  one_report text (side.Lrat a) b h k = absurd h
  one_report text (side.Journal a) b h k = absurd h

  no_report : (text : List ℕ) (a : SideRefusal) (report : ReportParts) → IsReportRefused text a → (length text ≤ 536870912) × Gives text (Ok report) → ⊥
  no_report text side.TooLong report h k = long_and_short (length text) h k.0
  no_report text (side.Report a) report h k = differ_report text report a k.1 h.1
  no_report text (side.Lrat a) report h k = h
  no_report text (side.Journal a) report h k = h

  report_one : (told : Option (List ℕ)) (next next' : ReportParts → Judgement → Type 0) → ((x : ReportParts) (i j : Judgement) → next x i → next' x j → i ≡ j)
      → (i j : Judgement) → Stage ReportParts (TextRefuses IsSomeAnd told refusal.Side IsReportRefused) (λ x. IsSomeAnd told (λ t. (length t ≤ 536870912) × Gives t (Ok x))) next i
      → Stage ReportParts (TextRefuses Of told refusal.Side IsReportRefused) (λ x. Of told (λ t. (length t ≤ 536870912) × Gives t (Ok x))) next' j → i ≡ j
  report_one told next next' rest =
      text_one told refusal.Side IsReportRefused (λ t x. (length t ≤ 536870912) × Gives t (Ok x)) one_report no_report (λ t a b h k. same_report t a b h.1 k.1) next next' rest

  same_journal_refusal : (text : List ℕ) (a b : JournalRefusal) → IsNoJournal text a → IsNoJournal text b → a ≡ b
  same_journal_refusal text a b p q = let e : Err a ≡ Err b = one_journal_answer text (Err a) (Err b) p q in cc

  differ_journal : (text : List ℕ) (journal : JournalParts) (refusal : JournalRefusal) → GivesJournal text (Ok journal) → IsNoJournal text refusal → ⊥
  differ_journal text journal refusal p q = let e : Ok journal ≡ Err refusal = one_journal_answer text (Ok journal) (Err refusal) p q in cc

  same_journal : (text : List ℕ) (a b : JournalParts) → GivesJournal text (Ok a) → GivesJournal text (Ok b) → a ≡ b
  same_journal text a b p q = let e : Ok a ≡ Ok b = one_journal_answer text (Ok a) (Ok b) p q in cc

  one_journal : (text : List ℕ) (a b : SideRefusal) → IsJournalRefused text a → IsJournalRefused text b → a ≡ b
  one_journal text side.TooLong side.TooLong h k = refl
  one_journal text side.TooLong (side.Report b) h k = absurd k
  one_journal text side.TooLong (side.Lrat b) h k = absurd k
  one_journal text side.TooLong (side.Journal b) h k = long_and_short (length text) h k.0
  one_journal text (side.Report a) b h k = absurd h
  one_journal text (side.Lrat a) b h k = absurd h
  one_journal text (side.Journal a) side.TooLong h k = long_and_short (length text) k h.0
  one_journal text (side.Journal a) (side.Report b) h k = absurd k
  one_journal text (side.Journal a) (side.Lrat b) h k = absurd k
  one_journal text (side.Journal a) (side.Journal b) h k = ap side.Journal (same_journal_refusal text a b h.1 k.1)

  no_journal : (text : List ℕ) (a : SideRefusal) (journal : JournalParts) → IsJournalRefused text a → (length text ≤ 536870912) × GivesJournal text (Ok journal) → ⊥
  no_journal text side.TooLong journal h k = long_and_short (length text) h k.0
  no_journal text (side.Report a) journal h k = h
  no_journal text (side.Lrat a) journal h k = h
  no_journal text (side.Journal a) journal h k = differ_journal text journal a k.1 h.1

  journal_one : (told : Option (List ℕ)) (next next' : JournalParts → Judgement → Type 0) → ((x : JournalParts) (i j : Judgement) → next x i → next' x j → i ≡ j)
      → (i j : Judgement) → Stage JournalParts (TextRefuses IsSomeAnd told refusal.Side IsJournalRefused) (λ x. IsSomeAnd told (λ t. (length t ≤ 536870912) × GivesJournal t (Ok x))) next i
      → Stage JournalParts (TextRefuses Of told refusal.Side IsJournalRefused) (λ x. Of told (λ t. (length t ≤ 536870912) × GivesJournal t (Ok x))) next' j → i ≡ j
  journal_one told next next' rest =
      text_one told refusal.Side IsJournalRefused (λ t x. (length t ≤ 536870912) × GivesJournal t (Ok x)) one_journal no_journal (λ t a b h k. same_journal t a b h.1 k.1) next next' rest

  -- lines are refused in one way
  accepted_and_refused : (formula : Formula) (lines : List Line) (last : ℕ) (a : Refusal) → LinesStop formula lines last a → IsAccepted formula lines × (adds_empty formula lines ≡ true) → ⊥
  accepted_and_refused formula lines last a h k = elim h [ inl x ↦ no_first_fault (start formula) lines x.0 x.1 k.0 x.2 | inr x ↦ true≢false (sym k.1 ∙ x.1) ]

  one_stop : (formula : Formula) (lines : List Line) (n m : ℕ) → n ≡ m → (a b : Refusal) → LinesStop formula lines n a → LinesStop formula lines m b → a ≡ b
  one_stop formula lines n m e a b p q = elim p [
    | inl h ↦ elim q [
      | inl k ↦
          let same = one_first_fault (start formula) lines h.0 k.0 h.1 k.1 h.2 k.2 in
          h.3 ∙ ap (λ f. refusal.Unconfirmed (Step f h.1)) same.0 ∙ ap (λ l. refusal.Unconfirmed (Step k.0 l)) same.1 ∙ sym k.3
      | inr k ↦ absurd (no_first_fault (start formula) lines h.0 h.1 k.0 h.2)
    ]
    | inr h ↦ elim q [
      | inl k ↦ absurd (no_first_fault (start formula) lines k.0 k.1 h.0 k.2)
      | inr k ↦ h.2 ∙ ap (λ l. refusal.Unconfirmed (Unfinished l)) e ∙ sym k.2
    ]
  ]

  one_end : (told : Option (List ℕ)) (n m : ℕ) → IsSomeAnd told (λ t. n ≡ end_line t) → Of told (λ t. m ≡ end_line t) → n ≡ m
  one_end told n m p q = both _ told (λ t. n ≡ end_line t) (λ t. m ≡ end_line t) (λ t h k. h ∙ sym k) p q

  -- each command
  lattices_one : (how : Construction) (output : Option ℕ) (x : Texts) (i j : Judgement) → LatticesCome IsSomeAnd how output x i → LatticesCome Of how output x j → i ≡ j
  lattices_one how output x =
      pla_one x.pla (λ parts. Last (LacksOutput output parts) (IsThere output parts.outputs) (Lattices how output parts)) (λ parts. Last (LacksOutput output parts) (IsThere output parts.outputs) (Lattices how output parts))
      (λ parts. last_one (LacksOutput output parts) (LacksOutput output parts) (IsThere output parts.outputs) (Lattices how output parts) (λ a b h k. h.1 ∙ sym k.1) (λ a h k. h.0 k) (λ a h k. h.0 k))

  synth_one : (rails budget : ℕ) (output : Option ℕ) (x : Texts) (i j : Judgement) → SynthComes IsSomeAnd rails budget output x i → SynthComes Of rails budget output x j → i ≡ j
  synth_one rails budget output x =
      let next = λ (parts : Parts). Last (LacksOutput output parts) (IsThere output parts.outputs) (Minima rails budget output parts) in
      pla_one x.pla next next
      (λ parts. last_one (LacksOutput output parts) (LacksOutput output parts) (IsThere output parts.outputs) (Minima rails budget output parts) (λ a b h k. h.1 ∙ sym k.1) (λ a h k. h.0 k) (λ a h k. h.0 k))

  map_one : (budget output : ℕ) (x : Texts) (i j : Judgement) → MapComes IsSomeAnd budget output x i → MapComes Of budget output x j → i ≡ j
  map_one budget output x =
      let lacks = LacksOutput (Some output) in
      let there = λ (parts : Parts). IsThere (Some output) parts.outputs in
      let last = λ (parts : Parts) (a : Defects) (j : Judgement). j ≡ Accepted (Placed budget output a parts) in
      pla_one x.pla (λ parts. Test (lacks parts) (there parts) (Stage Defects (ArrayRefuses IsSomeAnd x parts) (ArrayGives IsSomeAnd x parts) (last parts)))
      (λ parts. Test (lacks parts) (there parts) (Stage Defects (ArrayRefuses Of x parts) (ArrayGives Of x parts) (last parts)))
      (λ parts. test_one (lacks parts) (lacks parts) (there parts) (Stage Defects (ArrayRefuses IsSomeAnd x parts) (ArrayGives IsSomeAnd x parts) (last parts))
      (Stage Defects (ArrayRefuses Of x parts) (ArrayGives Of x parts) (last parts)) (λ a b h k. h.1 ∙ sym k.1) (λ a h k. h.0 k) (λ a h k. h.0 k)
      (array_one x.pla parts (last parts) (last parts) (λ a i j h k. h ∙ sym k)))

  one_gone : (o : Option Function) (f : Function) → o ≡ None → o ≡ Some f → ⊥
  one_gone o f p q = cc

  one_there : (o : Option Function) (f g : Function) → o ≡ Some f → o ≡ Some g → f ≡ g
  one_there o f g p q = cc

  encoding_one : (output : ℕ) (size : Size) (x : Texts) (i j : Judgement) → EncodingComes IsSomeAnd output size x i → EncodingComes Of output size x j → i ≡ j
  encoding_one output size x =
      let next = λ (parts : Parts). Stage Function (LacksFunction output parts) (λ f. slice_get parts.functions output ≡ Some f) (λ f j. j ≡ Accepted (Encoding size f)) in
      pla_one x.pla next next
      (λ parts. stage_one Function (LacksFunction output parts) (LacksFunction output parts) (λ f. slice_get parts.functions output ≡ Some f) (λ f. slice_get parts.functions output ≡ Some f)
      (λ f j. j ≡ Accepted (Encoding size f)) (λ f j. j ≡ Accepted (Encoding size f)) (λ a b h k. h.1 ∙ sym k.1) (λ a f h k. one_gone (slice_get parts.functions output) f h.0 k)
      (λ f a h k. one_gone (slice_get parts.functions output) f k.0 h) (λ f g h k. one_there (slice_get parts.functions output) f g h k) (λ f i j h k. h ∙ sym k))

  verify_one : (x : Texts) (i j : Judgement) → VerifyComes IsSomeAnd x i → VerifyComes Of x j → i ≡ j
  verify_one x =
      pla_one x.pla (λ parts. Stage ReportParts (ReportRefuses IsSomeAnd x) (ReportGives IsSomeAnd x) (λ report. Last (Denies parts report) (IsVerified parts report) (Realised report)))
      (λ parts. Stage ReportParts (ReportRefuses Of x) (ReportGives Of x) (λ report. Last (Denies parts report) (IsVerified parts report) (Realised report)))
      (λ parts. report_one x.side (λ report. Last (Denies parts report) (IsVerified parts report) (Realised report)) (λ report. Last (Denies parts report) (IsVerified parts report) (Realised report))
      (λ report. last_one (Denies parts report) (Denies parts report) (IsVerified parts report) (Realised report)
      (λ a b h k. h.2 ∙ ap (λ r. refusal.Unconfirmed (Denied r)) (one_denial parts report h.0 k.0 h.1 k.1) ∙ sym k.2) (λ a h k. no_denial parts report h.0 k h.1) (λ a h k. no_denial parts report h.0 k h.1)))

  check_one : (x : Texts) (i j : Judgement) → CheckComes IsSomeAnd x i → CheckComes Of x j → i ≡ j
  check_one x =
      cnf_one x.pla (λ formula. Stage (List Line) (LratRefuses IsSomeAnd x) (LratGives IsSomeAnd x) (λ lines. Last (LinesRefuse IsSomeAnd x formula lines) (IsAccepted formula lines × (adds_empty formula lines ≡ true)) Refuted))
      (λ formula. Stage (List Line) (LratRefuses Of x) (LratGives Of x) (λ lines. Last (LinesRefuse Of x formula lines) (IsAccepted formula lines × (adds_empty formula lines ≡ true)) Refuted))
      (λ formula. lrat_one x.side (λ lines. Last (LinesRefuse IsSomeAnd x formula lines) (IsAccepted formula lines × (adds_empty formula lines ≡ true)) Refuted)
      (λ lines. Last (LinesRefuse Of x formula lines) (IsAccepted formula lines × (adds_empty formula lines ≡ true)) Refuted)
      (λ lines. last_one (LinesRefuse IsSomeAnd x formula lines) (LinesRefuse Of x formula lines) (IsAccepted formula lines × (adds_empty formula lines ≡ true)) Refuted
      (λ a b h k. one_stop formula lines h.0 k.0 (one_end x.side h.0 k.0 h.1 k.1) a b h.2 k.2) (λ a h k. accepted_and_refused formula lines h.0 a h.2 k) (λ a h k. accepted_and_refused formula lines h.0 a h.2 k)))

  journal_tested : (task : Parts → JournalParts → Task) (x : Texts) (i j : Judgement) → JournalComes IsSomeAnd task x i → JournalComes Of task x j → i ≡ j
  journal_tested task x =
      pla_one_of x.pla (λ parts. Stage JournalParts (JournalRefuses IsSomeAnd x) (JournalGives IsSomeAnd x) (λ journal. Last (Unconfirms parts journal) (Audited parts journal) (task parts journal)))
      (λ parts. Stage JournalParts (JournalRefuses Of x) (JournalGives Of x) (λ journal. Last (Unconfirms parts journal) (Audited parts journal) (task parts journal)))
      (λ parts read. journal_one x.side (λ journal. Last (Unconfirms parts journal) (Audited parts journal) (task parts journal)) (λ journal. Last (Unconfirms parts journal) (Audited parts journal) (task parts journal))
      (λ journal. last_one (Unconfirms parts journal) (Unconfirms parts journal) (Audited parts journal) (task parts journal)
      (λ a b h k. h.2 ∙ ap (λ r. refusal.Unconfirmed (Unaudited r)) (one_unaudited parts journal (has_functions x.pla parts read) h.0 k.0 h.1 k.1) ∙ sym k.2)
      (λ a h k. no_unaudited parts journal (has_functions x.pla parts read) h.0 h.1 k) (λ a h k. no_unaudited parts journal (has_functions x.pla parts read) h.0 h.1 k)))

  job_one : (job : Job) (x : Texts) (i j : Judgement) → JobComes IsSomeAnd job x i → JobComes Of job x j → i ≡ j
  job_one (jobs.Pairs output) x i j h k = lattices_one _ output x i j h k
  job_one (jobs.Dual output) x i j h k = lattices_one _ output x i j h k
  job_one (jobs.Cnf output size) x i j h k = encoding_one output size x i j h k
  job_one jobs.Verify x i j h k = verify_one x i j h k
  job_one jobs.Check x i j h k = check_one x i j h k
  job_one jobs.Audit x i j h k = journal_tested (λ parts journal. Confirmed journal) x i j h k
  job_one jobs.Renew x i j h k = journal_tested Renewed x i j h k
  job_one (jobs.Synth conflicts output rails) x i j h k = synth_one rails conflicts output x i j h k
  job_one (jobs.Map conflicts output) x i j h k = map_one conflicts output x i j h k
  job_one (jobs.Trial conflicts number) x i j h k = h.2 ∙ ap (λ parts. Accepted (Tried number conflicts parts)) (Reads-once (made number) h.0 k.0 h.1 k.1) ∙ sym k.2

  -- words and texts
  one_of : (asked : Option Job) (x : Texts) (i j : Judgement) → Comes IsSomeAnd asked x i → Comes Of asked x j → i ≡ j
  one_of None x i j h k = h ∙ sym k
  one_of (Some job) x i j h k = job_one job x i j h k

-- where it is told
where_told : Together IfSome
where_told Z None P Q meet p q = absurd p
where_told Z (Some bytes) P Q meet p q = meet bytes p q

-- it is told
is_told : Together IsSomeAnd
is_told Z None P Q meet p q = absurd p
is_told Z (Some bytes) P Q meet p q = meet bytes p q

-- what is told, and what holds where it is told
pub judged_once : (asked : Option Job) (x : Texts) (i j : Judgement) → Comes IsSomeAnd asked x i → Comes IfSome asked x j → i ≡ j
judged_once = one_of IfSome where_told

pub one_judgement : IsOneJudgement
one_judgement = one_of IsSomeAnd is_told

pub is_confirmed : IsConfirmed
is_confirmed x parts journal pla side few is audited =
    let gives : JournalGives IsSomeAnd x journal = subst (λ (o : Option (List ℕ)). IsSomeAnd o (λ bytes. (length bytes ≤ most_side_bytes) × GivesJournal bytes (Ok journal))) (sym side) (few, (is, refl)) in
    inr (parts, pla, inr (journal, gives, inr (audited, refl)))
