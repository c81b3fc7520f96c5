-- Told inputs come to a judgement.
use Rattle.std.proofs.Common.{◌≡◌, ◌⊎◌, ℕ, ◌<◌, ◌≤◌, List, length, slice_get, inl, inr, refl, sym, subst, Some, None, Ok, Err, arith, drop, Bool, true, false}
use Rattle.std.specs.Prelude.{IsSomeAnd}
use Rattle.std.specs.declared.option.Option.{Option}
use Rattle.std.specs.declared.result.Result.{Result}
use Rattle.audit_core.specs.Audit.{Audited}
use Rattle.clause_core.specs.Formula.{Formula}
use Rattle.clause_core.specs.CnfRead.{cnf_of}
use Rattle.clause_core.specs.declared.refusal.CnfRefusal.{CnfRefusal}
use Rattle.cube_core.specs.Function.{Function}
use Rattle.cube_core.proofs.Tools.{below_or_above}
use Rattle.defect_array.specs.Reading.{Reads as ReadsArray}
use Rattle.defect_array.proofs.Tools.{either as array_or_none}
use Rattle.journal_text.specs.Bounds.{IsJournal}
use Rattle.journal_text.specs.Parts.{JournalParts}
use Rattle.journal_text.specs.Text.{journal_text}
use Rattle.journal_text.specs.Reading.{Gives as GivesJournal}
use Rattle.journal_text.specs.declared.refusal.JournalRefusal.{JournalRefusal}
use Rattle.journal_text.proofs.Tools.{some_answer as some_journal_answer}
use Rattle.lattice_grid.specs.Defects.{Defects}
use Rattle.lattice_grid.specs.Rectangle.{Size}
use Rattle.lrat_replay.specs.LratRead.{lrat_of}
use Rattle.lrat_replay.specs.Book.{start}
use Rattle.lrat_replay.specs.declared.line.Line.{Line}
use Rattle.lrat_replay.specs.declared.refusal.LratRefusal.{LratRefusal}
use Rattle.pla_reader.specs.Parts.{Parts}
use Rattle.pla_reader.specs.Reading.{Reads, Refused as IsPlaRefused}
use Rattle.pla_reader.proofs.Tools.{some_reading}
use Rattle.report_text.specs.Reading.{Gives}
use Rattle.report_text.specs.Report.{ReportParts}
use Rattle.report_text.specs.declared.report.ReportRefusal.{ReportRefusal}
use Rattle.report_text.proofs.Tools.{some_answer}
use Rattle.trial_text.specs.Reading.{IsMadeRead, parts_made}
use Rattle.four_lattice.specs.Check.{IsAccepted, adds_empty, end_line}
use Rattle.four_lattice.specs.Judge.{Texts, Task, Judgement, Refused, Accepted, Encoding, Realised, Refuted, Confirmed, Renewed, Minima, Placed, Tried, Stage, Test, Last, TextRefuses, as_pla, as_cnf, as_array, IsArrayRefused, IsCnfRefused, IsLratRefused, IsReportRefused, IsJournalRefused, LacksOutput, Denies, Unconfirms, LinesRefuse, EncodingComes, VerifyComes, CheckComes, JournalComes, MapComes, TrialComes, JobComes}
use Rattle.four_lattice.specs.Lattices.{IsThere}
use Rattle.four_lattice.specs.Uses.{most_side_bytes}
use Rattle.four_lattice.specs.Verified.{IsVerified}
use Rattle.four_lattice.specs.declared.ending.InputRefusal.TheVariants.{NoSuchOutput}
use Rattle.four_lattice.specs.declared.ending.SideRefusal.{SideRefusal}
use Rattle.four_lattice.specs.declared.ending.SideRefusal.TheVariants as side
use Rattle.four_lattice.specs.declared.ending.Unconfirmed.TheVariants.{Denied, Step, Unfinished, Unaudited}
use Rattle.four_lattice.specs.declared.ending.Refusal.{Refusal}
use Rattle.four_lattice.specs.declared.ending.Refusal.TheVariants as refusal
use Rattle.four_lattice.specs.declared.words.Job.{Job}
use Rattle.four_lattice.specs.declared.words.Job.TheVariants as jobs
use Rattle.judged_texts.specs.Some.{IsSomeJudgement, IsPlainJudgement}
use Rattle.judged_texts.proofs.Surely.{Surely, surely, next, Sense, plainly, denied_twice}
use Rattle.judged_texts.proofs.Audit.{audited_or_refused}
use Rattle.judged_texts.proofs.Check.{accepted_or_first}
use Rattle.judged_texts.proofs.Failing.{HasFunctions, read_functions}
use Rattle.judged_texts.proofs.Made.{made}
use Rattle.judged_texts.proofs.Verify.{verified_or_denied}

-- a side file is too long, or it is read or refused
some_side : {X : Type 0} (bytes : List ℕ) (IsRefusedText : List ℕ → SideRefusal → Type 0) (Gives' : List ℕ → X → Type 0) → (most_side_bytes < length bytes → IsRefusedText bytes side.TooLong)
    → (length bytes ≤ most_side_bytes → ((x : X) × Gives' bytes x) ⊎ ((r : SideRefusal) × IsRefusedText bytes r)) → ((x : X) × ((length bytes ≤ most_side_bytes) × Gives' bytes x)) ⊎ ((r : SideRefusal) × IsRefusedText bytes r)
some_side bytes IsRefusedText Gives' long short = elim (below_or_above most_side_bytes (length bytes)) [
  | inl more ↦ inr (side.TooLong, long more)
  | inr few ↦ elim (short few) [ inl g ↦ inl (g.0, (few, g.1)) | inr r ↦ inr r ]
]

report_read : (bytes : List ℕ) → ((x : ReportParts) × ((length bytes ≤ most_side_bytes) × Gives bytes (Ok x))) ⊎ ((r : SideRefusal) × IsReportRefused bytes r)
report_read bytes = some_side bytes IsReportRefused (λ t x. Gives t (Ok x)) (λ long. long) (λ few. report_given (some_answer bytes) few) where
  report_given : ((given : Result ReportParts ReportRefusal) × Gives bytes given) → length bytes ≤ most_side_bytes → ((x : ReportParts) × Gives bytes (Ok x)) ⊎ ((r : SideRefusal) × IsReportRefused bytes r)
  report_given (Ok x, g) few = inl (x, g)
  report_given (Err r, g) few = inr (side.Report r, (few, g))

journal_read : (bytes : List ℕ) → ((x : JournalParts) × ((length bytes ≤ most_side_bytes) × GivesJournal bytes (Ok x))) ⊎ ((r : SideRefusal) × IsJournalRefused bytes r)
journal_read bytes = some_side bytes IsJournalRefused (λ t x. GivesJournal t (Ok x)) (λ long. long) (λ few. journal_given (some_journal_answer bytes) few) where
  journal_given : ((given : Result JournalParts JournalRefusal) × GivesJournal bytes given) → length bytes ≤ most_side_bytes → ((x : JournalParts) × GivesJournal bytes (Ok x)) ⊎ ((r : SideRefusal) × IsJournalRefused bytes r)
  journal_given (Ok x, g) few = inl (x, g)
  journal_given (Err r, g) few = inr (side.Journal r, (few, g))

lrat_read : (bytes : List ℕ) → ((x : List Line) × ((length bytes ≤ most_side_bytes) × (lrat_of bytes ≡ Ok x))) ⊎ ((r : SideRefusal) × IsLratRefused bytes r)
lrat_read bytes = some_side bytes IsLratRefused (λ t x. lrat_of t ≡ Ok x) (λ long. long) (λ few. lrat_given (lrat_of bytes) refl few) where
  lrat_given : (given : Result (List Line) LratRefusal) → lrat_of bytes ≡ given → length bytes ≤ most_side_bytes → ((x : List Line) × (lrat_of bytes ≡ Ok x)) ⊎ ((r : SideRefusal) × IsLratRefused bytes r)
  lrat_given (Ok x) e few = inl (x, e)
  lrat_given (Err r) e few = inr (side.Lrat r, (few, e))

cnf_read : (bytes : List ℕ) → ((x : Formula) × (cnf_of bytes ≡ Ok x)) ⊎ ((r : CnfRefusal) × IsCnfRefused bytes r)
cnf_read bytes = cnf_given (cnf_of bytes) refl where
  cnf_given : (given : Result Formula CnfRefusal) → cnf_of bytes ≡ given → ((x : Formula) × (cnf_of bytes ≡ Ok x)) ⊎ ((r : CnfRefusal) × IsCnfRefused bytes r)
  cnf_given (Ok x) e = inl (x, e)
  cnf_given (Err r) e = inr (r, e)

-- some judgement is come to, in the sense of M
abbrev Judged : (Type 0 → Type 0) → (Judgement → Type 0) → Type 0
Judged M J = M ((j : Judgement) × J j)

-- the chosen output is there or not
there_or_not : (output : Option ℕ) (many : ℕ) → IsThere output many ⊎ (IsThere output many → ⊥)
there_or_not None many = inl tt
there_or_not (Some k) many = elim (below_or_above k many) [ inl less ↦ inl less | inr more ↦ inr (λ less. omega (arith, less, more)) ]

-- What is so of judgements that there are, and of those that cannot be lacking.
module _ (M : Type 0 → Type 0) (sense : Sense M) where
  -- A told text is refused or gives a value, and from each value that it gives there is a judgement.
  some_stage : {R X : Type 0} (told : Option (List ℕ)) (bytes : List ℕ) (at : R → Refusal) (IsRefusedText : List ℕ → R → Type 0) (Gives' : List ℕ → X → Type 0) (after : X → Judgement → Type 0) → told ≡ Some bytes
      → ((x : X) × Gives' bytes x) ⊎ ((r : R) × IsRefusedText bytes r) → ((x : X) → Gives' bytes x → Judged M (after x))
      → Judged M (Stage X (TextRefuses IsSomeAnd told at IsRefusedText) (λ x. IsSomeAnd told (λ t. Gives' t x)) after)
  some_stage told bytes at IsRefusedText Gives' after is either rest = elim either [
    | inl g ↦ sense.then (rest g.0 g.1) (λ j. sense.given (j.0, inr (g.0, subst (λ o. IsSomeAnd o (λ t. Gives' t g.0)) (sym is) g.1, j.1)))
    | inr r ↦ sense.given (Refused (at r.0), inl (at r.0, (r.0, subst (λ o. IsSomeAnd o (λ t. IsRefusedText t r.0)) (sym is) r.1, refl), refl))
  ]

  some_last : (output : Option ℕ) (parts : Parts) (task : Task) → Judged M (Last (LacksOutput output parts) (IsThere output parts.outputs) task)
  some_last output parts task = elim (there_or_not output parts.outputs) [
    | inl there ↦ sense.given (Accepted task, inr (there, refl))
    | inr not ↦ sense.given (Refused (refusal.Input NoSuchOutput), inl (refusal.Input NoSuchOutput, (not, refl), refl))
  ]

  -- what is known of a PLA's text
  some_pla : (told : Option (List ℕ)) (bytes : List ℕ) (after : Parts → Judgement → Type 0) → told ≡ Some bytes → ((x : Parts) → Reads bytes x → Judged M (after x))
      → Judged M (Stage Parts (TextRefuses IsSomeAnd told as_pla IsPlaRefused) (λ x. IsSomeAnd told (λ t. Reads t x)) after)
  some_pla told bytes after is rest = some_stage told bytes as_pla IsPlaRefused Reads after is (some_reading bytes) rest

  some_outputs : (output : Option ℕ) (task : Parts → Task) (x : Texts) (pla : List ℕ) → x.pla ≡ Some pla
      → Judged M (Stage Parts (TextRefuses IsSomeAnd x.pla as_pla IsPlaRefused) (λ parts. IsSomeAnd x.pla (λ t. Reads t parts)) (λ parts. Last (LacksOutput output parts) (IsThere output parts.outputs) (task parts)))
  some_outputs output task x pla p = some_pla x.pla pla (λ parts. Last (LacksOutput output parts) (IsThere output parts.outputs) (task parts)) p (λ parts read. some_last output parts (task parts))

  -- the function of an output, where there is one
  some_function : (o : Option Function) (size : Size)
      → Judged M (Stage Function (λ r. (o ≡ None) × (r ≡ refusal.Input NoSuchOutput)) (λ f. o ≡ Some f) (λ f j. j ≡ Accepted (Encoding size f)))
  some_function None size = sense.given (Refused (refusal.Input NoSuchOutput), inl (refusal.Input NoSuchOutput, (refl, refl), refl))
  some_function (Some f) size = sense.given (Accepted (Encoding size f), inr (f, refl, refl))

  some_encoding : (output : ℕ) (size : Size) (x : Texts) (pla : List ℕ) → x.pla ≡ Some pla → Judged M (EncodingComes IsSomeAnd output size x)
  some_encoding output size x pla p =
      some_pla x.pla pla (λ parts. Stage Function (λ r. (slice_get parts.functions output ≡ None) × (r ≡ refusal.Input NoSuchOutput)) (λ f. slice_get parts.functions output ≡ Some f) (λ f j. j ≡ Accepted (Encoding size f))) p
      (λ parts read. some_function (slice_get parts.functions output) size)

  some_map : (budget output : ℕ) (x : Texts) (pla : List ℕ) → x.pla ≡ Some pla → Judged M (MapComes IsSomeAnd budget output x)
  some_map budget output x pla p =
      let array = λ (parts : Parts). Stage Defects (TextRefuses IsSomeAnd x.pla as_array (IsArrayRefused parts)) (λ a. IsSomeAnd x.pla (λ t. ReadsArray (drop parts.rest t) a)) (λ a j. j ≡ Accepted (Placed budget output a parts)) in
      some_pla x.pla pla (λ parts. Test (LacksOutput (Some output) parts) (IsThere (Some output) parts.outputs) (array parts)) p
      (λ parts read. elim (there_or_not (Some output) parts.outputs) [
        | inr not ↦ sense.given (Refused (refusal.Input NoSuchOutput), inl (refusal.Input NoSuchOutput, (not, refl), refl))
        | inl there ↦ sense.then (some_stage x.pla pla as_array (IsArrayRefused parts) (λ t a. ReadsArray (drop parts.rest t) a) (λ a j. j ≡ Accepted (Placed budget output a parts)) p (array_or_none (drop parts.rest pla))
            (λ a reads. sense.given (Accepted (Placed budget output a parts), refl)))
            (λ j. sense.given (j.0, inr (there, j.1)))
      ])

  some_trial : IsMadeRead → (number budget : ℕ) → Judged M (TrialComes number budget)
  some_trial read number budget = sense.given (Accepted (Tried number budget (parts_made number)), (parts_made number, read number, refl))

  -- the end of a command that tests what it read: refused, or it holds
  tested : (R : Refusal → Type 0) (Holds : Type 0) (task : Task) → Holds ⊎ ((r : Refusal) × R r) → Judged M (Last R Holds task)
  tested R Holds task told = elim told [ inl holds ↦ sense.given (Accepted task, inr (holds, refl)) | inr r ↦ sense.given (Refused r.0, inl (r.0, r.1, refl)) ]

  some_check : (x : Texts) (pla text : List ℕ) → x.pla ≡ Some pla → x.side ≡ Some text → Judged M (CheckComes IsSomeAnd x)
  some_check x pla text p s =
      let last = λ (formula : Formula) (lines : List Line). Last (LinesRefuse IsSomeAnd x formula lines) (IsAccepted formula lines × (adds_empty formula lines ≡ true)) Refuted in
      let gives = λ (t : List ℕ) (lines : List Line). (length t ≤ most_side_bytes) × (lrat_of t ≡ Ok lines) in
      some_stage x.pla pla as_cnf IsCnfRefused (λ t formula. cnf_of t ≡ Ok formula)
      (λ formula. Stage (List Line) (TextRefuses IsSomeAnd x.side refusal.Side IsLratRefused) (λ lines. IsSomeAnd x.side (λ t. gives t lines)) (last formula)) p (cnf_read pla)
      (λ formula read. some_stage x.side text refusal.Side IsLratRefused gives (last formula) s (lrat_read text)
      (λ lines read_so. tested (LinesRefuse IsSomeAnd x formula lines) (IsAccepted formula lines × (adds_empty formula lines ≡ true)) Refuted (replayed formula lines))) where
        end : IsSomeAnd x.side (λ t. end_line text ≡ end_line t)
        end = subst (λ o. IsSomeAnd o (λ t. end_line text ≡ end_line t)) (sym s) refl

        emptied : (formula : Formula) (lines : List Line) (b : Bool) → adds_empty formula lines ≡ b → IsAccepted formula lines
            → (IsAccepted formula lines × (adds_empty formula lines ≡ true)) ⊎ ((r : Refusal) × LinesRefuse IsSomeAnd x formula lines r)
        emptied formula lines true e accepted = inl (accepted, e)
        emptied formula lines false e accepted = inr (refusal.Unconfirmed (Unfinished (end_line text)), (end_line text, end, inr (accepted, e, refl)))

        replayed : (formula : Formula) (lines : List Line) → (IsAccepted formula lines × (adds_empty formula lines ≡ true)) ⊎ ((r : Refusal) × LinesRefuse IsSomeAnd x formula lines r)
        replayed formula lines = elim (accepted_or_first (start formula) lines) [
          | inl accepted ↦ emptied formula lines (adds_empty formula lines) refl accepted
          | inr first ↦ inr (refusal.Unconfirmed (Step first.0 first.1), (end_line text, end, inl (first.0, first.1, first.2, refl)))
        ]

  some_verify : (x : Texts) (pla text : List ℕ) → x.pla ≡ Some pla → x.side ≡ Some text → Judged M (VerifyComes IsSomeAnd x)
  some_verify x pla text p s =
      let last = λ (parts : Parts) (report : ReportParts). Last (Denies parts report) (IsVerified parts report) (Realised report) in
      let gives = λ (t : List ℕ) (report : ReportParts). (length t ≤ most_side_bytes) × Gives t (Ok report) in
      some_pla x.pla pla (λ parts. Stage ReportParts (TextRefuses IsSomeAnd x.side refusal.Side IsReportRefused) (λ report. IsSomeAnd x.side (λ t. gives t report)) (last parts)) p
      (λ parts read. some_stage x.side text refusal.Side IsReportRefused gives (last parts) s (report_read text)
      (λ report spelled. elim (verified_or_denied parts report (read_functions pla parts read) spelled.1.0) [
        | inl right ↦ tested (Denies parts report) (IsVerified parts report) (Realised report) (inl right)
        | inr denied ↦ tested (Denies parts report) (IsVerified parts report) (Realised report) (inr (refusal.Unconfirmed (Denied denied.0), (denied.0, denied.1, refl)))
      ]))

-- a journal that was read is right, or it is refused at a first part
audited : (parts : Parts) (journal : JournalParts) (text : List ℕ) → HasFunctions parts → length text ≤ most_side_bytes → IsJournal journal → text ≡ journal_text journal
    → Surely (Audited parts journal ⊎ ((r : Refusal) × Unconfirms parts journal r))
audited parts journal text has few is spells =
    let m = made journal is (subst (λ (t : List ℕ). length t ≤ most_side_bytes) spells few) in
    next (audited_or_refused parts m.read has m.answered) (λ c. elim c [
      | inl right ↦ surely (inl (subst (Audited parts) m.same right))
      | inr r ↦ surely (inr (refusal.Unconfirmed (Unaudited r.0), (r.0, record { read = m.read; is_journal = m.same; lines = m.lines; refused = r.1 }, refl)))
    ])

some_journal : (task : Parts → JournalParts → Task) (x : Texts) (pla text : List ℕ) → x.pla ≡ Some pla → x.side ≡ Some text → Judged Surely (JournalComes IsSomeAnd task x)
some_journal task x pla text p s =
    let last = λ (parts : Parts) (journal : JournalParts). Last (Unconfirms parts journal) (Audited parts journal) (task parts journal) in
    let gives = λ (t : List ℕ) (journal : JournalParts). (length t ≤ most_side_bytes) × GivesJournal t (Ok journal) in
    some_pla Surely denied_twice x.pla pla (λ parts. Stage JournalParts (TextRefuses IsSomeAnd x.side refusal.Side IsJournalRefused) (λ journal. IsSomeAnd x.side (λ t. gives t journal)) (last parts)) p
    (λ parts read. some_stage Surely denied_twice x.side text refusal.Side IsJournalRefused gives (last parts) s (journal_read text)
    (λ journal given. next (audited parts journal text (read_functions pla parts read) given.0 given.1.0 given.1.1) (tested Surely denied_twice (Unconfirms parts journal) (Audited parts journal) (task parts journal))))

-- each made text is read
module _ (read : IsMadeRead) where
  some_job : (job : Job) (x : Texts) (pla text : List ℕ) → x.pla ≡ Some pla → x.side ≡ Some text → Judged Surely (JobComes IsSomeAnd job x)
  some_job (jobs.Pairs output) x pla text p s = some_outputs Surely denied_twice output _ x pla p
  some_job (jobs.Dual output) x pla text p s = some_outputs Surely denied_twice output _ x pla p
  some_job (jobs.Cnf output size) x pla text p s = some_encoding Surely denied_twice output size x pla p
  some_job jobs.Verify x pla text p s = some_verify Surely denied_twice x pla text p s
  some_job jobs.Check x pla text p s = some_check Surely denied_twice x pla text p s
  some_job jobs.Audit x pla text p s = some_journal (λ parts journal. Confirmed journal) x pla text p s
  some_job jobs.Renew x pla text p s = some_journal Renewed x pla text p s
  some_job (jobs.Synth conflicts output rails) x pla text p s = some_outputs Surely denied_twice output (Minima rails conflicts output) x pla p
  some_job (jobs.Map conflicts output) x pla text p s = some_map Surely denied_twice conflicts output x pla p
  some_job (jobs.Trial conflicts number) x pla text p s = some_trial Surely denied_twice read number conflicts

  pub some_judgement : IsSomeJudgement
  some_judgement None x pla text p s none = none (Refused refusal.Words) refl
  some_judgement (Some job) x pla text p s none = some_job job x pla text p s (λ j. none j.0 j.1)

  -- what is decided
  pub plain_judgement : IsPlainJudgement
  plain_judgement (jobs.Pairs output) x pla text plain p s = some_outputs (λ P. P) plainly output _ x pla p
  plain_judgement (jobs.Dual output) x pla text plain p s = some_outputs (λ P. P) plainly output _ x pla p
  plain_judgement (jobs.Cnf output size) x pla text plain p s = some_encoding (λ P. P) plainly output size x pla p
  plain_judgement jobs.Verify x pla text plain p s = some_verify (λ P. P) plainly x pla text p s
  plain_judgement jobs.Check x pla text plain p s = some_check (λ P. P) plainly x pla text p s
  plain_judgement jobs.Audit x pla text plain p s = absurd plain
  plain_judgement jobs.Renew x pla text plain p s = absurd plain
  plain_judgement (jobs.Synth conflicts output rails) x pla text plain p s = some_outputs (λ P. P) plainly output (Minima rails conflicts output) x pla p
  plain_judgement (jobs.Map conflicts output) x pla text plain p s = some_map (λ P. P) plainly conflicts output x pla p
  plain_judgement (jobs.Trial conflicts number) x pla text plain p s = some_trial (λ P. P) plainly read number conflicts
