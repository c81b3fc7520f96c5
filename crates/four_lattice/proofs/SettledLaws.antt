-- What the answers of a run say of told texts, and of refused words.
use Rattle.std.proofs.Common.{◌≡◌, ◌⊎◌, inl, inr, refl, sym, ap, ◌∙◌, subst, true, false, Bool, Some, None}
use Rattle.std.specs.Prelude.{IfSome}
use Rattle.std.specs.declared.option.Option.{Option}
use Rattle.four_lattice.specs.Ending.{status_of, refusal_status, note_text}
use Rattle.four_lattice.specs.Devices.{Change}
use Rattle.std.specs.Prelude.{List, slice_get}
use Rattle.std.proofs.lemmas.Bool.{true≢false}
use Rattle.audit_core.specs.Audit.{Audited}
use Rattle.clause_core.specs.Formula.{Formula}
use Rattle.cube_core.specs.Function.{Function}
use Rattle.journal_text.specs.Parts.{JournalParts}
use Rattle.lattice_grid.specs.Defects.{Defects}
use Rattle.lrat_replay.specs.declared.line.Line.{Line}
use Rattle.pla_reader.specs.Parts.{Parts}
use Rattle.report_text.specs.Report.{ReportParts}
use Rattle.four_lattice.specs.Check.{IsAccepted, adds_empty}
use Rattle.four_lattice.specs.Judge.{Texts, Task, Judgement, Refused as Refuses, Accepted, Lattices, Encoding, Realised, Refuted, Confirmed, Minima, Placed, Tried, Stage, Test, Last, ArrayRefuses, ArrayGives, PlaRefuses, PlaGives, CnfRefuses, CnfGives, LratRefuses, LratGives, ReportRefuses, ReportGives, LacksOutput, LacksFunction, Denies, LinesRefuse, JournalRefuses, JournalGives, Unconfirms, Comes, JobComes, Renewed, JournalComes}
use Rattle.four_lattice.specs.Lattices.{IsThere}
use Rattle.four_lattice.specs.Verified.{IsVerified}
use Rattle.four_lattice.specs.declared.lattices.Construction.TheVariants as construction
use Rattle.four_lattice.specs.declared.ending.InputRefusal.{InputRefusal}
use Rattle.four_lattice.specs.declared.ending.SideRefusal.{SideRefusal}
use Rattle.four_lattice.specs.declared.ending.Unconfirmed.{Unconfirmed}
use Rattle.four_lattice.specs.Run.{Devices, texts, IsBlank, HasWriteFault, Works, Ends, Answers, IsNoted, IsCutOff, SettlesRefusal, SettlesTask, IsDone, AreJudged}
use Rattle.four_lattice.specs.Uses.{uses}
use Rattle.four_lattice.specs.Work.{Does}
use Rattle.four_lattice.specs.declared.status.Status.{Status}
use Rattle.four_lattice.specs.declared.status.Status.TheVariants as status
use Rattle.four_lattice.specs.declared.ending.Refusal.{Refusal}
use Rattle.four_lattice.specs.declared.ending.Refusal.TheVariants as refusal
use Rattle.four_lattice.specs.declared.ending.Ending.{Ending}
use Rattle.four_lattice.specs.declared.ending.Ending.TheVariants.{Done, Undecided, Refused, ReadFault, WriteFault, NoMemory}
use Rattle.four_lattice.specs.declared.words.Job.{Job}
use Rattle.four_lattice.specs.declared.words.Job.TheVariants.{Pairs, Dual, Cnf, Verify, Check, Audit, Synth, Map, Renew, Trial}
use Rattle.four_lattice.proofs.JudgeLaws.{judged_once}

refused_apart : (r : Refusal) (task : Task) → Refuses r ≡ Accepted task → ⊥
refused_apart r task e = cc

refused_same : (r s : Refusal) → Refuses r ≡ Refuses s → r ≡ s
refused_same r s e = cc

accepted_same : (t u : Task) → Accepted t ≡ Accepted u → t ≡ u
accepted_same t u e = cc

-- told texts that are refused
pub settles_refusal : (asked : Option Job) (result : Status) (d : Devices) (notes : Change) → Answers asked result d notes → SettlesRefusal asked result d notes
settles_refusal asked result d notes a r told = by_ending a.ending a.status_is a.finishes.ends a.noted where
  no_work : (task : Task) → Comes IfSome asked (texts d) (Accepted task) → ⊥
  no_work task h = refused_apart r task (judged_once asked (texts d) (Refuses r) (Accepted task) told h)

  by_ending : (ending : Ending) → result ≡ status_of ending → Ends (Comes IfSome asked (texts d)) (uses asked) ending d → IsNoted notes (note_text ending)
      → IsCutOff asked result d ⊎ ((result ≡ status_of (Refused r)) × IsBlank d × IsNoted notes (note_text (Refused r)))
  by_ending Done is ends noted = absurd (no_work ends.task ends.accepted)
  by_ending Undecided is ends noted = absurd (no_work ends.task ends.accepted)
  by_ending (Refused s) is ends noted =
      let same : s ≡ r = sym (refused_same r s (judged_once asked (texts d) (Refuses r) (Refuses s) told ends.0)) in
      inr (is ∙ ap (λ x. status_of (Refused x)) same, ends.1, subst (λ x. IsNoted notes (note_text (Refused x))) same noted)
  by_ending ReadFault is ends noted = inl (inr (is, ends.0))
  by_ending WriteFault is ends noted = absurd (no_work ends.1.task ends.1.accepted)
  by_ending NoMemory is ends noted = inl (inl is)

-- told texts that are accepted
pub settles_task : (asked : Option Job) (result : Status) (d : Devices) (notes : Change) → Answers asked result d notes → SettlesTask asked result d
settles_task asked result d notes a task told = by_ending a.ending a.status_is a.finishes.ends where
  same_task : (other : Task) → Comes IfSome asked (texts d) (Accepted other) → other ≡ task
  same_task other h = sym (accepted_same task other (judged_once asked (texts d) (Accepted task) (Accepted other) told h))

  done : (undecided : Bool) → ((undecided ≡ false) × (result ≡ status.Done)) ⊎ ((undecided ≡ true) × (result ≡ status.Undecided))
      → Works (Comes IfSome asked (texts d)) undecided d → IsDone task result d
  done undecided is w = record {
    written = w.written;
    does = subst (λ t. Does t w.written) (same_task w.task w.accepted) w.does;
    out = w.out;
    journal = w.journal;
    status_is = elim is [ inl h ↦ inl (w.decided ∙ h.0, h.1) | inr h ↦ inr (w.decided ∙ h.0, h.1) ];
  }

  by_ending : (ending : Ending) → result ≡ status_of ending → Ends (Comes IfSome asked (texts d)) (uses asked) ending d
      → IsCutOff asked result d ⊎ (((result ≡ status.WriteFault) × HasWriteFault (uses asked) d) ⊎ IsDone task result d)
  by_ending Done is ends = inr (inr (done false (inl (refl, is)) ends))
  by_ending Undecided is ends = inr (inr (done true (inr (refl, is)) ends))
  by_ending (Refused s) is ends = absurd (refused_apart s task (sym (judged_once asked (texts d) (Accepted task) (Refuses s) told ends.0)))
  by_ending ReadFault is ends = inl (inr (is, ends.0))
  by_ending WriteFault is ends = inr (inl (is, ends.0))
  by_ending NoMemory is ends = inl (inl is)

-- No stage of a job refuses its words.
stage_words : (X : Type 0) (R : Refusal → Type 0) (G : X → Type 0) (next : X → Judgement → Type 0) → (R refusal.Words → ⊥) → ((x : X) → next x (Refuses refusal.Words) → ⊥)
    → Stage X R G next (Refuses refusal.Words) → ⊥
stage_words X R G next not_here not_later h = elim h [
  | inl a ↦ not_here (subst R (sym (refused_same refusal.Words a.0 a.2)) a.1)
  | inr b ↦ not_later b.0 b.2
]

last_words : (R : Refusal → Type 0) (Holds : Type 0) (task : Task) → (R refusal.Words → ⊥) → Last R Holds task (Refuses refusal.Words) → ⊥
last_words R Holds task not_here h = elim h [
  | inl a ↦ not_here (subst R (sym (refused_same refusal.Words a.0 a.2)) a.1)
  | inr b ↦ refused_apart refusal.Words task b.1
]

test_words : (R : Refusal → Type 0) (Holds : Type 0) (next : Judgement → Type 0) → (R refusal.Words → ⊥) → (next (Refuses refusal.Words) → ⊥) → Test R Holds next (Refuses refusal.Words) → ⊥
test_words R Holds next not_here not_later h = elim h [
  | inl a ↦ not_here (subst R (sym (refused_same refusal.Words a.0 a.2)) a.1)
  | inr b ↦ not_later b.1
]

not_input : (r : InputRefusal) → refusal.Words ≡ refusal.Input r → ⊥
not_input r e = cc

not_side : (r : SideRefusal) → refusal.Words ≡ refusal.Side r → ⊥
not_side r e = cc

not_unconfirmed : (r : Unconfirmed) → refusal.Words ≡ refusal.Unconfirmed r → ⊥
not_unconfirmed r e = cc

journal_words : (task : Parts → JournalParts → Task) (x : Texts) → JournalComes IfSome task x (Refuses refusal.Words) → ⊥
journal_words task x h =
    stage_words Parts (PlaRefuses IfSome x) (PlaGives IfSome x)
    (λ parts. Stage JournalParts (JournalRefuses IfSome x) (JournalGives IfSome x) (λ journal. Last (Unconfirms parts journal) (Audited parts journal) (task parts journal))) (λ p. not_input _ p.2)
    (λ parts. stage_words JournalParts (JournalRefuses IfSome x) (JournalGives IfSome x) (λ journal. Last (Unconfirms parts journal) (Audited parts journal) (task parts journal)) (λ p. not_side _ p.2)
    (λ journal. last_words (Unconfirms parts journal) (Audited parts journal) (task parts journal) (λ p. not_unconfirmed _ p.2))) h

no_words : (job : Job) (x : Texts) → JobComes IfSome job x (Refuses refusal.Words) → ⊥
no_words (Pairs output) x h =
    stage_words Parts (PlaRefuses IfSome x) (PlaGives IfSome x) (λ parts. Last (LacksOutput output parts) (IsThere output parts.outputs) (Lattices construction.Pairs output parts)) (λ p. not_input _ p.2)
    (λ parts. last_words (LacksOutput output parts) (IsThere output parts.outputs) (Lattices construction.Pairs output parts) (λ p. not_input _ p.1)) h
no_words (Dual output) x h =
    stage_words Parts (PlaRefuses IfSome x) (PlaGives IfSome x) (λ parts. Last (LacksOutput output parts) (IsThere output parts.outputs) (Lattices construction.Dual output parts)) (λ p. not_input _ p.2)
    (λ parts. last_words (LacksOutput output parts) (IsThere output parts.outputs) (Lattices construction.Dual output parts) (λ p. not_input _ p.1)) h
no_words (Cnf output size) x h =
    stage_words Parts (PlaRefuses IfSome x) (PlaGives IfSome x)
    (λ parts. Stage Function (LacksFunction output parts) (λ f. slice_get parts.functions output ≡ Some f) (λ f j. j ≡ Accepted (Encoding size f))) (λ p. not_input _ p.2)
    (λ parts. stage_words Function (LacksFunction output parts) (λ f. slice_get parts.functions output ≡ Some f) (λ f j. j ≡ Accepted (Encoding size f)) (λ p. not_input _ p.1)
    (λ f e. refused_apart refusal.Words (Encoding size f) e)) h
no_words Verify x h =
    stage_words Parts (PlaRefuses IfSome x) (PlaGives IfSome x)
    (λ parts. Stage ReportParts (ReportRefuses IfSome x) (ReportGives IfSome x) (λ report. Last (Denies parts report) (IsVerified parts report) (Realised report))) (λ p. not_input _ p.2)
    (λ parts. stage_words ReportParts (ReportRefuses IfSome x) (ReportGives IfSome x) (λ report. Last (Denies parts report) (IsVerified parts report) (Realised report)) (λ p. not_side _ p.2)
    (λ report. last_words (Denies parts report) (IsVerified parts report) (Realised report) (λ p. not_unconfirmed _ p.2))) h
no_words Check x h =
    stage_words Formula (CnfRefuses IfSome x) (CnfGives IfSome x)
    (λ formula. Stage (List Line) (LratRefuses IfSome x) (LratGives IfSome x) (λ lines. Last (LinesRefuse IfSome x formula lines) (IsAccepted formula lines × (adds_empty formula lines ≡ true)) Refuted)) (λ p. not_input _ p.2)
    (λ formula. stage_words (List Line) (LratRefuses IfSome x) (LratGives IfSome x) (λ lines. Last (LinesRefuse IfSome x formula lines) (IsAccepted formula lines × (adds_empty formula lines ≡ true)) Refuted) (λ p. not_side _ p.2)
    (λ lines. last_words (LinesRefuse IfSome x formula lines) (IsAccepted formula lines × (adds_empty formula lines ≡ true)) Refuted (λ p. elim p.2 [ inl a ↦ not_unconfirmed _ a.3 | inr b ↦ not_unconfirmed _ b.2 ]))) h
no_words Audit x h = journal_words (λ parts journal. Confirmed journal) x h
no_words Renew x h = journal_words Renewed x h
no_words (Synth conflicts output rails) x h =
    let next = λ (parts : Parts). Last (LacksOutput output parts) (IsThere output parts.outputs) (Minima rails conflicts output parts) in
    stage_words Parts (PlaRefuses IfSome x) (PlaGives IfSome x) next (λ p. not_input _ p.2)
    (λ parts. last_words (LacksOutput output parts) (IsThere output parts.outputs) (Minima rails conflicts output parts) (λ p. not_input _ p.1)) h
no_words (Map conflicts output) x h =
    let last = λ (parts : Parts) (a : Defects) (j : Judgement). j ≡ Accepted (Placed conflicts output a parts) in
    let arrays = λ (parts : Parts). Stage Defects (ArrayRefuses IfSome x parts) (ArrayGives IfSome x parts) (last parts) in
    stage_words Parts (PlaRefuses IfSome x) (PlaGives IfSome x) (λ parts. Test (LacksOutput (Some output) parts) (IsThere (Some output) parts.outputs) (arrays parts)) (λ p. not_input _ p.2)
    (λ parts. test_words (LacksOutput (Some output) parts) (IsThere (Some output) parts.outputs) (arrays parts) (λ p. not_input _ p.1)
    (stage_words Defects (ArrayRefuses IfSome x parts) (ArrayGives IfSome x parts) (last parts) (λ p. not_input _ p.2) (λ a e. refused_apart refusal.Words (Placed conflicts output a parts) e))) h
no_words (Trial conflicts number) x h = refused_apart refusal.Words (Tried number conflicts h.0) h.2

refused_words : (asked : Option Job) (x : Texts) → Comes IfSome asked x (Refuses refusal.Words) → asked ≡ None
refused_words None x h = refl
refused_words (Some job) x h = absurd (no_words job x h)

words_status : (r : Refusal) → refusal_status r ≡ status.Words → r ≡ refusal.Words
words_status refusal.Words e = refl
words_status (refusal.Input r) e = absurd cc
words_status (refusal.Side r) e = absurd cc
words_status (refusal.Unconfirmed r) e = absurd cc

-- refused words
pub judged_words : (asked : Option Job) (result : Status) (d : Devices) (notes : Change) → Answers asked result d notes → AreJudged asked result
judged_words asked result d notes a = record {
  refused = λ e. only a.ending (sym a.status_is ∙ e) a.finishes.ends;
  judged = λ none. always a.ending a.status_is (subst (λ o. Ends (Comes IfSome o (texts d)) (uses o) a.ending d) none a.finishes.ends);
} where
  only : (ending : Ending) → status_of ending ≡ status.Words → Ends (Comes IfSome asked (texts d)) (uses asked) ending d → asked ≡ None
  only Done e ends = absurd cc
  only Undecided e ends = absurd cc
  only (Refused r) e ends = refused_words asked (texts d) (subst (λ s. Comes IfSome asked (texts d) (Refuses s)) (words_status r e) ends.0)
  only ReadFault e ends = absurd cc
  only WriteFault e ends = absurd cc
  only NoMemory e ends = absurd cc

  always : (ending : Ending) → result ≡ status_of ending → Ends (Comes IfSome None (texts d)) (uses None) ending d → (result ≡ status.Words) ⊎ (result ≡ status.NoMemory)
  always Done is ends = absurd (refused_apart refusal.Words ends.task (sym ends.accepted))
  always Undecided is ends = absurd (refused_apart refusal.Words ends.task (sym ends.accepted))
  always (Refused r) is ends = inl (is ∙ ap refusal_status (refused_same r refusal.Words ends.0))
  always ReadFault is ends = elim ends.0 [ inl h ↦ absurd (true≢false (sym h.0)) | inr h ↦ absurd (true≢false (sym h.0)) ]
  always WriteFault is ends = absurd (refused_apart refusal.Words ends.1.task (sym ends.1.accepted))
  always NoMemory is ends = inr is
