-- A text gives one answer, and gives some.
use Rattle.std.proofs.Common.{◌≡◌, ◌≢◌, ℕ, suc, ◌+◌, ◌≤◌, ◌<◌, ◌⊎◌, inl, inr, List, [], ◌∷◌, ◌++◌, length, drop, refl, sym, ap, ◌∙◌, subst, arith, append_assoc, codes, Result, Ok, Err}
use Rattle.std.specs.Prelude.{All, MatchResult, IfOk, IfErr, IsErrOf}
use Rattle.std.specs.Result.{IsOkAnd}
use Rattle.std.proofs.lemmas.List.{append-nil}
use Rattle.report_text.specs.Bounds.{IsBlock, IsReport}
use Rattle.report_text.specs.Expected.{Expected, Leads, Stops, Misses, GoesOn, RunsOut, refusal_of, block_expected, report_expected}
use Rattle.report_text.specs.Pieces.{Without, feeds}
use Rattle.report_text.specs.Reading.{Gives, IsRefused, IsTrailing, IsFaulty, IsCutShort, HasBlock, IsBlockFault, AreBlockLines, AreReportLines, seen}
use Rattle.report_text.specs.Report.{BlockParts, ReportParts, Kind, Line, text_of, block_lines, block_text, report_lines, report_text, parts_of_block, parts_of_report}
use Rattle.report_text.specs.Report.Kind.{OfTitle, OfInputs, OfRails, OfHeading, OfCells, OfProofs}
use Rattle.report_text.specs.declared.answer.Block.{Block as ReadBlock}
use Rattle.report_text.specs.declared.answer.Report.{Report}
use Rattle.report_text.specs.declared.answer.Version.{Version}
use Rattle.report_text.specs.declared.block.BlockFault.{BlockFault}
use Rattle.report_text.specs.declared.block.BlockFault.TheVariants as faults
use Rattle.report_text.specs.declared.report.ReportRefusal.{ReportRefusal}
use Rattle.report_text.specs.declared.report.ReportRefusal.TheVariants.{Header, Inputs, Rails, Block, Grid, Proofs, Trailing, Truncated, NoMemory}
use Rattle.report_text.proofs.InnerLaws.{not_title}
use Rattle.report_text.proofs.MemberLaws.{said_block, said_report, block_lead, report_lead, text_of-block, text_of-report}
use Rattle.report_text.proofs.SameLaws.{same_block, same_report}
use Rattle.report_text.proofs.StopLaws.{Halts, halts, halts_misses, leads_wide, refusal_for, one_stop, whole_or_stop, same_whole, some_end, IsWhole, IsWithin}
use Rattle.report_text.proofs.WholeLaws.{faulty_of, misses_of, cut_short_of, runs_out_of}

-- ---- reports

trailing_of : (text : List ℕ) (n : ℕ) → GoesOn report_expected text 1 n → IsTrailing text n
trailing_of text n m =
    let found = said_report.of m.lines m.leads in
    record {
      report = found.0;
      more = m.more;
      is_report = found.1;
      text_is = m.text_is ∙ ap (λ z. z ++ m.more) (ap text_of found.2 ∙ text_of-report found.0);
      some = m.some;
      number_is = m.number_is ∙ ap (λ z. 1 + length z) found.2;
    }

pub refused_of : (text : List ℕ) (refusal : ReportRefusal) → refusal ≢ NoMemory → Stops report_expected text 1 refusal → IsRefused text refusal
refused_of text (Header n) ne m = faulty_of AreReportLines report_expected OfTitle text 1 n said_report m
refused_of text (Inputs n) ne m = faulty_of AreReportLines report_expected OfInputs text 1 n said_report m
refused_of text (Rails n) ne m = faulty_of AreReportLines report_expected OfRails text 1 n said_report m
refused_of text (Block n) ne m = faulty_of AreReportLines report_expected OfHeading text 1 n said_report m
refused_of text (Grid n) ne m = faulty_of AreReportLines report_expected OfCells text 1 n said_report m
refused_of text (Proofs n) ne m = faulty_of AreReportLines report_expected OfProofs text 1 n said_report m
refused_of text (Trailing n) ne m = trailing_of text n m
refused_of text (Truncated n) ne m = cut_short_of AreReportLines report_expected text 1 n said_report m
refused_of text NoMemory ne m = absurd (ne refl)

stops_of : (text : List ℕ) (refusal : ReportRefusal) → IsRefused text refusal → Stops report_expected text 1 refusal
stops_of text (Header n) m = misses_of AreReportLines report_expected OfTitle text 1 n said_report m
stops_of text (Inputs n) m = misses_of AreReportLines report_expected OfInputs text 1 n said_report m
stops_of text (Rails n) m = misses_of AreReportLines report_expected OfRails text 1 n said_report m
stops_of text (Block n) m = misses_of AreReportLines report_expected OfHeading text 1 n said_report m
stops_of text (Grid n) m = misses_of AreReportLines report_expected OfCells text 1 n said_report m
stops_of text (Proofs n) m = misses_of AreReportLines report_expected OfProofs text 1 n said_report m
stops_of text (Trailing n) m = record {
  lines = report_lines m.report;
  more = m.more;
  leads = report_lead m.report m.is_report;
  text_is = m.text_is ∙ ap (λ z. z ++ m.more) (sym (text_of-report m.report));
  some = m.some;
  number_is = m.number_is;
}
stops_of text (Truncated n) m = runs_out_of AreReportLines report_expected text 1 n said_report m
stops_of text NoMemory m = absurd m

memory_or : (e : ReportRefusal) → (e ≡ NoMemory) ⊎ (e ≢ NoMemory)
memory_or (Header n) = inr (λ e. absurd cc)
memory_or (Inputs n) = inr (λ e. absurd cc)
memory_or (Rails n) = inr (λ e. absurd cc)
memory_or (Block n) = inr (λ e. absurd cc)
memory_or (Grid n) = inr (λ e. absurd cc)
memory_or (Proofs n) = inr (λ e. absurd cc)
memory_or (Trailing n) = inr (λ e. absurd cc)
memory_or (Truncated n) = inr (λ e. absurd cc)
memory_or NoMemory = inl refl

refused_other : (text : List ℕ) (e : ReportRefusal) → IsRefused text e → e ≢ NoMemory
refused_other text e h same = subst (IsRefused text) same h

one_refusal : (text : List ℕ) (d e : ReportRefusal) → IsRefused text d → IsRefused text e → d ≡ e
one_refusal text d e x y =
    one_stop report_expected text 1 d e said_report.wide (halts report_expected text 1 d said_report.wide (refused_other text d x) (stops_of text d x)) (halts report_expected text 1 e said_report.wide (refused_other text e y) (stops_of text e y))

report_apart : (text : List ℕ) (r : ReportParts) (e : ReportRefusal) → IsReport r → text ≡ report_text r → IsRefused text e → ⊥
report_apart text r e is text-is h =
    whole_or_stop report_expected text 1 e (report_lines r) [] said_report.wide (report_lead r is) (text-is ∙ sym (text_of-report r) ∙ sym (append-nil (text_of (report_lines r))))
    (halts report_expected text 1 e said_report.wide (refused_other text e h) (stops_of text e h)) (λ n k. refl)

one_report : (r s : ReportParts) → IsReport r → IsReport s → report_text r ≡ report_text s → r ≡ s
one_report r s p q e =
    same_report r s p q (same_whole report_expected (report_lines r) (report_lines s) [] [] said_report.wide (report_lead r p) (report_lead s q) (ap (λ z. z ++ []) (text_of-report r ∙ e ∙ sym (text_of-report s)))).0

pub one_answer : (text : List ℕ) (a b : Result ReportParts ReportRefusal) → Gives text a → Gives text b → a ≡ b
one_answer text (Ok r) (Ok s) x y = ap Ok (one_report r s x.0 y.0 (sym x.1 ∙ y.1))
one_answer text (Ok r) (Err e) x y = absurd (report_apart text r e x.0 x.1 y)
one_answer text (Err d) (Ok s) x y = absurd (report_apart text s d y.0 y.1 x)
one_answer text (Err d) (Err e) x y = ap Err (one_refusal text d e x y)

within_other : (e : ReportRefusal) → IsWithin e → e ≢ NoMemory
within_other e h same = subst IsWithin same h

more_or_none : (bytes : List ℕ) → (bytes ≡ []) ⊎ (bytes ≢ [])
more_or_none [] = inl refl
more_or_none (b ∷ bytes) = inr (λ e. absurd cc)

pub some_answer : (text : List ℕ) → (given : Result ReportParts ReportRefusal) × Gives text given
some_answer text = elim (some_end (length text) report_expected text 1 (omega arith)) [
  | inr (e, within, stops) ↦ (Err e, refused_of text e (within_other e within) stops)
  | inl whole ↦
      let found = said_report.of whole.lines whole.leads in
      elim (more_or_none whole.rest) [
        | inl none ↦ (Ok found.0, (found.1, whole.text_is ∙ ap (λ z. text_of whole.lines ++ z) none ∙ append-nil (text_of whole.lines) ∙ ap text_of found.2 ∙ text_of-report found.0))
        | inr some ↦ (
          Err (Trailing (1 + length whole.lines)),
          refused_of text (Trailing (1 + length whole.lines)) (λ e. absurd cc) (record { lines = whole.lines; more = whole.rest; leads = whole.leads; text_is = whole.text_is; some = some; number_is = refl }),
        )
      ]
]

pub only_answer : (text : List ℕ) (r : Result Report ReportRefusal) → MatchResult r (λ report. Gives text (Ok (parts_of_report report))) (λ refusal. Stops report_expected text 1 refusal)
    → (given : Result ReportParts ReportRefusal) → Gives text given → IsErrOf r NoMemory ⊎ (seen r ≡ given)
only_answer text (Ok report) found given g = inr (one_answer text (Ok (parts_of_report report)) given found g)
only_answer text (Err e) refused given g = elim (memory_or e) [
  | inl memory ↦ inl (ap Err memory)
  | inr other ↦ inr (one_answer text (Err e) given (refused_of text e other refused) g)
]

-- ---- fronts of reports

longer : (kind : Kind) (t m : List ℕ) (n : ℕ) → Misses report_expected kind t 1 n → Misses report_expected kind (t ++ m) 1 n
longer kind t m n x = record {
  front = x.front;
  expected = x.expected;
  later = x.later;
  other = x.other;
  rest = x.rest ++ m;
  leads = x.leads;
  kind_is = x.kind_is;
  text_is = ap (λ z. z ++ m) x.text_is ∙ append_assoc (text_of x.front) (x.other ++ 10 ∷ x.rest) m ∙ ap (λ z. text_of x.front ++ z) (append_assoc x.other (10 ∷ x.rest) m);
  one_line = x.one_line;
  unmet = x.unmet;
  number_is = x.number_is;
}

wrong_behind : (r : ReportParts) (t m : List ℕ) (kind : Kind) (n : ℕ) → IsReport r → report_text r ≡ t ++ m → Misses report_expected kind t 1 n → ⊥
wrong_behind r t m kind n is e x =
    whole_or_stop report_expected (t ++ m) 1 (refusal_for kind n) (report_lines r) [] said_report.wide (report_lead r is) (sym e ∙ sym (text_of-report r) ∙ sym (append-nil (text_of (report_lines r))))
    (halts_misses report_expected kind (t ++ m) 1 n said_report.wide (λ fs lines. leads_wide report_expected fs lines said_report.wide) (longer kind t m n x)) (λ k f. refl)

front_stops : (r : ReportParts) (t m : List ℕ) (e : ReportRefusal) → IsReport r → m ≢ [] → report_text r ≡ t ++ m → IsWithin e → Stops report_expected t 1 e → IsCutShort AreReportLines t 1 (1 + feeds t)
front_stops r t m (Header n) is some e within x = absurd (wrong_behind r t m OfTitle n is e x)
front_stops r t m (Inputs n) is some e within x = absurd (wrong_behind r t m OfInputs n is e x)
front_stops r t m (Rails n) is some e within x = absurd (wrong_behind r t m OfRails n is e x)
front_stops r t m (Block n) is some e within x = absurd (wrong_behind r t m OfHeading n is e x)
front_stops r t m (Grid n) is some e within x = absurd (wrong_behind r t m OfCells n is e x)
front_stops r t m (Proofs n) is some e within x = absurd (wrong_behind r t m OfProofs n is e x)
front_stops r t m (Trailing n) is some e within x = absurd within
front_stops r t m (Truncated n) is some e within x =
    let short = cut_short_of AreReportLines report_expected t 1 n said_report x in subst (IsCutShort AreReportLines t 1) short.number_is short
front_stops r t m NoMemory is some e within x = absurd within

pub front_is_cut_short : (r : ReportParts) (t m : List ℕ) → IsReport r → m ≢ [] → report_text r ≡ t ++ m → IsCutShort AreReportLines t 1 (1 + feeds t)
front_is_cut_short r t m is some e = elim (some_end (length t) report_expected t 1 (omega arith)) [
  | inr (refusal, within, stops) ↦ front_stops r t m refusal is some e within stops
  | inl whole ↦
      let text : text_of (report_lines r) ++ [] ≡ text_of whole.lines ++ (whole.rest ++ m) =
      append-nil (text_of (report_lines r)) ∙ text_of-report r ∙ e ∙ ap (λ z. z ++ m) whole.text_is ∙ append_assoc (text_of whole.lines) whole.rest m in
      let none = (same_whole report_expected (report_lines r) whole.lines [] (whole.rest ++ m) said_report.wide (report_lead r is) whole.leads text).1 in
      absurd (some (nothing_behind whole.rest m (sym none)))
] where
  nothing_behind : (xs ys : List ℕ) → xs ++ ys ≡ [] → ys ≡ []
  nothing_behind [] ys e = e
  nothing_behind (x ∷ xs) ys e = absurd cc

-- ---- blocks

pub fault_of : (v : Version) (text : List ℕ) (first : ℕ) (fault : BlockFault) → fault ≢ faults.NoMemory → Stops (block_expected v) text first (refusal_of fault) → IsBlockFault v text first fault
fault_of v text first (faults.Block n) ne m = faulty_of (AreBlockLines v) (block_expected v) OfHeading text first n (said_block v) m
fault_of v text first (faults.Grid n) ne m = faulty_of (AreBlockLines v) (block_expected v) OfCells text first n (said_block v) m
fault_of v text first (faults.Proofs n) ne m = faulty_of (AreBlockLines v) (block_expected v) OfProofs text first n (said_block v) m
fault_of v text first (faults.Truncated n) ne m = cut_short_of (AreBlockLines v) (block_expected v) text first n (said_block v) m
fault_of v text first faults.NoMemory ne m = absurd (ne refl)

fault_stops : (v : Version) (text : List ℕ) (first : ℕ) (fault : BlockFault) → IsBlockFault v text first fault → Stops (block_expected v) text first (refusal_of fault)
fault_stops v text first (faults.Block n) m = misses_of (AreBlockLines v) (block_expected v) OfHeading text first n (said_block v) m
fault_stops v text first (faults.Grid n) m = misses_of (AreBlockLines v) (block_expected v) OfCells text first n (said_block v) m
fault_stops v text first (faults.Proofs n) m = misses_of (AreBlockLines v) (block_expected v) OfProofs text first n (said_block v) m
fault_stops v text first (faults.Truncated n) m = runs_out_of (AreBlockLines v) (block_expected v) text first n (said_block v) m
fault_stops v text first faults.NoMemory m = absurd m

memory_or_fault : (e : BlockFault) → (e ≡ faults.NoMemory) ⊎ (e ≢ faults.NoMemory)
memory_or_fault (faults.Block n) = inr (λ e. absurd cc)
memory_or_fault (faults.Grid n) = inr (λ e. absurd cc)
memory_or_fault (faults.Proofs n) = inr (λ e. absurd cc)
memory_or_fault (faults.Truncated n) = inr (λ e. absurd cc)
memory_or_fault faults.NoMemory = inl refl

abbrev back : ReportRefusal → BlockFault
back (Header n) = faults.NoMemory
back (Inputs n) = faults.NoMemory
back (Rails n) = faults.NoMemory
back (Block n) = faults.Block n
back (Grid n) = faults.Grid n
back (Proofs n) = faults.Proofs n
back (Trailing n) = faults.NoMemory
back (Truncated n) = faults.Truncated n
back NoMemory = faults.NoMemory

back_there : (fault : BlockFault) → back (refusal_of fault) ≡ fault
back_there (faults.Block n) = refl
back_there (faults.Grid n) = refl
back_there (faults.Proofs n) = refl
back_there (faults.Truncated n) = refl
back_there faults.NoMemory = refl

refusal_other : (v : Version) (text : List ℕ) (first : ℕ) (fault : BlockFault) → IsBlockFault v text first fault → refusal_of fault ≢ NoMemory
refusal_other v text first (faults.Block n) m = λ e. absurd cc
refusal_other v text first (faults.Grid n) m = λ e. absurd cc
refusal_other v text first (faults.Proofs n) m = λ e. absurd cc
refusal_other v text first (faults.Truncated n) m = λ e. absurd cc
refusal_other v text first faults.NoMemory m = absurd m

not_trailing : (fault : BlockFault) (n : ℕ) → refusal_of fault ≡ Trailing n → ⊥
not_trailing (faults.Block m) n e = absurd cc
not_trailing (faults.Grid m) n e = absurd cc
not_trailing (faults.Proofs m) n e = absurd cc
not_trailing (faults.Truncated m) n e = absurd cc
not_trailing faults.NoMemory n e = absurd cc

fault_halts : (v : Version) (text : List ℕ) (first : ℕ) (d : BlockFault) → IsBlockFault v text first d → Halts (block_expected v) text first (refusal_of d)
fault_halts v text first d x = halts (block_expected v) text first (refusal_of d) (said_block v).wide (refusal_other v text first d x) (fault_stops v text first d x)

pub one_fault : (v : Version) (text : List ℕ) (first : ℕ) (d e : BlockFault) → IsBlockFault v text first d → IsBlockFault v text first e → d ≡ e
one_fault v text first d e x y =
    sym (back_there d) ∙ ap back (one_stop (block_expected v) text first (refusal_of d) (refusal_of e) (said_block v).wide (fault_halts v text first d x) (fault_halts v text first e y)) ∙ back_there e

block_front : (v : Version) (text : List ℕ) (b : BlockParts) (rest : List ℕ) → HasBlock v text b rest → text ≡ text_of (block_lines v b) ++ rest
block_front v text b rest h = h.text ∙ ap (λ z. z ++ rest) (sym (text_of-block v b))

pub block_apart : (v : Version) (text : List ℕ) (first : ℕ) (b : BlockParts) (rest : List ℕ) (e : BlockFault) → HasBlock v text b rest → IsBlockFault v text first e → ⊥
block_apart v text first b rest e h f =
    whole_or_stop (block_expected v) text first (refusal_of e) (block_lines v b) rest (said_block v).wide (block_lead v b h.is_block) (block_front v text b rest h) (fault_halts v text first e f) (λ n k. absurd (not_trailing e n k))

pub one_block : (v : Version) (text : List ℕ) (b c : BlockParts) (r s : List ℕ) → HasBlock v text b r → HasBlock v text c s → (b ≡ c) × (r ≡ s)
one_block v text b c r s p q =
    let same = same_whole (block_expected v) (block_lines v b) (block_lines v c) r s (said_block v).wide (block_lead v b p.is_block) (block_lead v c q.is_block) (sym (block_front v text b r p) ∙ block_front v text c s q) in
    (same_block v b c p.is_block q.is_block same.0, same.1)

-- where a block is expected no other refusal comes
block_refusal : (v : Version) (text : List ℕ) (first : ℕ) (e : ReportRefusal) → IsWithin e → Stops (block_expected v) text first e → (d : BlockFault) × IsBlockFault v text first d
block_refusal v text first (Header n) within x = absurd (not_title v OfTitle n text first tt x)
block_refusal v text first (Inputs n) within x = absurd (not_title v OfInputs n text first tt x)
block_refusal v text first (Rails n) within x = absurd (not_title v OfRails n text first tt x)
block_refusal v text first (Block n) within x = (faults.Block n, fault_of v text first (faults.Block n) (λ e. absurd cc) x)
block_refusal v text first (Grid n) within x = (faults.Grid n, fault_of v text first (faults.Grid n) (λ e. absurd cc) x)
block_refusal v text first (Proofs n) within x = (faults.Proofs n, fault_of v text first (faults.Proofs n) (λ e. absurd cc) x)
block_refusal v text first (Trailing n) within x = absurd within
block_refusal v text first (Truncated n) within x = (faults.Truncated n, fault_of v text first (faults.Truncated n) (λ e. absurd cc) x)
block_refusal v text first NoMemory within x = absurd within

pub some_block : (v : Version) (text : List ℕ) (first : ℕ) → ((b : BlockParts) × (r : List ℕ) × HasBlock v text b r) ⊎ ((e : BlockFault) × IsBlockFault v text first e)
some_block v text first = elim (some_end (length text) (block_expected v) text first (omega arith)) [
  | inl whole ↦
      let found = (said_block v).of whole.lines whole.leads in
      inl (found.0, whole.rest, record { is_block = found.1; text = whole.text_is ∙ ap (λ z. z ++ whole.rest) (ap text_of found.2 ∙ text_of-block v found.0) })
  | inr (e, within, stops) ↦ inr (block_refusal v text first e within stops)
]

-- what a reader of blocks answered is what the bytes give, unless memory ran out
pub only_block : (v : Version) (text : List ℕ) (first : ℕ) (e : BlockFault) (block : BlockParts) (rest : List ℕ) → Stops (block_expected v) text first (refusal_of e) → HasBlock v text block rest → (e ≡ faults.NoMemory) ⊎ ⊥
only_block v text first e block rest stops h = elim (memory_or_fault e) [
  | inl memory ↦ inl memory
  | inr other ↦ absurd (block_apart v text first block rest e h (fault_of v text first e other stops))
]

pub only_fault : (v : Version) (text : List ℕ) (first : ℕ) (e given : BlockFault) → Stops (block_expected v) text first (refusal_of e) → IsBlockFault v text first given → (e ≡ faults.NoMemory) ⊎ (e ≡ given)
only_fault v text first e given stops h = elim (memory_or_fault e) [
  | inl memory ↦ inl memory
  | inr other ↦ inr (one_fault v text first e given (fault_of v text first e other stops) h)
]

pub refused_ok : (text : List ℕ) (r : Result Report ReportRefusal) → MatchResult r (λ report. Gives text (Ok (parts_of_report report))) (λ refusal. Stops report_expected text 1 refusal) → IfErr r (λ refusal. refusal ≢ NoMemory → IsRefused text refusal)
refused_ok text (Ok report) found = tt
refused_ok text (Err e) refused = λ other. refused_of text e other refused
