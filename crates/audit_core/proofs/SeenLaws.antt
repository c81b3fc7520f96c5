-- What is kept of parts that are right, after one more part.
use Rattle.std.proofs.Common.{◌≡◌, ◌≢◌, ℕ, suc, ◌+◌, ◌<◌, ◌≤◌, List, [], ◌∷◌, ◌++◌, length, get_or, set, take, drop, map, refl, sym, ap, ◌∙◌, subst, arith, inl, inr, length-append, drop-cons, codes, Some}
use Rattle.std.specs.Prelude.{All, slice_index_or}
use Rattle.std.proofs.lemmas.Bool.{cases_order}
use Rattle.std.proofs.lemmas.List.{take-append-drop, length-map, get_or_append_left, get_or_push, get_or-set_same, get_or-set_other, get_or-map, length-set}
use Rattle.std.proofs.lemmas.List.Elements.{All-nil, All-push, All-pop, All-head, All-tail}
use Rattle.lattice_grid.specs.Rectangle.{Size}
use Rattle.report_text.specs.Report.{BlockParts}
use Rattle.journal_text.specs.Parts.{Section, Part, Question, Answered, JournalParts, size_of, part_of}
use Rattle.journal_text.specs.Bounds.{IsPart, IsJournal}
use Rattle.journal_text.specs.Text.{part_text, parts_text, front_text, head_text, section_text, question_text, steps_text, close_text, journal_text}
use Rattle.journal_text.specs.Reading.Next.{PartOrEnd}
use Rattle.journal_text.proofs.Tools.{QuestionItem, AnswerItem, item_some}
use Rattle.journal_text.specs.declared.journal.Part.{Part as PartRead}
use Rattle.journal_text.specs.declared.target.Close.TheVariants.{Refuted}
use Rattle.report_text.specs.declared.answer.Version.{Version}
use Rattle.audit_core.specs.Audit.{Basis, IsBelow, IsRightPart, AreRight, IsKindRefused, HasRefused}
use Rattle.audit_core.specs.Confirmed.{confirmed_from}
use Rattle.audit_core.specs.Sought.{IsWholeOf, IsSection, IsNext, Keeps, AreKept}
use Rattle.audit_core.specs.Seen.{IsSeen}
use Rattle.audit_core.specs.Tested.{AreAll}
use Rattle.audit_core.specs.declared.asked.Asked.{Asked}
use Rattle.audit_core.specs.declared.audit.Confirmed.{Confirmed}
use Rattle.audit_core.specs.declared.part.Seen.{Seen}
use Rattle.audit_core.specs.declared.refusal.AuditRefusal.{AuditRefusal}
use Rattle.audit_core.proofs.RefusalLaws.{shorter, same_front}
use Rattle.audit_core.proofs.SoughtLaws.{keeps_none, keeps_same, keeps_more}

-- ---- right parts

-- one more part of which this holds behind those before it
pub each_more : (P : List Part → Part → Type 0) (before : List Part) (p : Part) → ((front : List Part) (part : Part) (later : List Part) → before ≡ front ++ part ∷ later → P front part) → P before p
    → (front : List Part) (part : Part) (later : List Part) → before ++ p ∷ [] ≡ front ++ part ∷ later → P front part
each_more P before p each now front part later whole = elim (cases_order (length before) (length front)) [
  | inl same ↦
      let both = same_front (before ++ p ∷ []) before [] front later p part refl whole same in
      subst (λ (x : Part). P front x) both.1 (subst (λ (l : List Part). P l p) both.0 now)
  | inr other ↦ elim other [
    | inl less ↦
        let n = ap length whole in
        absurd (omega (arith, n, less, length-append before (p ∷ []), length-append front (part ∷ later)))
    | inr more ↦
        let in_front = shorter (before ++ p ∷ []) before [] front later p part refl whole more in
        each front part in_front.rest in_front.whole
  ]
]

pub right_more : (basis : Basis) (before : List Part) (p : Part) → AreRight basis before → IsRightPart basis before p → AreRight basis (before ++ p ∷ [])
right_more basis before p right now = each_more (IsRightPart basis) before p right now

-- ---- the least output of the next answer

below_front : (output : ℕ) (before : List Part) (p : Part) → All (IsBelow output) (before ++ p ∷ []) → All (IsBelow output) before × IsBelow output p
below_front output before p h = All-pop (IsBelow output) (before ++ p ∷ []) before (Some p) refl h

pub next_question : (before : List Part) (least : ℕ) (s : Section) → IsNext before least → IsNext (before ++ Question s ∷ []) least
next_question before least s next output = (
  λ h. (next output).0 (below_front output before (Question s) h).0,
  λ h. All-push (IsBelow output) before (Question s) ((next output).1 h) tt,
)

pub next_answer : (before : List Part) (least : ℕ) (block : BlockParts) → IsNext before least → All (IsBelow block.output) before → IsNext (before ++ Answered block ∷ []) (block.output + 1)
next_answer before least block next later output =
    let low = (next block.output).0 later in (
      λ h. let less : block.output < output = (below_front output before (Answered block) h).1 in omega (arith, less),
      λ h. All-push (IsBelow output) before (Answered block) ((next output).1 (omega (arith, low, h))) (omega (arith, h)),
    )

-- ---- the shapes that were refuted of each output

pub kept_empty : (outputs : ℕ) (lists : List (List Size)) → AreKept [] outputs lists → AreKept [] (outputs + 1) (lists ++ [] ∷ [])
kept_empty outputs lists h = record {
  many = (let n = h.many in omega (arith, n, length-append lists ([] ∷ [])));
  each = λ k w. elim (cases_order k outputs) [
    | inl same ↦ subst (Keeps [] k) (sym (get_or_push lists [] [] k (h.many ∙ sym same))) (keeps_none k)
    | inr other ↦ elim other [
      | inl less ↦ subst (Keeps [] k) (sym (get_or_append_left lists ([] ∷ []) [] k (let n = h.many in omega (arith, n, less)))) (h.each k less)
      | inr more ↦ absurd (omega (arith, w, more))
    ]
  ];
}

-- a section of one output is one of no other
other_output : (p : Part) (output k : ℕ) → IsSection (λ s. s.output ≡ output) p → IsSection (IsWholeOf k Refuted) p → k ≡ output
other_output (Question s) output k is whole = sym whole.of_output ∙ is
other_output (Answered block) output k is whole = absurd is

pub kept_same : (before : List Part) (p : Part) (output outputs : ℕ) (lists : List (List Size)) → IsSection (λ s. s.output ≡ output) p → (IsSection (IsWholeOf output Refuted) p → ⊥) → AreKept before outputs lists
    → AreKept (before ++ p ∷ []) outputs lists
kept_same before p output outputs lists is not h = record {
  many = h.many;
  each = λ k w. keeps_same before p k (slice_index_or lists k []) (λ whole. not (subst (λ n. IsSection (IsWholeOf n Refuted) p) (other_output p output k is whole) whole)) (h.each k w);
}

pub kept_more : (before : List Part) (q : Section) (output outputs : ℕ) (lists : List (List Size)) (shape : Size) → IsWholeOf output Refuted q → output < length lists → shape ≡ size_of q.target → AreKept before outputs lists
    → AreKept (before ++ Question q ∷ []) outputs (set lists output (slice_index_or lists output [] ++ shape ∷ []))
kept_more before q output outputs lists shape whole within shape_is h = record {
  many = length-set lists output (slice_index_or lists output [] ++ shape ∷ []) ∙ h.many;
  each = λ k w. elim (cases_order k output) [
    | inl same ↦
        subst (λ n. Keeps (before ++ Question q ∷ []) n (slice_index_or (set lists output (slice_index_or lists output [] ++ shape ∷ [])) n [])) (sym same)
        (subst (Keeps (before ++ Question q ∷ []) output) (sym (get_or-set_same lists output (slice_index_or lists output [] ++ shape ∷ []) [] within ∙ ap (λ s. slice_index_or lists output [] ++ s ∷ []) shape_is))
        (keeps_more before q output (slice_index_or lists output []) whole (h.each output (let n = h.many in omega (arith, n, within)))))
    | inr other ↦
        let differ : k ≢ output = λ e. elim other [ inl less ↦ absurd (omega (arith, less, e)) | inr more ↦ absurd (omega (arith, more, e)) ] in
        subst (Keeps (before ++ Question q ∷ []) k) (sym (get_or-set_other lists output k (slice_index_or lists output [] ++ shape ∷ []) [] differ))
        (keeps_same before (Question q) k (slice_index_or lists k []) (λ other. differ (other_output (Question q) output k whole.of_output other)) (h.each k w))
  ];
}

-- ---- the answers

pub confirmed_question : (place : ℕ) (before : List Part) (s : Section) → confirmed_from place (before ++ Question s ∷ []) ≡ confirmed_from place before
confirmed_question place [] s = refl
confirmed_question place (Question t ∷ before) s = confirmed_question (suc place) before s
confirmed_question place (Answered block ∷ before) s = ap (λ l. record { output = block.output; part = place } ∷ l) (confirmed_question (suc place) before s)

pub confirmed_answer : (place : ℕ) (before : List Part) (block : BlockParts) → confirmed_from place (before ++ Answered block ∷ []) ≡ confirmed_from place before ++ record { output = block.output; part = place + length before } ∷ []
confirmed_answer place [] block = ap (λ n. record { output = block.output; part = n } ∷ []) (omega arith)
confirmed_answer place (Question t ∷ before) block = confirmed_answer (suc place) before block ∙ ap (λ n. confirmed_from (suc place) before ++ record { output = block.output; part = n } ∷ []) (omega arith)
confirmed_answer place (Answered other ∷ before) block =
    ap (λ l. record { output = other.output; part = place } ∷ l) (confirmed_answer (suc place) before block ∙ ap (λ n. confirmed_from (suc place) before ++ record { output = block.output; part = n } ∷ []) (omega arith))

-- ---- how many parts there are

part_some : (v : Version) (p : Part) → IsPart v p → 1 ≤ length (part_text v p)
unfolding section_text
part_some v (Question s) h =
    let some = item_some (PartOrEnd v) (QuestionItem s.output s.target) (h.output, h.target) in
    omega (arith, some, length-append (question_text s.output s.target) (steps_text s.steps ++ close_text s.close))
part_some v (Answered b) h = item_some (PartOrEnd v) (AnswerItem v b) (refl, h.0, h.1)

pub many_parts : (v : Version) (parts : List Part) → All (IsPart v) parts → length parts ≤ length (parts_text v parts)
many_parts v [] h = omega arith
many_parts v (p ∷ parts) h =
    let some = part_some v p (All-head (IsPart v) p parts h) in
    let more = many_parts v parts (All-tail (IsPart v) p parts h) in
    omega (arith, some, more, length-append (part_text v p) (parts_text v parts))

-- no more than the text has bytes
pub few_parts : (journal : JournalParts) → IsJournal journal → length (journal_text journal) ≤ 536870912 → length journal.parts ≤ 536870912
unfolding journal_text front_text
few_parts journal h few =
    let many = many_parts journal.version journal.parts h.parts in
    omega (arith, many, few, length-append (head_text journal.version journal.rails ++ parts_text journal.version journal.parts) (codes "end\n"), length-append (head_text journal.version journal.rails) (parts_text journal.version journal.parts))

-- ---- a loop over parts

pub refused_here : (basis : Basis) (parts : List PartRead) (i : ℕ) (p : PartRead) (r : AuditRefusal) → i < length parts → p ≡ get_or parts i p → AreRight basis (map part_of (take i parts))
    → IsKindRefused basis (map part_of (take i parts)) p.line p.what r → HasRefused basis parts r
refused_here basis parts i p r within is right refused = record {
  before = take i parts;
  part = p;
  later = drop (suc i) parts;
  whole = sym (take-append-drop i parts) ∙ ap (λ ps. take i parts ++ ps) (drop-cons parts i p within ∙ ap (λ q. q ∷ drop (suc i) parts) (sym is));
  earlier = right;
  refused = refused;
}

-- ---- one more part

pub kept_answer : (before : List Part) (block : BlockParts) (outputs : ℕ) (lists : List (List Size)) → AreKept before outputs lists → AreKept (before ++ Answered block ∷ []) outputs lists
kept_answer before block outputs lists h = record { many = h.many; each = λ k w. keeps_same before (Answered block) k (slice_index_or lists k []) (λ whole. whole) (h.each k w) }

pub answer_confirmed : (before : List Part) (block : BlockParts) (old new : List Confirmed) (entry : Confirmed) → old ≡ confirmed_from 0 before → new ≡ old ++ entry ∷ [] → entry.output ≡ block.output → entry.part ≡ length before
    → new ≡ confirmed_from 0 (before ++ Answered block ∷ [])
answer_confirmed before block old new entry earlier now output place =
    now ∙ ap (λ l. l ++ entry ∷ []) earlier ∙ ap (λ (e : Confirmed). confirmed_from 0 before ++ e ∷ []) (λ i. record { output = output i; part = there i })
    ∙ sym (confirmed_answer 0 before block) where
      there : entry.part ≡ 0 + length before
      there = omega (arith, place)

pub one_more_part : (before : List Part) (p : Part) (many : ℕ) → many ≡ length before → many + 1 ≡ length (before ++ p ∷ [])
one_more_part before p many e = omega (arith, e, length-append before (p ∷ []))

pub all_of : (basis : Basis) (before : List Part) (seen : Seen) (asked : List Asked) (refuted : List (List Size)) → asked ≡ seen.asked.items → refuted ≡ seen.refuted.items → IsSeen basis before seen → AreAll basis before asked refuted
all_of basis before seen asked refuted a r h = record { right = h.right; sections = a ∙ h.asked; kept = subst (AreKept before basis.parts.outputs) (sym r) h.kept }

-- before any part
pub right_none : (basis : Basis) → AreRight basis []
right_none basis before part later whole = let n = ap length whole in absurd (omega (arith, n, length-append before (part ∷ later)))

pub next_none : IsNext [] 0
next_none output = (λ h. omega arith, λ h. All-nil (IsBelow output))

pub part_bounds : (v : Version) (parts : List PartRead) (i : ℕ) (p : PartRead) → i < length parts → p ≡ get_or parts i p → All (IsPart v) (map part_of parts) → IsPart v (part_of p)
part_bounds v parts i p within is h =
    subst (IsPart v) (get_or-map part_of parts i p (part_of p) within ∙ ap part_of (sym is)) (h i (part_of p) (let n = length-map parts part_of in omega (arith, n, within)))
