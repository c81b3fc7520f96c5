-- A journal is right or has one refusal: `not_right` and `one_refusal` are for whoever needs that a journal that was read is judged in one way.
use Rattle.std.proofs.Common.{◌≡◌, ◌≢◌, ℕ, suc, ◌<◌, ◌≤◌, List, [], ◌∷◌, ◌++◌, length, get_or, take, drop, map, refl, sym, ap, ◌∙◌, subst, arith, inl, inr, ◌⊎◌, drop-cons, Some, None}
use Rattle.std.specs.Prelude.{Result, Ok, Err, OnOk, IfErr, IfSome, MatchResult, slice_get}
use Rattle.std.specs.declared.option.Option.{Option}
use Rattle.std.proofs.Math.Seq.{take-append_seam, drop-append_seam}
use Rattle.std.proofs.lemmas.Bool.{cases_order}
use Rattle.std.proofs.lemmas.List.{take-append-drop, take-append-le, drop-append-le, map-append}
use Rattle.std.proofs.lemmas.Option.{slice_get_within}
use Rattle.cube_core.specs.Function.{Function}
use Rattle.lattice_grid.specs.Defects.{Defects}
use Rattle.lattice_grid.specs.Lattice.{Lattice}
use Rattle.lrat_replay.specs.Book.{Book, Accepts, addition_fault, line_fault, after_line, after_lines, start}
use Rattle.lrat_replay.specs.declared.fault.StepFault.{StepFault}
use Rattle.lrat_replay.specs.declared.line.LineKind.{LineKind}
use Rattle.lrat_replay.specs.declared.line.LineKind.TheVariants.{Add}
use Rattle.path_meaning.specs.Defective.{RealisesIn}
use Rattle.path_meaning.specs.Failing.{IsLeastFailureIn}
use Rattle.pla_reader.specs.Parts.{Parts}
use Rattle.report_text.specs.Form.{lattice_of}
use Rattle.report_text.specs.Report.{parts_of_block}
use Rattle.report_text.specs.declared.answer.Answer.{Answer}
use Rattle.journal_text.specs.Parts.{Part, section_of, kind_of, part_of}
use Rattle.journal_text.specs.Proved.{formula_of}
use Rattle.journal_text.specs.declared.journal.Part.{Part as PartRead}
use Rattle.journal_text.specs.declared.journal.PartKind.{PartKind}
use Rattle.journal_text.specs.declared.journal.PartKind.TheVariants as kinds
use Rattle.journal_text.specs.declared.journal.SectionText.{SectionText}
use Rattle.journal_text.specs.declared.journal.StepLine.{StepLine}
use Rattle.journal_text.specs.declared.target.Close.{Close}
use Rattle.journal_text.specs.declared.target.Close.TheVariants.{Refuted, Spent}
use Rattle.audit_core.specs.Audit.{Basis, adds_of, Closes, IsReplayed, IsRightSection, IsFirstFault, IsMisclosed, IsSectionRefused, Claim, Demand, demands, Meets, AreMet, IsFirstUnmet, IsRightAnswer, array_in, Tells, IsAnswerRefused, IsRightPart, AreRight, IsKindRefused, HasRefused}
use Rattle.audit_core.specs.Audit.Demand.{OfPair, OfLiterals, OfValues, OfArea, OfCover, OfSection, OfProofs}
use Rattle.audit_core.specs.declared.refusal.AuditRefusal.{AuditRefusal}
use Rattle.audit_core.specs.declared.refusal.AuditRefusal.TheVariants as refusals
use Rattle.audit_core.proofs.StepLaws.{adds_steps}

-- ---- lists that are cut at an element

cut_front : {X : Type 0} (xs before rest : List X) (x : X) → xs ≡ before ++ x ∷ rest → take (length before) xs ≡ before
cut_front xs before rest x e = ap (take (length before)) e ∙ take-append_seam before (x ∷ rest)

cut_rest : {X : Type 0} (xs before rest : List X) (x : X) → xs ≡ before ++ x ∷ rest → drop (length before) xs ≡ x ∷ rest
cut_rest xs before rest x e = ap (drop (length before)) e ∙ drop-append_seam before (x ∷ rest)

head_of : {X : Type 0} (x y : X) (xs ys : List X) → x ∷ xs ≡ y ∷ ys → x ≡ y
head_of x y xs ys e = ap (λ l. get_or l 0 x) e

-- of two cuts the shorter front, with its element, is in the longer one
pub record IsFront {X : Type 0} (before front : List X) (other : X) : Type 0 where
  pub rest : List X
  pub whole : before ≡ front ++ other ∷ rest

pub shorter : {X : Type 0} (xs before later front rest : List X) (x other : X) → xs ≡ before ++ x ∷ later → xs ≡ front ++ other ∷ rest → length front < length before → IsFront before front other
shorter xs before later front rest x other whole cut less =
    let there : drop (length front) xs ≡ other ∷ rest = cut_rest xs front rest other cut in
    let first : take (length front) xs ≡ front = cut_front xs front rest other cut in
    let fronts : take (length front) before ≡ front = sym (ap (take (length front)) whole ∙ take-append-le (length front) before (x ∷ later) (omega (arith, less))) ∙ first in
    let tails : drop (length front) before ++ x ∷ later ≡ other ∷ rest = sym (ap (drop (length front)) whole ∙ drop-append-le (length front) before (x ∷ later) (omega (arith, less))) ∙ there in
    let more = drop-cons before (length front) x less in
    let is : get_or before (length front) x ≡ other = ap (λ l. get_or l 0 x) (sym (ap (λ l. l ++ x ∷ later) more) ∙ tails) in
    record {
      rest = drop (suc (length front)) before;
      whole = sym (take-append-drop (length front) before) ∙ ap (λ l. l ++ drop (length front) before) fronts ∙ ap (λ l. front ++ l) more ∙ ap (λ l. front ++ l ∷ drop (suc (length front)) before) is;
    }

-- two cuts after fronts of the same length are one
pub same_front : {X : Type 0} (xs before later front rest : List X) (x other : X) → xs ≡ before ++ x ∷ later → xs ≡ front ++ other ∷ rest → length before ≡ length front → (before ≡ front) × (x ≡ other)
same_front xs before later front rest x other whole cut same = (
  sym (cut_front xs before later x whole) ∙ ap (λ n. take n xs) same ∙ cut_front xs front rest other cut,
  head_of x other later rest (sym (cut_rest xs before later x whole) ∙ ap (λ n. drop n xs) same ∙ cut_rest xs front rest other cut),
)

-- ---- sections

accepted_at : (book : Book) (before : List LineKind) (line : LineKind) (later : List LineKind) → Accepts book (before ++ line ∷ later) → line_fault (after_lines book before) line ≡ None
accepted_at book [] line later h = h.0
accepted_at book (first ∷ before) line later h = accepted_at (after_line book first) before line later h.1

no_fault : (wanted : Option StepFault) (a : StepFault) → wanted ≡ Some a → wanted ≡ None → ⊥
no_fault wanted a p q = cc

accepted_front : (book : Book) (steps front rest : List StepLine) (step : StepLine) → steps ≡ front ++ step ∷ rest → Accepts book (adds_of steps)
    → addition_fault (after_lines book (adds_of front)) step.step.id step.step.clause step.step.hints ≡ None
accepted_front book steps front rest step whole all =
    let lines : adds_of steps ≡ adds_of front ++ Add step.step ∷ adds_of rest = ap adds_of whole ∙ map-append (λ (l : StepLine). Add l.step) front (step ∷ rest) in
    accepted_at book (adds_of front) (Add step.step) (adds_of rest) (subst (Accepts book) lines all)

no_first_fault : (book : Book) (steps : List StepLine) (line : ℕ) (fault : StepFault) → Accepts book (adds_of steps) → IsFirstFault book steps line fault → ⊥
no_first_fault book steps line fault all h = no_fault _ fault h.refused (accepted_front book steps h.before h.later h.step h.whole all)

same_fault : (wanted : Option StepFault) (a b : StepFault) → wanted ≡ Some a → wanted ≡ Some b → a ≡ b
same_fault wanted a b p q = cc

one_first_fault : (book : Book) (steps : List StepLine) (m n : ℕ) (f g : StepFault) → IsFirstFault book steps m f → IsFirstFault book steps n g → (m ≡ n) × (f ≡ g)
one_first_fault book steps m n f g p q = elim (cases_order (length p.before) (length q.before)) [
  | inl same ↦
      let both = same_front steps p.before p.later q.before q.later p.step q.step p.whole q.whole same in
      let fault_at : List StepLine → StepLine → Option StepFault = λ l s. addition_fault (after_lines book (adds_of l)) s.step.id s.step.clause s.step.hints in (
        p.line_is ∙ ap (λ (s : StepLine). s.line) both.1 ∙ sym q.line_is,
        same_fault (fault_at q.before q.step) f g (sym (λ i. fault_at (both.0 i) (both.1 i)) ∙ p.refused) q.refused,
      )
  | inr other ↦ elim other [
    | inl less ↦
        let in_front = shorter steps q.before q.later p.before p.later q.step p.step q.whole p.whole less in
        absurd (no_fault _ f p.refused (accepted_front book q.before p.before in_front.rest p.step in_front.whole q.accepted))
    | inr more ↦
        let in_front = shorter steps p.before p.later q.before q.later p.step q.step p.whole q.whole more in
        absurd (no_fault _ g q.refused (accepted_front book p.before q.before in_front.rest q.step in_front.whole p.accepted))
  ]
]

one_function : (o : Option Function) (f g : Function) → o ≡ Some f → o ≡ Some g → f ≡ g
one_function o f g p q = cc

-- what a section closes with that its steps do not come to
abbrev Miscounts : SectionText → AuditRefusal → Type 0
Miscounts s r = ((s.close ≡ Refuted) × (r ≡ refusals.Unfinished s.close_line)) ⊎ ((budget : ℕ) × (s.close ≡ Spent budget) × (r ≡ refusals.Count s.close_line))

-- a step that is refused
record IsStopped (basis : Basis) (s : SectionText) (r : AuditRefusal) : Type 0 where
  pub function : Function
  pub of_output : slice_get basis.parts.functions s.output ≡ Some function
  pub line : ℕ
  pub fault : StepFault
  pub first : IsFirstFault (start (formula_of basis.rails function (section_of s))) s.steps.items line fault
  pub is : r ≡ refusals.Step line fault

-- in which of three ways a section is refused
abbrev Ways : Basis → ℕ → SectionText → AuditRefusal → Type 0
Ways basis begins s r = ((basis.parts.outputs ≤ s.output) × (r ≡ refusals.Output begins)) ⊎ (IsStopped basis s r ⊎ (IsMisclosed basis (section_of s) × Miscounts s r))

ways : (basis : Basis) (begins : ℕ) (s : SectionText) (r : AuditRefusal) → IsSectionRefused basis begins s r → Ways basis begins s r
ways basis begins s (refusals.Output line) h = inl (h.1, ap refusals.Output h.0)
ways basis begins s (refusals.Step line fault) h = inr (inl (record { function = h.0; of_output = h.1; line = line; fault = fault; first = h.2; is = refl }))
ways basis begins s (refusals.Unfinished line) h = inr (inr (h.2, inl (h.1, ap refusals.Unfinished h.0)))
ways basis begins s (refusals.Count line) h = inr (inr (h.3, inr (h.1, h.2, ap refusals.Count h.0)))
ways basis begins s (refusals.Literal line) h = absurd h
ways basis begins s (refusals.Wrong line x) h = absurd h
ways basis begins s (refusals.Uncovered line) h = absurd h
ways basis begins s (refusals.NoSection line) h = absurd h
ways basis begins s (refusals.Large line) h = absurd h
ways basis begins s (refusals.NoRails line) h = absurd h
ways basis begins s (refusals.Proofs line) h = absurd h
ways basis begins s refusals.NoMemory h = absurd h

-- there is a function for each output
abbrev pub HasFunctions : Parts → Type 0
HasFunctions parts = length parts.functions ≡ parts.outputs

past_outputs : (basis : Basis) (output : ℕ) (f : Function) → HasFunctions basis.parts → basis.parts.outputs ≤ output → slice_get basis.parts.functions output ≡ Some f → ⊥
past_outputs basis output f pla past is =
    let within = slice_get_within basis.parts.functions output f is in
    let many = pla in
    absurd (omega (arith, within, many, past))

-- the steps of a section, as they stand on their lines
accepted_lines : (basis : Basis) (s : SectionText) (f : Function) → IsReplayed basis (section_of s) f → Accepts (start (formula_of basis.rails f (section_of s))) (adds_of s.steps.items)
accepted_lines basis s f h = subst (Accepts (start (formula_of basis.rails f (section_of s)))) (sym (adds_steps s.steps.items)) h.accepted

stopped_replayed : (basis : Basis) (s : SectionText) (f : Function) (r : AuditRefusal) → IsReplayed basis (section_of s) f → IsStopped basis s r → ⊥
stopped_replayed basis s f r h k =
    let same = one_function _ f k.function h.of_output k.of_output in
    no_first_fault (start (formula_of basis.rails k.function (section_of s))) s.steps.items k.line k.fault (accepted_lines basis s k.function (subst (IsReplayed basis (section_of s)) same h)) k.first

one_stop : (basis : Basis) (s : SectionText) (a b : AuditRefusal) → IsStopped basis s a → IsStopped basis s b → a ≡ b
one_stop basis s a b p q =
    let same = one_function _ q.function p.function q.of_output p.of_output in
    let one = one_first_fault (start (formula_of basis.rails p.function (section_of s))) s.steps.items p.line q.line p.fault q.fault p.first
    (subst (λ f. IsFirstFault (start (formula_of basis.rails f (section_of s))) s.steps.items q.line q.fault) same q.first) in
    p.is ∙ (λ i. refusals.Step (one.0 i) (one.1 i)) ∙ sym q.is

one_close : (c : Close) (budget : ℕ) → c ≡ Refuted → c ≡ Spent budget → ⊥
one_close c budget p q = cc

one_miscount : (s : SectionText) (a b : AuditRefusal) → Miscounts s a → Miscounts s b → a ≡ b
one_miscount s a b (inl p) (inl q) = p.1 ∙ sym q.1
one_miscount s a b (inl p) (inr q) = absurd (one_close s.close q.0 p.0 q.1)
one_miscount s a b (inr p) (inl q) = absurd (one_close s.close p.0 q.0 p.1)
one_miscount s a b (inr p) (inr q) = p.2 ∙ sym q.2

one_way : (basis : Basis) (begins : ℕ) (s : SectionText) (a b : AuditRefusal) → HasFunctions basis.parts → Ways basis begins s a → Ways basis begins s b → a ≡ b
one_way basis begins s a b pla (inl p) (inl q) = p.1 ∙ sym q.1
one_way basis begins s a b pla (inl p) (inr (inl q)) = absurd (past_outputs basis s.output q.function pla p.0 q.of_output)
one_way basis begins s a b pla (inl p) (inr (inr q)) = absurd (past_outputs basis s.output q.0.function pla p.0 q.0.replayed.of_output)
one_way basis begins s a b pla (inr (inl p)) (inl q) = absurd (past_outputs basis s.output p.function pla q.0 p.of_output)
one_way basis begins s a b pla (inr (inl p)) (inr (inl q)) = one_stop basis s a b p q
one_way basis begins s a b pla (inr (inl p)) (inr (inr q)) = absurd (stopped_replayed basis s q.0.function a q.0.replayed p)
one_way basis begins s a b pla (inr (inr p)) (inl q) = absurd (past_outputs basis s.output p.0.function pla q.0 p.0.replayed.of_output)
one_way basis begins s a b pla (inr (inr p)) (inr (inl q)) = absurd (stopped_replayed basis s p.0.function b p.0.replayed q)
one_way basis begins s a b pla (inr (inr p)) (inr (inr q)) = one_miscount s a b p.1 q.1

one_section_refusal : (basis : Basis) (begins : ℕ) (s : SectionText) (a b : AuditRefusal) → HasFunctions basis.parts → IsSectionRefused basis begins s a → IsSectionRefused basis begins s b → a ≡ b
one_section_refusal basis begins s a b pla p q = one_way basis begins s a b pla (ways basis begins s a p) (ways basis begins s b q)

right_section : (basis : Basis) (begins : ℕ) (s : SectionText) (r : AuditRefusal) → HasFunctions basis.parts → IsRightSection basis (section_of s) → Ways basis begins s r → ⊥
right_section basis begins s r pla right (inl h) = past_outputs basis s.output right.function pla h.0 right.replayed.of_output
right_section basis begins s r pla right (inr (inl h)) = stopped_replayed basis s right.function r right.replayed h
right_section basis begins s r pla right (inr (inr h)) =
    let same = one_function _ right.function h.0.function right.replayed.of_output h.0.replayed.of_output in
    let both : IsMisclosed basis (section_of s) = h.0 in
    both.closes_not (subst (λ f. Closes (formula_of basis.rails f (section_of s)) (section_of s).steps s.close) same right.closes)

-- ---- answers

one_unmet : (IsMet : Demand → Type 0) (ds : List Demand) (a b : Demand) → IsFirstUnmet IsMet ds a → IsFirstUnmet IsMet ds b → a ≡ b
one_unmet IsMet [] a b p q = absurd p
one_unmet IsMet (d ∷ ds) a b (inl p) (inl q) = p.1 ∙ sym q.1
one_unmet IsMet (d ∷ ds) a b (inl p) (inr q) = absurd (p.0 q.0)
one_unmet IsMet (d ∷ ds) a b (inr p) (inl q) = absurd (q.0 p.0)
one_unmet IsMet (d ∷ ds) a b (inr p) (inr q) = one_unmet IsMet ds a b p.1 q.1

all_met : (IsMet : Demand → Type 0) (ds : List Demand) (a : Demand) → AreMet IsMet ds → IsFirstUnmet IsMet ds a → ⊥
all_met IsMet [] a met p = p
all_met IsMet (d ∷ ds) a met (inl p) = p.0 met.0
all_met IsMet (d ∷ ds) a met (inr p) = all_met IsMet ds a met.1 p.1

one_least : (g : Lattice) (array : Option Defects) (f : Function) (x y : ℕ) → IsLeastFailureIn g array f x → IsLeastFailureIn g array f y → x ≡ y
one_least g array f x y a b = elim (cases_order x y) [
  | inl same ↦ same
  | inr other ↦ elim other [ inl less ↦ absurd (b.least x less a.fails) | inr more ↦ absurd (a.least y more b.fails) ]
]

-- where there is no lattice nothing tells them apart, but then the answer meets the demand
one_failure : (o : Option Lattice) (array : Option Defects) (f : Function) (x y : ℕ) → (o ≡ None → ⊥) → IfSome o (λ g. IsLeastFailureIn g array f x) → IfSome o (λ g. IsLeastFailureIn g array f y) → x ≡ y
one_failure None array f x y some p q = absurd (some refl)
one_failure (Some g) array f x y some p q = one_least g array f x y p q

one_told : (answer : Answer) (f : Function) (line : ℕ) (d : Demand) (a b : AuditRefusal) → (d ≡ OfValues → lattice_of answer ≡ None → ⊥) → Tells answer f line d a → Tells answer f line d b → a ≡ b
one_told answer f line OfPair a b some p q = p ∙ sym q
one_told answer f line OfLiterals a b some p q = p ∙ sym q
one_told answer f line OfValues a b some p q = p.2 ∙ ap (refusals.Wrong line) (one_failure (lattice_of answer) (array_in answer) f p.0 q.0 (some refl) p.1 q.1) ∙ sym q.2
one_told answer f line OfArea a b some p q = p ∙ sym q
one_told answer f line OfCover a b some p q = p ∙ sym q
one_told answer f line OfSection a b some p q = p ∙ sym q
one_told answer f line OfProofs a b some p q = p ∙ sym q

-- a demand that is not met
unmet : (IsMet : Demand → Type 0) (ds : List Demand) (a : Demand) → IsFirstUnmet IsMet ds a → IsMet a → ⊥
unmet IsMet [] a h met = absurd h
unmet IsMet (d ∷ ds) a (inl h) met = h.0 (subst IsMet h.1 met)
unmet IsMet (d ∷ ds) a (inr h) met = unmet IsMet ds a h.1 met

none_realises : (c : Claim) (f : Function) → lattice_of c.block.answer ≡ None → Meets c f OfValues
none_realises c f e = subst (λ o. IfSome o (λ g. RealisesIn g f (array_in c.block.answer))) (sym e) tt

one_answer_refusal : (c : Claim) (line : ℕ) (a b : AuditRefusal) → IsAnswerRefused c line a → IsAnswerRefused c line b → a ≡ b
one_answer_refusal c line a b (inl p) (inl q) = p.1 ∙ sym q.1
one_answer_refusal c line a b (inl p) (inr q) = absurd (p.0 q.function q.of_output)
one_answer_refusal c line a b (inr p) (inl q) = absurd (q.0 p.function p.of_output)
one_answer_refusal c line a b (inr p) (inr q) =
    let same = one_function _ q.function p.function q.of_output.function p.of_output.function in
    let demand : q.demand ≡ p.demand = one_unmet (Meets c p.function) demands q.demand p.demand (subst (λ f. IsFirstUnmet (Meets c f) demands q.demand) same q.first) p.first in
    one_told c.block.answer p.function line p.demand a b (λ is none. unmet (Meets c p.function) demands p.demand p.first (subst (Meets c p.function) (sym is) (none_realises c p.function none))) p.tells
    (subst (λ d. Tells c.block.answer p.function line d b) demand (subst (λ f. Tells c.block.answer f line q.demand b) same q.tells))

right_answer : (c : Claim) (line : ℕ) (r : AuditRefusal) → IsRightAnswer c → IsAnswerRefused c line r → ⊥
right_answer c line r right (inl h) = h.0 right.function right.of_output
right_answer c line r right (inr h) =
    let same = one_function _ h.function right.function h.of_output.function right.of_output.function in
    all_met (Meets c right.function) demands h.demand right.met (subst (λ f. IsFirstUnmet (Meets c f) demands h.demand) same h.first)

-- ---- journals

one_kind_refusal : (basis : Basis) (before : List Part) (line : ℕ) (what : PartKind) (a b : AuditRefusal) → HasFunctions basis.parts → IsKindRefused basis before line what a → IsKindRefused basis before line what b → a ≡ b
one_kind_refusal basis before line (kinds.Question s) a b pla p q = one_section_refusal basis line s a b pla p q
one_kind_refusal basis before line (kinds.Answer block) a b pla p q = one_answer_refusal (record { basis = basis; before = before; block = parts_of_block block }) line a b p q

right_kind : (basis : Basis) (before : List Part) (line : ℕ) (what : PartKind) (r : AuditRefusal) → HasFunctions basis.parts → IsRightPart basis before (kind_of what) → IsKindRefused basis before line what r → ⊥
right_kind basis before line (kinds.Question s) r pla right h = right_section basis line s r pla right (ways basis line s r h)
right_kind basis before line (kinds.Answer block) r pla right h = right_answer (record { basis = basis; before = before; block = parts_of_block block }) line r right h

-- a part in front of others is right
right_front : (basis : Basis) (before front rest : List PartRead) (part : PartRead) → AreRight basis (map part_of before) → before ≡ front ++ part ∷ rest → IsRightPart basis (map part_of front) (part_of part)
right_front basis before front rest part right whole = right (map part_of front) (part_of part) (map part_of rest) (ap (map part_of) whole ∙ map-append part_of front (part ∷ rest))

pub not_right : (basis : Basis) (parts : List PartRead) (r : AuditRefusal) → HasFunctions basis.parts → AreRight basis (map part_of parts) → HasRefused basis parts r → ⊥
not_right basis parts r pla right h =
    right_kind basis (map part_of h.before) h.part.line h.part.what r pla (right_front basis parts h.before h.later h.part right h.whole) h.refused

pub one_refusal : (basis : Basis) (parts : List PartRead) (a b : AuditRefusal) → HasFunctions basis.parts → HasRefused basis parts a → HasRefused basis parts b → a ≡ b
one_refusal basis parts a b pla p q = elim (cases_order (length p.before) (length q.before)) [
  | inl same ↦
      let both = same_front parts p.before p.later q.before q.later p.part q.part p.whole q.whole same in
      one_kind_refusal basis (map part_of q.before) q.part.line q.part.what a b pla
      (subst (λ l. IsKindRefused basis (map part_of l) q.part.line q.part.what a) both.0 (subst (λ (x : PartRead). IsKindRefused basis (map part_of p.before) x.line x.what a) both.1 p.refused)) q.refused
  | inr other ↦ elim other [
    | inl less ↦
        let in_front = shorter parts q.before q.later p.before p.later q.part p.part q.whole p.whole less in
        absurd (right_kind basis (map part_of p.before) p.part.line p.part.what a pla (right_front basis q.before p.before in_front.rest p.part q.earlier in_front.whole) p.refused)
    | inr more ↦
        let in_front = shorter parts p.before p.later q.before q.later p.part q.part p.whole q.whole more in
        absurd (right_kind basis (map part_of q.before) q.part.line q.part.what b pla (right_front basis p.before q.before in_front.rest q.part p.earlier in_front.whole) q.refused)
  ]
]

is_memory : (r : AuditRefusal) → (r ≡ refusals.NoMemory) ⊎ (r ≢ refusals.NoMemory)
is_memory (refusals.Output line) = inr (λ e. cc)
is_memory (refusals.Literal line) = inr (λ e. cc)
is_memory (refusals.Wrong line x) = inr (λ e. cc)
is_memory (refusals.Step line fault) = inr (λ e. cc)
is_memory (refusals.Unfinished line) = inr (λ e. cc)
is_memory (refusals.Count line) = inr (λ e. cc)
is_memory (refusals.Uncovered line) = inr (λ e. cc)
is_memory (refusals.NoSection line) = inr (λ e. cc)
is_memory (refusals.Large line) = inr (λ e. cc)
is_memory (refusals.NoRails line) = inr (λ e. cc)
is_memory (refusals.Proofs line) = inr (λ e. cc)
is_memory refusals.NoMemory = inl refl

pub only_refused : {T : Type 0} (result : Result T AuditRefusal) (basis : Basis) (parts : List PartRead) → HasFunctions basis.parts → OnOk result (AreRight basis (map part_of parts))
    → IfErr result (λ r. r ≢ refusals.NoMemory → HasRefused basis parts r) → (r : AuditRefusal) → HasRefused basis parts r → MatchResult result (λ _. ⊥) (λ other. (other ≡ r) ⊎ (other ≡ refusals.NoMemory))
only_refused (Ok found) basis parts pla right refused r h = not_right basis parts r pla right h
only_refused (Err other) basis parts pla right refused r h = elim (is_memory other) [ inl memory ↦ inr memory | inr fault ↦ inl (one_refusal basis parts other r pla (refused fault) h) ]

pub only_right : {T : Type 0} (result : Result T AuditRefusal) (basis : Basis) (parts : List PartRead) → HasFunctions basis.parts
    → IfErr result (λ r. r ≢ refusals.NoMemory → HasRefused basis parts r) → AreRight basis (map part_of parts) → MatchResult result (λ _. Unit {0}) (λ r. r ≡ refusals.NoMemory)
only_right (Ok found) basis parts pla refused right = tt
only_right (Err other) basis parts pla refused right = elim (is_memory other) [ inl memory ↦ memory | inr fault ↦ absurd (not_right basis parts other pla right (refused fault)) ]
