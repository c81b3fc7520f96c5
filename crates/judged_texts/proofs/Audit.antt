-- The parts of a journal are right, or a first one is refused.
use Rattle.std.proofs.Common.{◌≡◌, ◌⊎◌, ℕ, inl, inr, List, [], ◌∷◌, ◌++◌, map, slice_get, refl, sym, ap, ◌∙◌, subst, arith, Some, None, append_assoc, append-nil}
use Rattle.std.proofs.lemmas.Option.{slice_get_cases}
use Rattle.std.proofs.lemmas.List.{map-append}
use Rattle.std.specs.Prelude.{IfSome}
use Rattle.std.specs.declared.option.Option.{Option}
use Rattle.audit_core.specs.Audit.{Basis, basis_of, adds_of, Closes, IsReplayed, IsRightSection, IsMisclosed, IsSectionRefused, Claim, IsOf, array_in, Demand, OfPair, OfLiterals, OfValues, OfArea, OfCover, OfSection, OfProofs, demands, Meets, AreMet, IsFirstUnmet, IsRightAnswer, Tells, IsAnswerRefused, IsRightPart, AreRight, Audited, IsKindRefused, HasRefused, IsAuditRefused}
use Rattle.audit_core.specs.declared.refusal.AuditRefusal.{AuditRefusal}
use Rattle.audit_core.specs.declared.refusal.AuditRefusal.TheVariants as refusals
use Rattle.cube_core.specs.Function.{Function}
use Rattle.journal_text.specs.Parts.{Part, Question, Answered, section_of, part_of, kind_of, parts_of_journal}
use Rattle.journal_text.specs.Proved.{formula_of}
use Rattle.journal_text.specs.declared.journal.Journal.{Journal}
use Rattle.journal_text.specs.declared.journal.Part.{Part as PartRead}
use Rattle.journal_text.specs.declared.journal.PartKind.{PartKind}
use Rattle.journal_text.specs.declared.journal.PartKind.TheVariants as kinds
use Rattle.journal_text.specs.declared.journal.SectionText.{SectionText}
use Rattle.journal_text.specs.declared.target.Close.{Close}
use Rattle.journal_text.specs.declared.target.Close.TheVariants.{Refuted, Spent, Satisfied}
use Rattle.journal_text.specs.declared.journal.StepLine.{StepLine}
use Rattle.lattice_grid.specs.Lattice.{Lattice}
use Rattle.lrat_replay.specs.declared.line.LineKind.TheVariants.{Add}
use Rattle.lrat_replay.specs.Book.{Accepts, start}
use Rattle.path_meaning.specs.Defective.{RealisesIn}
use Rattle.path_meaning.specs.Failing.{IsLeastFailureIn}
use Rattle.pla_reader.specs.Parts.{Parts}
use Rattle.report_text.specs.Bounds.{IsAnswer}
use Rattle.report_text.specs.Form.{lattice_of}
use Rattle.report_text.specs.Report.{parts_of_block}
use Rattle.report_text.specs.declared.answer.Answer.{Answer}
use Rattle.report_text.specs.declared.answer.Answer.TheVariants as answers
use Rattle.judged_texts.proofs.Surely.{Surely, surely, next, either}
use Rattle.judged_texts.proofs.Check.{steps_accepted_or_first}
use Rattle.judged_texts.proofs.Verify.{lattice_kept}
use Rattle.judged_texts.proofs.Failing.{IsBelow, HasFunctions, below_at, Fits, realised_or_not}

-- a list with an element behind it, cut at an element
abbrev IsCutLast : {X : Type 0} → List X → X → List X → X → Type 0
IsCutLast {X} xs x front y = ((front ≡ xs) × (y ≡ x)) ⊎ ((rest : List X) × (xs ≡ front ++ y ∷ rest))

abbrev head_or : {X : Type 0} → X → List X → X
head_or x [] = x
head_or x (y ∷ ys) = y

abbrev rest_of : {X : Type 0} → List X → List X
rest_of [] = []
rest_of (y ∷ ys) = ys

none_is_some : {X : Type 0} (front : List X) (y : X) (later : List X) → [] ≡ front ++ y ∷ later → ⊥
none_is_some [] y later e = cc
none_is_some (b ∷ front) y later e = cc

cut_last : {X : Type 0} (xs : List X) (x : X) (front : List X) (y : X) (later : List X) → xs ++ x ∷ [] ≡ front ++ y ∷ later → IsCutLast xs x front y
cut_last [] x [] y later e = inl (refl, sym (ap (head_or x) e))
cut_last [] x (b ∷ front) y later e = absurd (none_is_some front y later (ap rest_of e))
cut_last (a ∷ xs) x [] y later e = inr (xs, ap (λ z. z ∷ xs) (ap (head_or a) e))
cut_last (a ∷ xs) x (b ∷ front) y later e =
    let first : a ≡ b = ap (head_or a) e in
    elim (cut_last xs x front y later (ap rest_of e)) [
      | inl h ↦ inl ((λ i. sym first i ∷ h.0 i), h.1)
      | inr h ↦ inr (h.0, (λ i. first i ∷ h.1 i))
    ]

right_more : (basis : Basis) (before : List Part) (p : Part) → AreRight basis before → IsRightPart basis before p → AreRight basis (before ++ p ∷ [])
right_more basis before p right now front part later e = elim (cut_last before p front part later e) [
  | inl same ↦ subst (λ b. IsRightPart basis b part) (sym same.0) (subst (IsRightPart basis before) (sym same.1) now)
  | inr earlier ↦ right front part earlier.0 earlier.1
]

-- what steps do, without their lines
adds_steps : (steps : List StepLine) → adds_of steps ≡ map Add (map (λ (l : StepLine). l.step) steps)
adds_steps [] = refl
adds_steps (s ∷ steps) = ap (λ l. Add s.step ∷ l) (adds_steps steps)

-- ---- sections

abbrev IsSectionTold : Basis → ℕ → SectionText → Type 0
IsSectionTold basis line s = IsRightSection basis (section_of s) ⊎ ((r : AuditRefusal) × IsSectionRefused basis line s r)

misclosed_so : (basis : Basis) (line : ℕ) (s : SectionText) (c : Close) → s.close ≡ c → IsMisclosed basis (section_of s) → IsSectionTold basis line s
misclosed_so basis line s Refuted e m = inr (refusals.Unfinished s.close_line, (refl, e, m))
misclosed_so basis line s (Spent budget) e m = inr (refusals.Count s.close_line, (refl, budget, e, m))
misclosed_so basis line s Satisfied e m = absurd (m.closes_not (subst (Closes (formula_of basis.rails m.function (section_of s)) (section_of s).steps) (sym e) tt))

replayed_told : (basis : Basis) (line : ℕ) (s : SectionText) (f : Function) → IsReplayed basis (section_of s) f → Surely (IsSectionTold basis line s)
replayed_told basis line s f replayed = next (either (Closes (formula_of basis.rails f (section_of s)) (section_of s).steps s.close)) (λ c. elim c [
  | inl closes ↦ surely (inl (record { function = f; replayed = replayed; closes = closes }))
  | inr not ↦ surely (misclosed_so basis line s s.close refl (record { function = f; replayed = replayed; closes_not = not }))
])

function_told : (basis : Basis) (line : ℕ) (s : SectionText) (f : Function) → slice_get basis.parts.functions s.output ≡ Some f → Surely (IsSectionTold basis line s)
function_told basis line s f of_output = elim (steps_accepted_or_first (start (formula_of basis.rails f (section_of s))) s.steps.items) [
  | inr first ↦ surely (inr (refusals.Step first.1 first.0, (f, of_output, first.2)))
  | inl accepted ↦ replayed_told basis line s f (record { of_output = of_output; accepted = subst (Accepts (start (formula_of basis.rails f (section_of s)))) (adds_steps s.steps.items) accepted })
]

section_told : (basis : Basis) (line : ℕ) (s : SectionText) → HasFunctions basis.parts → Surely (IsSectionTold basis line s)
section_told basis line s has = elim (slice_get_cases basis.parts.functions s.output).1 [
  | inl there ↦ function_told basis line s there.0 there.2
  | inr past ↦ let many = has.many in let far = past.0 in surely (inr (refusals.Output line, (refl, omega (arith, many, far))))
]

-- ---- answers

-- a lattice on an array has the array's size
array_fits : (answer : Answer) (g : Lattice) → IsAnswer answer → lattice_of answer ≡ Some g → Fits g (array_in answer)
array_fits (answers.Found h) g is e = tt
array_fits (answers.Minimum h) g is e = tt
array_fits (answers.Undecided h least at after) g is e = tt
array_fits (answers.Mapped h a) g is e = let same : h ≡ g = cc in sym is.2 ∙ ap (λ (l : Lattice). l.size) same
array_fits (answers.NoneMapped a) g is e = tt
array_fits (answers.MapUndecided a after) g is e = tt
array_fits (answers.NoRails on off) g is e = tt

-- the first of the demands that is not met is told of
abbrev HasUnmet : Claim → ℕ → Function → List Demand → Type 0
HasUnmet c line f ds = (d : Demand) × IsFirstUnmet (Meets c f) ds d × ((r : AuditRefusal) × Tells c.block.answer f line d r)

values_told : (c : Claim) (line : ℕ) (f : Function) (o : Option Lattice) → lattice_of c.block.answer ≡ o → IsBelow f → IsAnswer c.block.answer
    → Surely (Meets c f OfValues ⊎ ((Meets c f OfValues → ⊥) × ((r : AuditRefusal) × Tells c.block.answer f line OfValues r)))
values_told c line f None e below answer = surely (inl (subst (λ o. IfSome o (λ g. RealisesIn g f (array_in c.block.answer))) (sym e) tt))
values_told c line f (Some g) e below answer = elim (realised_or_not g (array_in c.block.answer) f below (lattice_kept c.block.answer g answer e) (array_fits c.block.answer g answer e)) [
  | inl realises ↦ surely (inl (subst (λ o. IfSome o (λ g. RealisesIn g f (array_in c.block.answer))) (sym e) realises))
  | inr fails ↦ next (either (Meets c f OfValues)) (λ m. elim m [
    | inl met ↦ surely (inl met)
    | inr not ↦ surely (inr (not, (refusals.Wrong line fails.0, (fails.0, subst (λ o. IfSome o (λ g. IsLeastFailureIn g (array_in c.block.answer) f fails.0)) (sym e) fails.1, refl))))
  ])
]

either_told : (c : Claim) (line : ℕ) (f : Function) (d : Demand) (r : AuditRefusal) → Tells c.block.answer f line d r
    → Surely (Meets c f d ⊎ ((Meets c f d → ⊥) × ((r : AuditRefusal) × Tells c.block.answer f line d r)))
either_told c line f d r tells = next (either (Meets c f d)) (λ m. elim m [ inl met ↦ surely (inl met) | inr not ↦ surely (inr (not, (r, tells))) ])

demand_told : (c : Claim) (line : ℕ) (f : Function) (d : Demand) → IsBelow f → IsAnswer c.block.answer
    → Surely (Meets c f d ⊎ ((Meets c f d → ⊥) × ((r : AuditRefusal) × Tells c.block.answer f line d r)))
demand_told c line f OfPair below answer = either_told c line f OfPair (refusals.NoRails line) refl
demand_told c line f OfLiterals below answer = either_told c line f OfLiterals (refusals.Literal line) refl
demand_told c line f OfValues below answer = values_told c line f (lattice_of c.block.answer) refl below answer
demand_told c line f OfArea below answer = either_told c line f OfArea (refusals.Large line) refl
demand_told c line f OfCover below answer = either_told c line f OfCover (refusals.Uncovered line) refl
demand_told c line f OfSection below answer = either_told c line f OfSection (refusals.NoSection line) refl
demand_told c line f OfProofs below answer = either_told c line f OfProofs (refusals.Proofs line) refl

demands_told : (c : Claim) (line : ℕ) (f : Function) (ds : List Demand) → IsBelow f → IsAnswer c.block.answer → Surely (AreMet (Meets c f) ds ⊎ HasUnmet c line f ds)
demands_told c line f [] below answer = surely (inl tt)
demands_told c line f (d ∷ ds) below answer = next (demand_told c line f d below answer) (λ h. elim h [
  | inr unmet ↦ surely (inr (d, inl (unmet.0, refl), unmet.1))
  | inl met ↦ next (demands_told c line f ds below answer) (λ k. elim k [
    | inl all ↦ surely (inl (met, all))
    | inr later ↦ surely (inr (later.0, inr (met, later.1), later.2))
  ])
])

answer_told : (c : Claim) (line : ℕ) → HasFunctions c.basis.parts → IsAnswer c.block.answer → Surely (IsRightAnswer c ⊎ ((r : AuditRefusal) × IsAnswerRefused c line r))
answer_told c line has answer = next (either ((f : Function) × IsOf c f)) (λ h. elim h [
  | inr none ↦ surely (inr (refusals.Output line, inl ((λ f of_output. none (f, of_output)), refl)))
  | inl some ↦ next (demands_told c line some.0 demands (below_at c.basis.parts.functions c.block.output some.0 has.each some.1.function) answer) (λ k. elim k [
    | inl met ↦ surely (inl (record { function = some.0; of_output = some.1; met = met }))
    | inr unmet ↦ surely (inr (unmet.2.0, inr (record { function = some.0; of_output = some.1; demand = unmet.0; first = unmet.1; tells = unmet.2.1 })))
  ])
])

-- ---- parts

-- an answer is one that a text may have
abbrev pub IsAnswered : Part → Type 0
IsAnswered (Question s) = Unit {0}
IsAnswered (Answered block) = IsAnswer block.answer

abbrev pub AreAnswered : List PartRead → Type 0
AreAnswered [] = Unit {0}
AreAnswered (p ∷ parts) = IsAnswered (part_of p) × AreAnswered parts

kind_told : (basis : Basis) (before : List Part) (line : ℕ) (what : PartKind) → HasFunctions basis.parts → IsAnswered (kind_of what)
    → Surely (IsRightPart basis before (kind_of what) ⊎ ((r : AuditRefusal) × IsKindRefused basis before line what r))
kind_told basis before line (kinds.Question s) has answered = section_told basis line s has
kind_told basis before line (kinds.Answer block) has answered = answer_told (record { basis = basis; before = before; block = parts_of_block block }) line has answered

parts_told : (basis : Basis) (parts before later : List PartRead) → HasFunctions basis.parts → AreAnswered later → parts ≡ before ++ later → AreRight basis (map part_of before)
    → Surely (AreRight basis (map part_of parts) ⊎ ((r : AuditRefusal) × HasRefused basis parts r))
parts_told basis parts before [] has answered split right = surely (inl (subst (λ ps. AreRight basis (map part_of ps)) (sym (split ∙ append-nil before)) right))
parts_told basis parts before (p ∷ later) has answered split right = next (kind_told basis (map part_of before) p.line p.what has answered.0) (λ c. elim c [
  | inr refused ↦ surely (inr (refused.0, record { before = before; part = p; later = later; whole = split; earlier = right; refused = refused.1 }))
  | inl here ↦
      parts_told basis parts (before ++ p ∷ []) later has answered.1 (split ∙ sym (append_assoc before (p ∷ []) later))
      (subst (AreRight basis) (sym (map-append part_of before (p ∷ []))) (right_more basis (map part_of before) (part_of p) right here))
])

none_right : (basis : Basis) → AreRight basis []
none_right basis [] part later e = cc
none_right basis (b ∷ before) part later e = cc

pub audited_or_refused : (parts : Parts) (read : Journal) → HasFunctions parts → AreAnswered read.parts.items → Surely (Audited parts (parts_of_journal read) ⊎ ((r : AuditRefusal) × IsAuditRefused parts read r))
audited_or_refused parts read has answered =
    let basis = basis_of parts (parts_of_journal read) in
    parts_told basis read.parts.items [] read.parts.items has answered refl (none_right basis)
