-- Parts that are right: their sections, and the parts in front of one.
use Rattle.std.proofs.Common.{◌≡◌, ◌↔◌, ℕ, suc, List, [], ◌∷◌, ◌++◌, map, ap, ◌∙◌, subst, arith, append_assoc, inl, inr, Some}
use Rattle.std.specs.Prelude.{slice_get}
use Rattle.std.specs.List.{Contains}
use Rattle.std.specs.declared.option.Option.{Option}
use Rattle.cube_core.specs.Function.{Function}
use Rattle.lrat_replay.proofs.Tools.{Contains-head, Contains-cases}
use Rattle.lrat_replay.specs.Book.{Accepts, start}
use Rattle.lrat_replay.specs.Learned.{SpentWritten}
use Rattle.lrat_replay.specs.declared.line.LineKind.TheVariants.{Add}
use Rattle.lrat_replay.specs.declared.line.Step.{Step}
use Rattle.report_text.specs.declared.answer.Answer.{Answer}
use Rattle.report_text.specs.declared.answer.Answer.TheVariants as answers
use Rattle.report_text.specs.declared.answer.Proof.{Proof}
use Rattle.report_text.specs.declared.answer.Version.{Version}
use Rattle.report_text.specs.declared.answer.Version.TheVariants.{One, Two}
use Rattle.journal_text.specs.Good.{Listed, IsRefutedWhole, IsRefutedOn}
use Rattle.journal_text.specs.Parts.{Section, Part, Question}
use Rattle.journal_text.specs.Proved.{formula_of, IsRefuted, IsSpent}
use Rattle.journal_text.specs.declared.target.Close.TheVariants.{Refuted, Spent}
use Rattle.lattice_grid.specs.Defects.{Defects}
use Rattle.audit_core.specs.Audit.{Basis, Closes, IsRightSection, AreRight, ListsProofs}
use Rattle.audit_core.specs.Sought.{IsWholeOf, IsMarkedOf, ListsClosed, ListsClosedIn}
use Rattle.audit_core.proofs.SoughtLaws.{lists_alike, first_alike}

-- ---- parts

-- a list that is cut at an element
pub record IsCutAt {X : Type 0} (xs : List X) (x : X) : Type 0 where
  pub before : List X
  pub later : List X
  pub whole : xs ≡ before ++ x ∷ later

pub cut_at : {X : Type 0} (xs : List X) (x : X) → Contains xs x → IsCutAt xs x
cut_at [] x (k, w, e) = absurd (omega (arith, w))
cut_at (y ∷ xs) x among = elim (Contains-cases y xs x among) [
  | inl e ↦ record { before = []; later = xs; whole = ap (λ z. z ∷ xs) e }
  | inr k ↦ let cut = cut_at xs x k in record { before = y ∷ cut.before; later = cut.later; whole = ap (λ l. y ∷ l) cut.whole }
]

pub right_section_in : (basis : Basis) (parts : List Part) (s : Section) → AreRight basis parts → Contains parts (Question s) → IsRightSection basis s
right_section_in basis parts s right is_in = let cut = cut_at parts (Question s) is_in in right cut.before (Question s) cut.later cut.whole

pub right_before : (basis : Basis) (parts before : List Part) (p : Part) (later : List Part) → parts ≡ before ++ p ∷ later → AreRight basis parts → AreRight basis before
right_before basis parts before p later whole right a q b cut =
    right a q (b ++ p ∷ later) (whole ∙ ap (λ l. l ++ p ∷ later) cut ∙ append_assoc a (q ∷ b) (p ∷ later))

-- ---- sections

same_function : (o : Option Function) (f g : Function) → o ≡ Some f → o ≡ Some g → f ≡ g
same_function o f g p q = cc

Contains-add : (steps : List Step) (step : Step) → Contains steps step → Contains (map Add steps) (Add step)
Contains-add [] step (k, w, e) = absurd (omega (arith, w))
Contains-add (first ∷ steps) step among = elim (Contains-cases first steps step among) [
  | inl e ↦ subst (λ (s : Step). Contains (Add first ∷ map Add steps) (Add s)) e (Contains-head (Add first) (map Add steps))
  | inr k ↦ let more = Contains-add steps step k in (suc more.0, omega (arith, more.1), more.2)
]

-- a right section that closes as refuted is refuted
pub refuted_so : (basis : Basis) (s : Section) (f : Function) → IsRightSection basis s → slice_get basis.parts.functions s.output ≡ Some f → s.close ≡ Refuted → IsRefuted basis.rails f s
refuted_so basis s f right of closes =
    let same = same_function (slice_get basis.parts.functions s.output) right.function f right.replayed.of_output of in
    let last : Closes (formula_of basis.rails right.function s) s.steps Refuted = subst (Closes (formula_of basis.rails right.function s) s.steps) closes right.closes in
    record {
      close = closes;
      refutes = record {
        accepted = subst (λ (g : Function). Accepts (start (formula_of basis.rails g s)) (map Add s.steps)) same right.replayed.accepted;
        step = last.0;
        reached = Contains-add s.steps last.0 last.1;
        empty = last.2;
      };
    }

-- one that closes as spent is spent
pub spent_so : (basis : Basis) (s : Section) (f : Function) (budget : ℕ) → IsRightSection basis s → slice_get basis.parts.functions s.output ≡ Some f → s.close ≡ Spent budget → IsSpent basis.rails f budget s
spent_so basis s f budget right of closes =
    let same = same_function (slice_get basis.parts.functions s.output) right.function f right.replayed.of_output of in
    let last : SpentWritten (formula_of basis.rails right.function s) s.steps budget = subst (Closes (formula_of basis.rails right.function s) s.steps) closes right.closes in
    record { close = closes; spent = subst (λ (g : Function). SpentWritten (formula_of basis.rails g s) s.steps budget) same last }

-- ---- lists of proofs

module _ (basis : Basis) (before : List Part) (output : ℕ) (f : Function) (right : AreRight basis before) (of : slice_get basis.parts.functions output ≡ Some f) where
  of_section : (s : Section) → s.output ≡ output → slice_get basis.parts.functions s.output ≡ Some f
  of_section s e = ap (slice_get basis.parts.functions) e ∙ of

  whole_counts : (s : Section) → Contains before (Question s) → IsWholeOf output Refuted s ↔ IsRefutedWhole basis.rails output f s
  whole_counts s is_in = (
    λ h. (h.of_output, h.no_array, refuted_so basis s f (right_section_in basis before s right is_in) (of_section s h.of_output) h.closes),
    λ h. record { of_output = h.0; no_array = h.1; closes = h.2.close },
  )

  marked_counts : (a : Defects) (s : Section) → Contains before (Question s) → IsMarkedOf output a Refuted s ↔ IsRefutedOn basis.rails output f a s
  marked_counts a s is_in = (
    λ h. (h.of_output, h.array_is, refuted_so basis s f (right_section_in basis before s right is_in) (of_section s h.of_output) h.closes),
    λ h. record { of_output = h.0; array_is = h.1; closes = h.2.close },
  )

  pub closed_listed : (answer : Answer) (proofs : List Proof) → ListsClosed output before answer proofs ↔ Listed basis.rails output f before answer proofs
  closed_listed (answers.Found g) proofs = (λ h. h, λ h. h)
  closed_listed (answers.Minimum g) proofs = (
    λ h. lists_alike (IsWholeOf output Refuted) (IsRefutedWhole basis.rails output f) before proofs whole_counts h,
    λ h. lists_alike (IsRefutedWhole basis.rails output f) (IsWholeOf output Refuted) before proofs (λ s m. ((whole_counts s m).1, (whole_counts s m).0)) h,
  )
  closed_listed (answers.Undecided g least at after) proofs = (
    λ h. lists_alike (IsWholeOf output Refuted) (IsRefutedWhole basis.rails output f) before proofs whole_counts h,
    λ h. lists_alike (IsRefutedWhole basis.rails output f) (IsWholeOf output Refuted) before proofs (λ s m. ((whole_counts s m).1, (whole_counts s m).0)) h,
  )
  closed_listed (answers.Mapped g a) proofs = (λ h. h, λ h. h)
  closed_listed (answers.NoneMapped a) proofs = (
    λ h. first_alike (IsMarkedOf output a Refuted) (IsRefutedOn basis.rails output f a) before proofs (marked_counts a) h,
    λ h. first_alike (IsRefutedOn basis.rails output f a) (IsMarkedOf output a Refuted) before proofs (λ s m. ((marked_counts a s m).1, (marked_counts a s m).0)) h,
  )
  closed_listed (answers.MapUndecided a after) proofs = (λ h. h, λ h. h)
  closed_listed (answers.NoRails on off) proofs = (λ h. h, λ h. h)

  pub closed_listed_in : (version : Version) (answer : Answer) (proofs : List Proof) → ListsClosedIn version output before answer proofs ↔ ListsProofs version basis.rails output f before answer proofs
  closed_listed_in One answer proofs = (λ h. h, λ h. h)
  closed_listed_in Two answer proofs = closed_listed answer proofs
