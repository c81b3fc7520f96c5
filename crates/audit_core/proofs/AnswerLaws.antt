-- The first demand that an answer does not meet.
use Rattle.std.proofs.Common.{◌≡◌, ℕ, ◌<◌, List, [], ◌∷◌, ◌++◌, length, arith, refl, sym, subst, inl, inr, Some}
use Rattle.std.specs.Prelude.{IfSome, slice_get, slice_index_or}
use Rattle.std.proofs.lemmas.Option.{slice_get_within}
use Rattle.cube_core.specs.Function.{Function}
use Rattle.lattice_grid.specs.Rectangle.{Size}
use Rattle.journal_text.specs.Parts.{Part}
use Rattle.pla_reader.specs.Parts.{Parts, IsPla}
use Rattle.lattice_grid.specs.Lattice.{Lattice}
use Rattle.lattice_grid.specs.Rails.{IsOverRails}
use Rattle.path_meaning.specs.Defective.{RealisesIn}
use Rattle.path_meaning.specs.Failing.{IsLeastFailureIn, FailsIn}
use Rattle.report_text.specs.Form.{lattice_of}
use Rattle.audit_core.specs.Audit.{Basis, Claim, IsOf, Demand, demands, Meets, AreMet, IsFirstUnmet, Tells, IsRightAnswer, IsAnswerRefused, array_in}
use Rattle.audit_core.specs.Audit.Demand.{OfPair, OfLiterals, OfValues, OfArea, OfCover, OfSection, OfProofs}
use Rattle.audit_core.specs.Sought.{IsNamed, IsNext, Keeps}
use Rattle.audit_core.specs.Tested.{IsTold, IsBehind, AreAll}
use Rattle.audit_core.specs.declared.asked.Asked.{Asked}
use Rattle.audit_core.specs.declared.refusal.AuditRefusal.{AuditRefusal}
use Rattle.audit_core.specs.declared.refusal.AuditRefusal.TheVariants as refusals

-- ---- the output

pub of_named : (c : Claim) (least : ℕ) (f : Function) → IsNext c.before least → IsNamed c.basis.parts least c.block f → IsOf c f
of_named c least f next h = record { later = (next c.block.output).1 h.later; name = h.name; function = h.function }

pub named_of : (c : Claim) (least : ℕ) (f : Function) → IsNext c.before least → IsOf c f → IsNamed c.basis.parts least c.block f
named_of c least f next h = record { later = (next c.block.output).0 h.later; name = h.name; function = h.function }

pub no_output : (c : Claim) (least line : ℕ) → IsNext c.before least → ((f : Function) → IsNamed c.basis.parts least c.block f → ⊥) → IsAnswerRefused c line (refusals.Output line)
no_output c least line next none = inl (λ f h. none f (named_of c least f next h), refl)

-- ---- the first that is not met

pub told_here : (c : Claim) (f : Function) (line : ℕ) (d : Demand) (ds : List Demand) (r : AuditRefusal) → (Meets c f d → ⊥) → Tells c.block.answer f line d r → IsTold c f line (d ∷ ds) r
told_here c f line d ds r not tells = record { demand = d; first = inl (not, refl); tells = tells }

pub told_later : (c : Claim) (f : Function) (line : ℕ) (d : Demand) (ds : List Demand) (r : AuditRefusal) → Meets c f d → IsTold c f line ds r → IsTold c f line (d ∷ ds) r
told_later c f line d ds r met h = record { demand = h.demand; first = inr (met, h.first); tells = h.tells }

first_front : (IsMet : Demand → Type 0) (ds es : List Demand) (d : Demand) → IsFirstUnmet IsMet ds d → IsFirstUnmet IsMet (ds ++ es) d
first_front IsMet [] es d h = absurd h
first_front IsMet (x ∷ ds) es d (inl h) = inl h
first_front IsMet (x ∷ ds) es d (inr h) = inr (h.0, first_front IsMet ds es d h.1)

pub told_front : (c : Claim) (f : Function) (line : ℕ) (ds es : List Demand) (r : AuditRefusal) → IsTold c f line ds r → IsTold c f line (ds ++ es) r
told_front c f line ds es r h = record { demand = h.demand; first = first_front (Meets c f) ds es h.demand h.first; tells = h.tells }

pub told_unmet : (c : Claim) (f : Function) (line : ℕ) (r : AuditRefusal) → IsOf c f → IsTold c f line demands r → IsAnswerRefused c line r
told_unmet c f line r of h = inr (record { function = f; of_output = of; demand = h.demand; first = h.first; tells = h.tells })

-- ---- the lattice

module _ (c : Claim) (f : Function) (g : Lattice) (is : lattice_of c.block.answer ≡ Some g) where
  with_lattice : (P : Lattice → Type 0) → P g → IfSome (lattice_of c.block.answer) P
  with_lattice P p = subst (λ o. IfSome o P) (sym is) p

  of_lattice : (P : Lattice → Type 0) → IfSome (lattice_of c.block.answer) P → P g
  of_lattice P p = subst (λ o. IfSome o P) is p

  pub literal : (line : ℕ) → (IsOverRails c.basis.parts.inputs c.basis.rails g → ⊥) → IsTold c f line (OfLiterals ∷ OfValues ∷ []) (refusals.Literal line)
  literal line not = told_here c f line OfLiterals (OfValues ∷ []) (refusals.Literal line) (λ h. not (of_lattice (IsOverRails c.basis.parts.inputs c.basis.rails) h)) refl

  fails_not : (x : ℕ) → IsLeastFailureIn g (array_in c.block.answer) f x → RealisesIn g f (array_in c.block.answer) → ⊥
  fails_not x h realises = by h.fails where
    by : FailsIn g (array_in c.block.answer) f x → ⊥
    by (inl k) = k.1 (realises.on x k.0)
    by (inr k) = realises.off x k.0 k.1

  pub wrong_values : (line x : ℕ) → IsOverRails c.basis.parts.inputs c.basis.rails g → IsLeastFailureIn g (array_in c.block.answer) f x → IsTold c f line (OfLiterals ∷ OfValues ∷ []) (refusals.Wrong line x)
  wrong_values line x over fails =
      told_later c f line OfLiterals (OfValues ∷ []) (refusals.Wrong line x) (with_lattice (IsOverRails c.basis.parts.inputs c.basis.rails) over)
      (told_here c f line OfValues [] (refusals.Wrong line x) (λ h. fails_not x fails (of_lattice (λ k. RealisesIn k f (array_in c.block.answer)) h)) (x, with_lattice (λ k. IsLeastFailureIn k (array_in c.block.answer) f x) fails, refl))

-- ---- all demands

-- what is told of a demand behind those of lattices
pub told_behind : (c : Claim) (f : Function) (line : ℕ) (r : AuditRefusal) → AreMet (Meets c f) (OfPair ∷ OfLiterals ∷ OfValues ∷ OfArea ∷ []) → IsTold c f line (OfCover ∷ OfSection ∷ OfProofs ∷ []) r → IsTold c f line demands r
told_behind c f line r met h =
    told_later c f line OfPair (OfLiterals ∷ OfValues ∷ OfArea ∷ OfCover ∷ OfSection ∷ OfProofs ∷ []) r met.0
    (told_later c f line OfLiterals (OfValues ∷ OfArea ∷ OfCover ∷ OfSection ∷ OfProofs ∷ []) r met.1.0
    (told_later c f line OfValues (OfArea ∷ OfCover ∷ OfSection ∷ OfProofs ∷ []) r met.1.1.0
    (told_later c f line OfArea (OfCover ∷ OfSection ∷ OfProofs ∷ []) r met.1.1.1.0 h)))

pub all_are_met : (c : Claim) (f : Function) → IsOf c f → AreMet (Meets c f) (OfPair ∷ OfLiterals ∷ OfValues ∷ OfArea ∷ []) → AreMet (Meets c f) (OfCover ∷ OfSection ∷ OfProofs ∷ []) → IsRightAnswer c
all_are_met c f of met more = record { function = f; of_output = of; met = (met.0, (met.1.0, (met.1.1.0, (met.1.1.1.0, more)))) }

-- ---- whatever stands before it

-- what is told of the lattice of an answer alone is told of it behind any parts
pub told_anywhere : (c : Claim) (before : List Part) (f : Function) (line : ℕ) (r : AuditRefusal) → IsTold c f line (OfPair ∷ OfLiterals ∷ OfValues ∷ OfArea ∷ []) r
    → IsTold (record { basis = c.basis; before = before; block = c.block }) f line (OfPair ∷ OfLiterals ∷ OfValues ∷ OfArea ∷ []) r
told_anywhere c before f line r h = record { demand = h.demand; first = h.first; tells = h.tells }

pub kept_of : (basis : Basis) (before : List Part) (output : ℕ) (asked : List Asked) (lists : List (List Size)) (list : List Size) → output < length lists → list ≡ slice_index_or lists output [] → AreAll basis before asked lists
    → IsBehind basis before asked output list
kept_of basis before output asked lists list within is h = record {
  right = h.right;
  sections = h.sections;
  kept = subst (Keeps before output) (sym is) (h.kept.each output (let many = h.kept.many in omega (arith, many, within)));
}

pub list_within : (parts : Parts) (output : ℕ) (f : Function) (lists : List (List Size)) → IsPla parts → length lists ≡ parts.outputs → slice_get parts.functions output ≡ Some f → output < length lists
list_within parts output f lists pla many of =
    let within = slice_get_within parts.functions output f of in
    let all = pla.functions in
    omega (arith, within, all, many)
