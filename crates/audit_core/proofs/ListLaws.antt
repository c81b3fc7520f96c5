-- Loops over parts that seek sections.
use Rattle.std.proofs.Common.{◌≡◌, ℕ, ◌+◌, ◌<◌, ◌≤◌, List, length, get_or, take, map, sym, subst}
use Rattle.std.specs.Prelude.{Any, All}
use Rattle.std.proofs.lemmas.List.{take_all}
use Rattle.std.proofs.lemmas.List.Elements.{All-more}
use Rattle.lattice_grid.specs.Defects.{Defects}
use Rattle.journal_text.specs.Parts.{part_of}
use Rattle.journal_text.specs.Proved.{HasMarked}
use Rattle.journal_text.specs.declared.journal.Part.{Part as PartRead}
use Rattle.journal_text.specs.declared.target.Close.{Close}
use Rattle.audit_core.specs.Sought.{IsMarkedOf, IsSection}
use Rattle.audit_core.proofs.SoughtLaws.{Any_map, has_marked_so}

-- ---- some part

pub none_found : {X : Type 0} (P : X → Type 0) (xs : List X) → All (λ x. P x → ⊥) xs → Any P xs → ⊥
none_found P xs none (k, x, w, e, p) = none k x w (subst P (sym e) p)

module _ (parts : List PartRead) (output : ℕ) (array : Defects) (close : Close) where
  pub no_marked : All (λ p. IsSection (IsMarkedOf output array close) (part_of p) → ⊥) parts → HasMarked (map part_of parts) output array (λ q. q.close ≡ close) → ⊥
  no_marked none h =
      none_found (λ x. IsSection (IsMarkedOf output array close) (part_of x)) parts none
      ((Any_map part_of (IsSection (IsMarkedOf output array close)) parts).1 ((has_marked_so (map part_of parts) output array close).1 h))

-- one more part is not what is sought
pub none_more : (P : PartRead → Type 0) (parts : List PartRead) (i : ℕ) (p : PartRead) → i < length parts → p ≡ get_or parts i p → All (λ x. P x → ⊥) (take i parts) → (P p → ⊥) → All (λ x. P x → ⊥) (take (i + 1) parts)
none_more P parts i p within is none not = All-more (λ x. P x → ⊥) parts i p within none (subst (λ x. P x → ⊥) is not)

pub none_all : (P : PartRead → Type 0) (parts : List PartRead) (i : ℕ) → length parts ≤ i → All (λ x. P x → ⊥) (take i parts) → All (λ x. P x → ⊥) parts
none_all P parts i ended none = subst (All (λ x. P x → ⊥)) (take_all i parts ended) none
