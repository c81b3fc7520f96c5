-- For the crate's own proofs: what is kept of sections, without their steps.
use Rattle.std.specs.Prelude.{◌≡◌, ◌⊎◌, List, [], ◌∷◌, length}
use Rattle.report_text.specs.declared.answer.Proof.{Proof}
use Rattle.journal_text.specs.Parts.{Section, Part, Question, Answered, size_of}
use Rattle.audit_core.specs.declared.asked.Asked.{Asked}

abbrev pub asked_of : Section → Asked
asked_of s = record { output = s.output; target = s.target; steps = length s.steps; close = s.close }

-- what is kept of the sections among parts
abbrev pub asked_in : List Part → List Asked
asked_in [] = []
asked_in (Question s ∷ parts) = asked_of s ∷ asked_in parts
asked_in (Answered block ∷ parts) = asked_in parts

-- the section as if it had no steps
abbrev pub bare : Asked → Section
bare a = record { output = a.output; target = a.target; steps = []; close = a.close }

-- what a list of proofs says of it
abbrev pub told_of : Asked → Proof
told_of a = record { shape = size_of a.target; steps = a.steps }

-- of these sections those that count are the ones of this list, in order
abbrev pub ListsAsked : (Section → Type 0) → List Asked → List Proof → Type 0
ListsAsked Counts [] proofs = proofs ≡ []
ListsAsked Counts (a ∷ asked) proofs =
    (Counts (bare a) × (later : List Proof) × (proofs ≡ told_of a ∷ later) × ListsAsked Counts asked later)
    ⊎ ((Counts (bare a) → ⊥) × ListsAsked Counts asked proofs)

-- the first of them alone
pub record ListsFirstAsked (Counts : Section → Type 0) (asked : List Asked) (proofs : List Proof) : Type 0 where
  pub proof : Proof
  pub later : List Proof
  pub all : ListsAsked Counts asked (proof ∷ later)
  pub one : proofs ≡ proof ∷ []
