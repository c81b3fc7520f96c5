-- What lists of hints can come to: nothing, where a set of literals rests; and acceptance, where each hint forces the next literal.
use Rattle.std.proofs.Common.{◌≡◌, ℕ, true, List, [], ◌∷◌, ◌++◌, inl, inr, refl, ap, sym, ◌∙◌, subst, ℤ, pos, negsuc, Option, None, Some}
use Rattle.std.proofs.lemmas.Bool.{or_cases, both_ways}
use Rattle.lrat_replay.specs.declared.status.Status.{Status}
use Rattle.lrat_replay.specs.declared.status.Status.TheVariants.{Satisfied, Unresolved, Forces, Conflict}
use Rattle.clause_core.specs.Literal.{Literal, flip, same}
use Rattle.clause_core.proofs.Tools.{same-true}
use Rattle.lrat_replay.specs.Status.{Known, status, with_literal}
use Rattle.lrat_replay.specs.Book.{Outcome, Accepted, Refused, Unfinished, run}
use Rattle.lrat_replay.specs.declared.fault.StepFault.TheVariants.{Unknown, Loose}
use Rattle.lrat_replay.specs.declared.fault.StepFault.TheVariants as faults
use Rattle.lrat_replay.specs.Status.{Rests, IsUnit, IsConflict}
use Rattle.lrat_replay.proofs.StatusLaws.{forces-is, conflict-is, is-forces, is-conflict}

-- no literal is known together with its complement
abbrev pub IsConsistent : Known → Type 0
IsConsistent known = (l : Literal) → known l ≡ true → known (flip l) ≡ true → ⊥

abbrev pub IsWithin : Known → Known → Type 0
IsWithin known all = (l : Literal) → known l ≡ true → all l ≡ true

-- a hint that names a clause, by its status
abbrev pub hinted : (ℕ → Option (List Literal)) → Known → List ℤ → Option (List Literal) → Outcome
hinted at known hints None = Refused Unknown
hinted at known hints (Some clause) = elim (status known clause) [
  | Satisfied ↦ Refused faults.Satisfied
  | Unresolved ↦ Refused Loose
  | Forces l ↦ run at (with_literal known l) hints
  | Conflict ↦ Accepted
]

module _ (at : ℕ → Option (List Literal)) where
  pub run-hinted : (known : Known) (id : ℕ) (hints : List ℤ) → run at known (pos id ∷ hints) ≡ hinted at known hints (at id)
  run-hinted known id hints = by (at id) where
    by : (o : Option (List Literal)) → elim o [
      | None ↦ Refused Unknown
      | Some clause ↦ elim (status known clause) [
        | Satisfied ↦ Refused faults.Satisfied
        | Unresolved ↦ Refused Loose
        | Forces l ↦ run at (with_literal known l) hints
        | Conflict ↦ Accepted
      ]
    ] ≡ hinted at known hints o
    by None = refl
    by (Some clause) = refl

  -- all is a set of literals under which each clause rests, as a trail after propagation, or a valuation that satisfies
  module _ (all : Known) (consistent : IsConsistent all) (rest : (id : ℕ) (clause : List Literal) → at id ≡ Some clause → Rests all clause) where
    no_clash : (known : Known) → IsWithin known all → (clause : List Literal) → Rests all clause → status known clause ≡ Conflict → ⊥
    no_clash known h clause r t = let c = conflict-is known clause t in elim r [
      | inl s ↦ consistent s.lit s.is_known (h (flip s.lit) (c.all s.lit s.is_in))
      | inr w ↦ both_ways (all (flip w.one)) w.one_unknown (h (flip w.one) (c.all w.one w.one_in))
    ]

    forced_in : (known : Known) → IsWithin known all → (clause : List Literal) (u : Literal) → Rests all clause → status known clause ≡ Forces u → all u ≡ true
    forced_in known h clause u r t = let c = forces-is known clause u t in elim r [
      | inl s ↦ elim (c.others s.lit s.is_in) [
        | inl e ↦ subst (λ l. all l ≡ true) (sym e) s.is_known
        | inr e ↦ absurd (consistent s.lit s.is_known (h (flip s.lit) e))
      ]
      | inr w ↦ elim (c.others w.one w.one_in) [
        | inl e ↦ elim (c.others w.two w.two_in) [
          | inl f ↦ absurd (w.apart (sym e ∙ f))
          | inr f ↦ absurd (both_ways (all (flip w.two)) w.two_unknown (h (flip w.two) f))
        ]
        | inr e ↦ absurd (both_ways (all (flip w.one)) w.one_unknown (h (flip w.one) e))
      ]
    ]

    within-with : (known : Known) (u : Literal) → IsWithin known all → all u ≡ true → IsWithin (with_literal known u) all
    within-with known u h t l m = elim (or_cases (same u l) (known l) m) [
      | inl e ↦ subst (λ x. all x ≡ true) (same-true u l e) t
      | inr e ↦ h l e
    ]

    -- no hints lead out of it
    abbrev Stays : Outcome → Type 0
    Stays o = (o ≡ Accepted → ⊥) × ((k : Known) → o ≡ Unfinished k → IsWithin k all)

    by_turn : (known : Known) → IsWithin known all → (hints : List ℤ) → ((u : Literal) → all u ≡ true → Stays (run at (with_literal known u) hints)) →
        (clause : List Literal) → Rests all clause → (t : Status) → status known clause ≡ t → Stays (elim t [
          | Satisfied ↦ Refused faults.Satisfied
          | Unresolved ↦ Refused Loose
          | Forces l ↦ run at (with_literal known l) hints
          | Conflict ↦ Accepted
        ])
    by_turn known h hints more clause r Satisfied e = (λ f. cc, λ k f. absurd (cc))
    by_turn known h hints more clause r Unresolved e = (λ f. cc, λ k f. absurd (cc))
    by_turn known h hints more clause r Conflict e = absurd (no_clash known h clause r e)
    by_turn known h hints more clause r (Forces u) e = more u (forced_in known h clause u r e)

    by_clause : (known : Known) → IsWithin known all → (hints : List ℤ) → ((u : Literal) → all u ≡ true → Stays (run at (with_literal known u) hints)) →
        (id : ℕ) (o : Option (List Literal)) → at id ≡ o → Stays (hinted at known hints o)
    by_clause known h hints more id None e = (λ f. cc, λ k f. absurd (cc))
    by_clause known h hints more id (Some clause) e = by_turn known h hints more clause (rest id clause e) (status known clause) refl

    pub stays : (known : Known) → IsWithin known all → (hints : List ℤ) → (run at known hints ≡ Accepted → ⊥) × ((k : Known) → run at known hints ≡ Unfinished k → IsWithin k all)
    stays known h [] = (λ e. cc, λ k e. let f : known ≡ k = cc in subst (λ x. IsWithin x all) f h)
    stays known h (negsuc n ∷ hints) = (λ e. cc, λ k e. absurd (cc))
    stays known h (pos id ∷ hints) = subst Stays (sym (run-hinted known id hints))
        (by_clause known h hints (λ u t. stays (with_literal known u) (within-with known u h t) hints) id (at id) refl)

-- a step of a derivation: a hint, and the literal that its clause forces
pub record Entry : Type 0 where
  pub id : ℕ
  pub lit : Literal

abbrev pub hints_of : List Entry → List ℤ
hints_of [] = []
hints_of (e ∷ es) = pos e.id ∷ hints_of es

-- the clause of this identifier forces the literal
pub record IsForcedBy (at : ℕ → Option (List Literal)) (known : Known) (id : ℕ) (l : Literal) : Type 0 where
  pub clause : List Literal
  pub found : at id ≡ Some clause
  pub forces : IsUnit known clause l

-- each entry's clause forces its literal where the literals before it are known
abbrev pub Derives : (ℕ → Option (List Literal)) → Known → List Entry → Type 0
Derives at known [] = Unit {0}
Derives at known (e ∷ es) = IsForcedBy at known e.id e.lit × Derives at (with_literal known e.lit) es

-- what is known after them
abbrev pub after : Known → List Entry → Known
after known [] = known
after known (e ∷ es) = after (with_literal known e.lit) es

module _ (at : ℕ → Option (List Literal)) where
  hinted-forces : (known : Known) (hints : List ℤ) (clause : List Literal) (u : Literal) → status known clause ≡ Forces u → hinted at known hints (Some clause) ≡ run at (with_literal known u) hints
  hinted-forces known hints clause u e = ap (λ t. elim t [
    | Satisfied ↦ Refused faults.Satisfied
    | Unresolved ↦ Refused Loose
    | Forces l ↦ run at (with_literal known l) hints
    | Conflict ↦ Accepted
  ]) e

  hinted-clashes : (known : Known) (hints : List ℤ) (clause : List Literal) → status known clause ≡ Conflict → hinted at known hints (Some clause) ≡ Accepted
  hinted-clashes known hints clause e = ap (λ t. elim t [
    | Satisfied ↦ Refused faults.Satisfied
    | Unresolved ↦ Refused Loose
    | Forces l ↦ run at (with_literal known l) hints
    | Conflict ↦ Accepted
  ]) e

  -- a hint whose clause forces a literal, and one whose clause clashes
  pub run-forces : (known : Known) (id : ℕ) (hints : List ℤ) (clause : List Literal) (u : Literal) → at id ≡ Some clause → status known clause ≡ Forces u → run at known (pos id ∷ hints) ≡ run at (with_literal known u) hints
  run-forces known id hints clause u found t = run-hinted at known id hints ∙ ap (hinted at known hints) found ∙ hinted-forces known hints clause u t

  pub run-conflict : (known : Known) (id : ℕ) (hints : List ℤ) (clause : List Literal) → at id ≡ Some clause → status known clause ≡ Conflict → run at known (pos id ∷ hints) ≡ Accepted
  run-conflict known id hints clause found t = run-hinted at known id hints ∙ ap (hinted at known hints) found ∙ hinted-clashes known hints clause t

  -- such a derivation, and then a clause that clashes, is accepted
  pub accepted : (known : Known) (es : List Entry) (last : ℕ) (clause : List Literal) → Derives at known es → at last ≡ Some clause → IsConflict (after known es) clause → run at known (hints_of es ++ pos last ∷ []) ≡ Accepted
  accepted known [] last clause d found c = run-hinted at known last [] ∙ ap (hinted at known []) found ∙ hinted-clashes known [] clause (is-conflict known clause c)
  accepted known (e ∷ es) last clause d found c =
      run-hinted at known e.id (hints_of es ++ pos last ∷ []) ∙ ap (hinted at known (hints_of es ++ pos last ∷ [])) d.0.found
      ∙ hinted-forces known (hints_of es ++ pos last ∷ []) d.0.clause e.lit (is-forces known d.0.clause e.lit d.0.forces)
      ∙ accepted (with_literal known e.lit) es last clause d.1 found c
