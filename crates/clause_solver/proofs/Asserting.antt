-- The learned clause has one literal of the last level: first a value of that level is looked for, the only one that is left, and then it is found.
use Rattle.std.proofs.Common.{◌≡◌, true, false, List, [], ◌∷◌, ◌++◌, ◌⊎◌, inl, inr, refl, ap, sym, ◌∙◌, subst}
use Rattle.std.proofs.lemmas.Bool.{both_ways, true≢false, or_left, or_right, or_cases}
use Rattle.clause_core.specs.Literal.{Literal, flip, same, has}
use Rattle.clause_core.proofs.Tools.{flip-flip, has-cases, same-refl}
use Rattle.lrat_replay.specs.Status.{Known, Rests, IsConflict}
use Rattle.lrat_replay.proofs.Tools.{IsConsistent, IsWithin}
use Rattle.clause_solver.specs.Trail.{known_by, IsFresh}
use Rattle.clause_solver.specs.Analysis.{IsSomeSeen, IsNoneSeen, IsFound, IsSought}
use Rattle.clause_solver.specs.declared.value.Value.{Value}
use Rattle.clause_solver.proofs.AnalyseLaws.{value_cases}
use Rattle.clause_solver.proofs.Reduce.{value-first, value-older}
use Rattle.clause_solver.proofs.Marking.{has-push}

pub has-pushed : (xs : List Literal) (x : Literal) → has (xs ++ x ∷ []) x ≡ true
has-pushed [] x = has-first x [] where
  has-first : (l : Literal) (ls : List Literal) → has (l ∷ ls) l ≡ true
  has-first l ls = or_left (same l l) (has ls l) (same-refl l)
has-pushed (y ∷ ys) x = or_right (same y x) (has (ys ++ x ∷ []) x) (has-pushed ys x)

pub has-kept : (xs : List Literal) (x l : Literal) → has xs l ≡ true → has (xs ++ x ∷ []) l ≡ true
has-kept [] x l h = absurd (true≢false (sym h))
has-kept (y ∷ ys) x l h = elim (or_cases (same y l) (has ys l) h) [
  | inl e ↦ or_left (same y l) (has (ys ++ x ∷ []) l) e
  | inr e ↦ or_right (same y l) (has (ys ++ x ∷ []) l) (has-kept ys x l e)
]

module _ (before : Known) where
  -- the clause in conflict rested before the last decision, so one of its literals became false after it
  pub sought_first : (now : List Value) → IsConsistent (known_by now) → IsWithin before (known_by now) → (conflict : List Literal) → Rests before conflict → IsConflict (known_by now) conflict →
      (seen : Known) → ((l : Literal) → has conflict l ≡ true → seen (flip l) ≡ true) → IsSought before now seen []
  sought_first now consistent within conflict rests c seen marked = elim rests [
    | inl r ↦ absurd (consistent r.lit (within r.lit r.is_known) (c.all r.lit r.is_in))
    | inr r ↦ inl (refl, record { lit = flip r.one; is_seen = marked r.one r.one_in; is_now = c.all r.one r.one_in; is_late = r.one_unknown })
  ]

  module _ (v : Value) (older : List Value) (seen : Known) (clause : List Literal) (s : IsSought before (v ∷ older) seen clause) where
    pub sought_pass : seen v.lit ≡ false → IsSought before older seen clause
    sought_pass u = elim s [
      | inl k ↦ inl (
        k.0,
        record {
          lit = k.1.lit;
          is_seen = k.1.is_seen;
          is_late = k.1.is_late;
          is_now = elim (value_cases v older k.1.lit k.1.is_now) [
            | inl e ↦ absurd (both_ways (seen v.lit) u (ap seen e ∙ k.1.is_seen))
            | inr e ↦ e
          ];
        },
      )
      | inr f ↦ inr (record { lit = f.lit; is_in = f.is_in; fresh = f.fresh; others = f.others; none = λ x q o. f.none x q (value-older v older x o) })
    ]

    module _ (q : seen v.lit ≡ true) (below : before v.lit ≡ true → (x : Literal) → known_by older x ≡ true → before x ≡ true) where
      not_below : IsSomeSeen before (v ∷ older) seen → before v.lit ≡ true → ⊥
      not_below k b = elim (value_cases v older k.lit k.is_now) [
        | inl e ↦ both_ways (before k.lit) k.is_late (ap before (sym e) ∙ b)
        | inr e ↦ both_ways (before k.lit) k.is_late (below b k.lit e)
      ]

      -- a value of the last level is resolved where another one of it was seen; one of an older level at any time
      pub sought_resolve : (seen' : Known) → ((x : Literal) → seen x ≡ true → seen' x ≡ true) → IsSomeSeen before older seen ⊎ (before v.lit ≡ true) → IsSought before older seen' clause
      sought_resolve seen' more where_is = elim s [
        | inl k ↦ elim where_is [
          | inl w ↦ inl (k.0, record { lit = w.lit; is_seen = more w.lit w.is_seen; is_now = w.is_now; is_late = w.is_late })
          | inr b ↦ absurd (not_below k.1 b)
        ]
        | inr f ↦ inr (record { lit = f.lit; is_in = f.is_in; fresh = f.fresh; others = f.others; none = λ x m o. below (f.none v.lit q (value-first v older)) x o })
      ]

      -- the only one of the last level that is left is kept; one of an older level at any time
      pub sought_keep : (IsFresh before v.lit × IsNoneSeen before older seen) ⊎ (before v.lit ≡ true) → IsSought before older seen (clause ++ flip v.lit ∷ [])
      sought_keep where_is = elim s [
        | inl k ↦ elim where_is [
          | inl w ↦ inr (record {
            lit = flip v.lit;
            is_in = has-pushed clause (flip v.lit);
            fresh = record { unknown = w.0.flip_unknown; flip_unknown = ap before (flip-flip v.lit) ∙ w.0.unknown };
            others = λ l m. inl (only l (subst (λ c. has (c ++ flip v.lit ∷ []) l ≡ true) k.0 m));
            none = w.1;
          })
          | inr b ↦ absurd (not_below k.1 b)
        ]
        | inr f ↦
            let b : before v.lit ≡ true = f.none v.lit q (value-first v older) in
            inr (record {
              lit = f.lit;
              is_in = has-kept clause (flip v.lit) f.lit f.is_in;
              fresh = f.fresh;
              others = λ l m. elim (has-push clause (flip v.lit) l m) [
                | inl h ↦ f.others l h
                | inr e ↦ inr (ap (λ x. before (flip x)) (sym e) ∙ ap before (flip-flip v.lit) ∙ b)
              ];
              none = λ x m o. f.none x m (value-older v older x o);
            })
      ] where
        only : (l : Literal) → has ([] ++ flip v.lit ∷ []) l ≡ true → flip v.lit ≡ l
        only l m = elim (has-cases (flip v.lit) l [] m) [ inl e ↦ e | inr e ↦ absurd (true≢false (sym e)) ]

  pub sought_end : (seen : Known) (clause : List Literal) → IsSought before [] seen clause → IsFound before [] seen clause
  sought_end seen clause s = elim s [ inl k ↦ absurd (true≢false (sym k.1.is_now)) | inr f ↦ f ]
