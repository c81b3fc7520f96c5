-- Pieces joined by a separator.
use Rattle.std.proofs.Common.{inl, inr, ◌≡◌, ◌≢◌, ℕ, ◌≤◌, ◌<◌, List, [], ◌∷◌, ◌++◌, length, refl, sym, ap, ◌∙◌, subst, arith, append_assoc}
use Rattle.std.specs.List.{AllByRecursion, join_with_byte, flat_map}
use Rattle.std.proofs.lemmas.List.{append-nil}
use Rattle.std.proofs.lemmas.List.Splits.{join_with_byte-slice_split}
use Rattle.report_text.specs.Pieces.{Without, pieces}
use Rattle.report_text.proofs.PiecesLaws.{pieces-none, pieces-cut, Without-append}
use Rattle.report_text.proofs.SpellLaws.{Spells, SpellsLine}

pub pieces-join : (at : ℕ) (ps : List (List ℕ)) → 0 < length ps → AllByRecursion (Without at) ps → pieces at (join_with_byte at ps) ≡ ps
pieces-join at [] some h = absurd (omega arith)
pieces-join at (p ∷ []) some h = pieces-none at p h.0
pieces-join at (p ∷ q ∷ ps) some h = pieces-cut at p (join_with_byte at (q ∷ ps)) h.0 ∙ ap (λ z. p ∷ z) (pieces-join at (q ∷ ps) (omega arith) h.1)

pub join-pieces : (at : ℕ) (bytes : List ℕ) → join_with_byte at (pieces at bytes) ≡ bytes
join-pieces at bytes = join_with_byte-slice_split at bytes

pub Without-join : (at sep : ℕ) (ps : List (List ℕ)) → sep ≢ at → AllByRecursion (Without at) ps → Without at (join_with_byte sep ps)
Without-join at sep [] ne h = tt
Without-join at sep (p ∷ []) ne h = h.0
Without-join at sep (p ∷ q ∷ ps) ne h = Without-append at p (sep ∷ join_with_byte sep (q ∷ ps)) h.0 (ne, Without-join at sep (q ∷ ps) ne h.1)

-- the first piece, and each further one behind a separator
pub join-behind : (sep : ℕ) (p : List ℕ) (ps : List (List ℕ)) → join_with_byte sep (p ∷ ps) ≡ p ++ flat_map (λ q. sep ∷ q) ps
join-behind sep p [] = sym (append-nil p)
join-behind sep p (q ∷ ps) = ap (λ z. p ++ (sep ∷ z)) (join-behind sep q ps)

-- what can be told of the pieces can be told of them joined
pub joined : {A : Type 0} {Is : A → Type 0} {line : A → List (List ℕ)} (sep : ℕ) → 33 ≤ sep → ((x : A) → Is x → (0 < length (line x)) × AllByRecursion (Without sep) (line x)) → SpellsLine A Is line
    → Spells A Is (λ x. join_with_byte sep (line x))
joined {A} {Is} {line} sep above apart T = record {
  same = λ x y p q e.
      let one = apart x p in
      let two = apart y q in
      T.same x y p q (sym (pieces-join sep (line x) one.0 one.1) ∙ ap (pieces sep) e ∙ pieces-join sep (line y) two.0 two.1);
  plain = λ at h x p. Without-join at sep (line x) (λ e. omega (arith, e, h, above)) (T.plain at h x p);
  tested = λ w. elim (T.tested (pieces sep w)) [
    | inl (x, p, e) ↦ inl (x, p, sym (join-pieces sep w) ∙ ap (join_with_byte sep) e)
    | inr none ↦ inr (λ (x, p, f). let one = apart x p in none (x, p, ap (pieces sep) f ∙ pieces-join sep (line x) one.0 one.1))
  ];
}
