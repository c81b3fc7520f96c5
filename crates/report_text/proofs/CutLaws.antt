-- The place of the first separator cuts the bytes.
use Rattle.std.proofs.Common.{inl, inr, ◌≡◌, ℕ, suc, zero, ◌+◌, ◌-◌, ◌<◌, Bool, false, cond, eqb, List, [], ◌∷◌, ◌++◌, length, get_or, take, drop, sym, ap, ◌∙◌, arith, Some, None}
use Rattle.std.specs.List.{position, position_or_len}
use Rattle.std.proofs.lemmas.Bool.{eqb-true, eqb-false, cases_lt, lt-ltb}
use Rattle.std.proofs.lemmas.List.{take-append-drop, take_rest, drop_more}
use Rattle.std.proofs.lemmas.List.Quantifiers.{position-Some}
use Rattle.std.proofs.lemmas.List.Sums.{fails_before_first}
use Rattle.report_text.specs.Pieces.{Without, Cuts}

abbrev pub is_at : ℕ → ℕ → Bool
is_at at b = eqb b at

pub Without-each : (at : ℕ) (bytes : List ℕ) → ((k : ℕ) → k < length bytes → is_at at (get_or bytes k 0) ≡ false) → Without at bytes
Without-each at [] h = tt
Without-each at (b ∷ bytes) h = (eqb-false b at (h 0 (omega arith)), Without-each at bytes (λ k l. h (suc k) (omega arith)))

Without-take : (at i : ℕ) (bytes : List ℕ) → ((k : ℕ) → k < i → is_at at (get_or bytes k 0) ≡ false) → Without at (take i bytes)
Without-take at zero bytes h = tt
Without-take at (suc i) [] h = tt
Without-take at (suc i) (b ∷ bytes) h = (eqb-false b at (h 0 (omega arith)), Without-take at i bytes (λ k l. h (suc k) (omega arith)))

pub cut_at : (at i : ℕ) (bytes : List ℕ) → position (is_at at) bytes ≡ Some i → Cuts at bytes (take i bytes) (take (length bytes - (i + 1)) (drop (i + 1) bytes))
cut_at at i bytes e =
    let found = position-Some (is_at at) bytes i 0 e in
    record {
      text = sym (take-append-drop i bytes) ∙ ap (λ w. take i bytes ++ w) (drop_more bytes i 0 found.0)
          ∙ ap (λ b. take i bytes ++ b ∷ drop (i + 1) bytes) (eqb-true (get_or bytes i 0) at found.1) ∙ ap (λ w. take i bytes ++ at ∷ w) (sym (take_rest bytes (i + 1)));
      first = Without-take at i bytes found.2;
    }

some_apart : (i : ℕ) → Some i ≡ None → ⊥
some_apart i e = cc

pub Without-none : (at : ℕ) (bytes : List ℕ) → position (is_at at) bytes ≡ None → Without at bytes
Without-none at bytes e =
    let first = position_or_len (is_at at) bytes in
    Without-each at bytes (λ k l. elim (cases_lt first (length bytes)) [
      | inl within ↦ absurd (some_apart first (sym (ap (λ b. cond b (Some first) None) (lt-ltb first (length bytes) within)) ∙ e))
      | inr past ↦ fails_before_first (is_at at) bytes k 0 (omega (arith, past))
    ])
