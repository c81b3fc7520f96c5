-- The number of line feeds.
use Rattle.std.proofs.Common.{◌≡◌, ℕ, suc, ◌+◌, ◌≤◌, ◌⊎◌, inl, inr, Bool, true, false, cond, eqb, List, [], ◌∷◌, ◌++◌, length, refl, ap, ◌∙◌, arith}
use Rattle.std.proofs.lemmas.Bool.{ne_eqb}
use Rattle.report_text.specs.Pieces.{Without, Cuts, feeds}
use Rattle.report_text.proofs.TestedLaws.{tested_eq}

feeds-next : (b : ℕ) (n m k : ℕ) (t : Bool) → n ≡ m + k → cond t (suc n) n ≡ cond t (suc m) m + k
feeds-next b n m k true e = omega (arith, e)
feeds-next b n m k false e = e

pub feeds-append : (xs ys : List ℕ) → feeds (xs ++ ys) ≡ feeds xs + feeds ys
feeds-append [] ys = omega arith
feeds-append (x ∷ xs) ys = feeds-next x (feeds (xs ++ ys)) (feeds xs) (feeds ys) (eqb x 10) (feeds-append xs ys)

pub feeds-none : (bytes : List ℕ) → Without 10 bytes → feeds bytes ≡ 0
feeds-none [] h = refl
feeds-none (b ∷ bytes) h = ap (λ t. cond t (suc (feeds bytes)) (feeds bytes)) (ne_eqb b 10 h.0) ∙ feeds-none bytes h.1

pub feeds-line : (line rest : List ℕ) → Without 10 line → feeds (line ++ 10 ∷ rest) ≡ suc (feeds rest)
feeds-line line rest h = let none = feeds-none line h in omega (arith, feeds-append line (10 ∷ rest), none)

-- a line feed stands there, or none does
pub feed_or_none : (bytes : List ℕ) → Without 10 bytes ⊎ ((line : List ℕ) × (rest : List ℕ) × Cuts 10 bytes line rest)
feed_or_none [] = inl tt
feed_or_none (b ∷ bytes) = elim (tested_eq b 10) [
  | inl feed ↦ inr ([], bytes, record { text = ap (λ z. z ∷ bytes) feed; first = tt })
  | inr other ↦ elim (feed_or_none bytes) [
    | inl none ↦ inl (other, none)
    | inr (line, rest, cut) ↦ inr (b ∷ line, rest, record { text = ap (λ z. b ∷ z) cut.text; first = (other, cut.first) })
  ]
]
