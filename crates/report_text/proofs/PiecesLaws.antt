-- Bytes cut at a separator are its pieces, and no others.
use Rattle.std.proofs.Common.{◌⊎◌, inl, inr, ◌≡◌, ℕ, ◌<◌, ◌≤◌, cond, eqb, length, List, [], ◌∷◌, ◌++◌, refl, ap, ◌∙◌, arith}
use Rattle.std.specs.List.{AllByRecursion, onto_first}
use Rattle.std.proofs.lemmas.Bool.{ne_eqb, eq-eqb}
use Rattle.std.proofs.lemmas.List.Splits.{length-slice_split}
use Rattle.report_text.specs.Pieces.{Without, Cuts, pieces}

-- one piece, where there is no separator
pub pieces-none : (at : ℕ) (bytes : List ℕ) → Without at bytes → pieces at bytes ≡ bytes ∷ []
pieces-none at [] h = refl
pieces-none at (b ∷ bytes) h =
    ap (λ t. cond t ([] ∷ pieces at bytes) (onto_first b (pieces at bytes))) (ne_eqb b at h.0) ∙ ap (onto_first b) (pieces-none at bytes h.1)

pub pieces-cut : (at : ℕ) (front rest : List ℕ) → Without at front → pieces at (front ++ at ∷ rest) ≡ front ∷ pieces at rest
pieces-cut at [] rest h = ap (λ t. cond t ([] ∷ pieces at rest) (onto_first at (pieces at rest))) (eq-eqb at at refl)
pieces-cut at (b ∷ front) rest h =
    ap (λ t. cond t ([] ∷ pieces at (front ++ at ∷ rest)) (onto_first b (pieces at (front ++ at ∷ rest)))) (ne_eqb b at h.0) ∙ ap (onto_first b) (pieces-cut at front rest h.1)

pub pieces-Cuts : (at : ℕ) (bytes front rest : List ℕ) → Cuts at bytes front rest → pieces at bytes ≡ front ∷ pieces at rest
pieces-Cuts at bytes front rest h = ap (pieces at) h.text ∙ pieces-cut at front rest h.first

-- the first separator is in one place
pub same_cut : (at : ℕ) (x y r s : List ℕ) → Without at x → Without at y → x ++ at ∷ r ≡ y ++ at ∷ s → (x ≡ y) × (r ≡ s)
same_cut at [] [] r s h k e = (refl, cc)
same_cut at [] (y ∷ ys) r s h k e = absurd (k.0 cc)
same_cut at (x ∷ xs) [] r s h k e = absurd (h.0 cc)
same_cut at (x ∷ xs) (y ∷ ys) r s h k e =
    let rest : xs ++ at ∷ r ≡ ys ++ at ∷ s = cc in
    let more = same_cut at xs ys r s h.1 k.1 rest in
    let head : x ≡ y = cc in
    ((λ i. head i ∷ more.0 i), more.1)

-- where there is no separator, nothing can be cut
pub no_cut : (at : ℕ) (bytes front rest : List ℕ) → Without at bytes → bytes ≡ front ++ at ∷ rest → ⊥
no_cut at [] [] rest h e = absurd cc
no_cut at [] (f ∷ front) rest h e = absurd cc
no_cut at (b ∷ bytes) [] rest h e = h.0 cc
no_cut at (b ∷ bytes) (f ∷ front) rest h e = let more : bytes ≡ front ++ at ∷ rest = cc in no_cut at bytes front rest h.1 more

pub Without-append : (at : ℕ) (xs ys : List ℕ) → Without at xs → Without at ys → Without at (xs ++ ys)
Without-append at [] ys h k = k
Without-append at (x ∷ xs) ys h k = (h.0, Without-append at xs ys h.1 k)

pub Without-front : (at : ℕ) (xs ys : List ℕ) → Without at (xs ++ ys) → Without at xs
Without-front at [] ys h = tt
Without-front at (x ∷ xs) ys h = (h.0, Without-front at xs ys h.1)

-- what lies between two bounds that leave the separator out
pub Without-between : (at low high : ℕ) (bytes : List ℕ) → (at < low) ⊎ (high < at) → AllByRecursion (λ b. (low ≤ b) × (b ≤ high)) bytes → Without at bytes
Without-between at low high [] apart h = tt
Without-between at low high (b ∷ bytes) apart h =
    ((λ e. let above = h.0.0 in let below = h.0.1 in elim apart [ inl l ↦ omega (arith, above, e, l) | inr g ↦ omega (arith, below, e, g) ]), Without-between at low high bytes apart h.1)

-- there is always a piece
pub pieces-some : (at : ℕ) (bytes : List ℕ) → 0 < length (pieces at bytes)
pieces-some at bytes = let many = length-slice_split (λ b. eqb b at) bytes in omega (arith, many)

-- a word behind which more words stand is not the only one
pub no_last : (line w x rest : List ℕ) → pieces 32 line ≡ w ∷ pieces 32 rest → pieces 32 line ≡ x ∷ [] → ⊥
no_last line w x rest e f = let some = pieces-some 32 rest in let none : pieces 32 rest ≡ [] = cc in let many = ap length none in omega (arith, some, many)
