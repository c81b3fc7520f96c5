-- The lists of the cells at the start of a flood.
use Rattle.std.proofs.Common.{◌≡◌, ℕ, ◌+◌, ◌<◌, ◌↔◌, inl, inr, List, [], ◌∷◌, ◌++◌, refl, sym, ap, subst, arith}
use Rattle.std.specs.List.{Contains}
use Rattle.std.proofs.lemmas.Bool.{cases_eq}
use Rattle.std.proofs.lemmas.List.Elements.{Contains-push, Contains-push_cases, Contains-append_left}
use Rattle.lattice_grid.specs.declared.shape.Place.{Place}
use Rattle.lattice_grid.specs.Path.{IsWithin}
use Rattle.lattice_grid.specs.Rectangle.{Size}
use Rattle.lattice_grid.proofs.Tools.{place_eq}
use Rattle.reach_encoding.proofs.ModelOfFlood.{none_contained}

-- the first n cells of the top row, and of the left column
abbrev pub IsTop : ℕ → List Place → Type 0
IsTop n cells = (p : Place) → Contains cells p ↔ ((p.row ≡ 0) × (p.col < n))

abbrev pub IsLeft : ℕ → List Place → Type 0
IsLeft n cells = (p : Place) → Contains cells p ↔ ((p.col ≡ 0) × (p.row < n))

pub top_none : IsTop 0 []
top_none p = (λ h. absurd (none_contained [] p refl h), λ h. let below = h.1 in absurd (omega arith))

pub left_none : IsLeft 0 []
left_none p = (λ h. absurd (none_contained [] p refl h), λ h. let below = h.1 in absurd (omega arith))

pub top_more : (n : ℕ) (cells : List Place) → IsTop n cells → IsTop (n + 1) (cells ++ record { row = 0; col = n } ∷ [])
top_more n cells are p = (forth, back) where
  at : Place
  at = record { row = 0; col = n }

  forth : Contains (cells ++ at ∷ []) p → (p.row ≡ 0) × (p.col < n + 1)
  forth h = elim (Contains-push_cases cells at p h) [
    | inl before ↦ let k = (are p).0 before in (k.0, let below = k.1 in omega arith)
    | inr e ↦ (sym (ap (λ q. q.row) e), let col : n ≡ p.col = ap (λ q. q.col) e in omega arith)
  ]

  back : (p.row ≡ 0) × (p.col < n + 1) → Contains (cells ++ at ∷ []) p
  back h = elim (cases_eq p.col n) [
    | inl e ↦ subst (λ q. Contains (cells ++ at ∷ []) q) (place_eq at p (sym h.0) (sym e)) (Contains-push cells at)
    | inr ne ↦ Contains-append_left cells (at ∷ []) p ((are p).1 (h.0, let below = h.1 in omega arith))
  ]

pub left_more : (n : ℕ) (cells : List Place) → IsLeft n cells → IsLeft (n + 1) (cells ++ record { row = n; col = 0 } ∷ [])
left_more n cells are p = (forth, back) where
  at : Place
  at = record { row = n; col = 0 }

  forth : Contains (cells ++ at ∷ []) p → (p.col ≡ 0) × (p.row < n + 1)
  forth h = elim (Contains-push_cases cells at p h) [
    | inl before ↦ let k = (are p).0 before in (k.0, let below = k.1 in omega arith)
    | inr e ↦ (sym (ap (λ q. q.col) e), let row : n ≡ p.row = ap (λ q. q.row) e in omega arith)
  ]

  back : (p.col ≡ 0) × (p.row < n + 1) → Contains (cells ++ at ∷ []) p
  back h = elim (cases_eq p.row n) [
    | inl e ↦ subst (λ q. Contains (cells ++ at ∷ []) q) (place_eq at p (sym e) (sym h.0)) (Contains-push cells at)
    | inr ne ↦ Contains-append_left cells (at ∷ []) p ((are p).1 (h.0, let below = h.1 in omega arith))
  ]

pub top_whole : (s : Size) (cells : List Place) (n : ℕ) → n ≡ s.cols → 0 < s.rows → IsTop n cells → (p : Place) → Contains cells p ↔ (IsWithin s p × (p.row ≡ 0))
top_whole s cells n e some are p = (
  λ h. let k = (are p).0 h in let row = k.0 in let col = k.1 in ((omega arith, omega arith), k.0),
  λ h. (are p).1 (h.1, let col = h.0.1 in omega arith),
)

pub left_whole : (s : Size) (cells : List Place) (n : ℕ) → n ≡ s.rows → 0 < s.cols → IsLeft n cells → (p : Place) → Contains cells p ↔ (IsWithin s p × (p.col ≡ 0))
left_whole s cells n e some are p = (
  λ h. let k = (are p).0 h in let col = k.0 in let row = k.1 in ((omega arith, omega arith), k.0),
  λ h. (are p).1 (h.1, let row = h.0.0 in omega arith),
)
