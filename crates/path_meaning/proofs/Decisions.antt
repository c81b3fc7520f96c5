-- Tests that decide what the definitions say, and a search.
use Rattle.std.proofs.Common.{◌≡◌, ℕ, zero, suc, ◌+◌, ◌<◌, ◌≤◌, Bool, true, false, not, ◌&&◌, ◌||◌, eqb, leb, ap, ◌∙◌, inl, inr, arith}
use Rattle.std.specs.Prelude.{◌⊎◌, ◌≢◌, IsTrue}
use Rattle.std.specs.Bool.{Decides}
use Rattle.std.proofs.lemmas.Bool.{cases_Bool, cases_eq, leb-true, le-leb}
use Rattle.std.proofs.lemmas.Bool.Decides.{Decides-eqb, Decides-and, Decides-or, Decides-not, Decides-like}
use Rattle.lattice_grid.specs.declared.shape.Place.{Place}
use Rattle.lattice_grid.specs.Rectangle.{Size}
use Rattle.lattice_grid.specs.Path.{IsWithin, DifferByOne, DifferByAtMostOne, AreFourNeighbours, AreEightNeighbours}

pub place_eq : (p q : Place) → p.row ≡ q.row → p.col ≡ q.col → p ≡ q
place_eq p q e f = λ i. record { row = e i; col = f i }

pub place_cases : (p q : Place) → (p ≡ q) ⊎ (p ≢ q)
place_cases p q = elim (cases_eq p.row q.row) [
  | inl e ↦ elim (cases_eq p.col q.col) [ inl f ↦ inl (place_eq p q e f) | inr f ↦ inr (λ h. f (ap (λ c. c.col) h)) ]
  | inr e ↦ inr (λ h. e (ap (λ c. c.row) h))
]

-- a test that is true exactly where P holds
abbrev pub Test : Type 0 → Type 0
Test P = (b : Bool) × Decides b P

pub and_test : {P Q : Type 0} → Test P → Test Q → Test (P × Q)
and_test s t = (s.0 && t.0, Decides-and s.0 t.0 s.1 t.1)

or_test : {P Q : Type 0} → Test P → Test Q → Test (P ⊎ Q)
or_test s t = (s.0 || t.0, Decides-or s.0 t.0 s.1 t.1)

pub eq_test : (a b : ℕ) → Test (a ≡ b)
eq_test a b = (eqb a b, Decides-eqb a b)

le_test : (a b : ℕ) → Test (a ≤ b)
le_test a b = (leb a b, (leb-true a b, le-leb a b))

apart_test : (a b : ℕ) → Test (DifferByOne a b)
apart_test a b = or_test (eq_test (a + 1) b) (eq_test (b + 1) a)

close_test : (a b : ℕ) → Test (DifferByAtMostOne a b)
close_test a b = and_test (le_test a (b + 1)) (le_test b (a + 1))

cell_test : (p q : Place) → Test (p ≡ q)
cell_test p q =
    let t = and_test (eq_test p.row q.row) (eq_test p.col q.col) in
    (t.0, Decides-like t.0 (λ h. place_eq p q h.0 h.1) (λ h. (ap (λ c. c.row) h, ap (λ c. c.col) h)) t.1)

differ_test : (p q : Place) → Test (p ≢ q)
differ_test p q = let t = cell_test p q in (not t.0, Decides-not t.0 t.1)

pub four_test : (p q : Place) → Test (AreFourNeighbours p q)
four_test p q = or_test (and_test (eq_test p.row q.row) (apart_test p.col q.col)) (and_test (eq_test p.col q.col) (apart_test p.row q.row))

pub eight_test : (p q : Place) → Test (AreEightNeighbours p q)
eight_test p q =
    let t = and_test (differ_test p q) (and_test (close_test p.row q.row) (close_test p.col q.col)) in
    (t.0, Decides-like t.0 (λ h. (h.0, h.1.0, h.1.1)) (λ h. (h.0, (h.1, h.2))) t.1)

pub good_test : (s : Size) (good : Place → Bool) (p : Place) → Test (IsWithin s p × IsTrue (good p))
good_test s good p = and_test (and_test (le_test (suc p.row) s.rows) (le_test (suc p.col) s.cols)) (good p, (λ h. h, λ h. h))

-- the first numbers have one that passes, or none
pub found_or_none : (f : ℕ → Bool) (n : ℕ) → ((k : ℕ) × (k < n) × (f k ≡ true)) ⊎ ((k : ℕ) → k < n → f k ≡ false)
found_or_none f zero = inr (λ k h. absurd (omega arith))
found_or_none f (suc n) = elim (found_or_none f n) [
  | inl h ↦ inl (h.0, omega (arith, h.1), h.2)
  | inr none ↦ elim (cases_Bool (f n)) [
    | inl e ↦ inl (n, omega arith, e)
    | inr e ↦ inr (λ k h. elim (cases_eq k n) [ inl d ↦ ap f d ∙ e | inr d ↦ none k (omega arith) ])
  ]
]
