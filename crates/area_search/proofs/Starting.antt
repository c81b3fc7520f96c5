-- Where a search begins that has many cells.
use Rattle.std.proofs.Common.{◌≡◌, ◌⊎◌, inl, inr, ℕ, suc, zero, ◌<◌, ◌≤◌, ◌^◌, List, [], ◌∷◌, ◌++◌, cond, refl, sym, ap, ◌∙◌, subst, arith}
use Rattle.std.specs.FinSet as set
use Rattle.cube_core.specs.Function.{Function, IsFunction}
use Rattle.cube_core.specs.Rising.{rising}
use Rattle.lattice_grid.specs.declared.control.Control.{Control}
use Rattle.lattice_grid.specs.declared.control.Control.TheVariants.{Zero, One}
use Rattle.lattice_grid.specs.declared.start.Start.{Start}
use Rattle.lattice_grid.specs.declared.start.Start.TheVariants.{Grid, Lacking}
use Rattle.lattice_grid.specs.Lattice.{Lattice}
use Rattle.lattice_grid.specs.Pairs.{single}
use Rattle.lattice_grid.specs.Start.{pairs_over, start_between, IsLackingFinal}
use Rattle.lattice_grid.specs.Rails.{IsFull, literals_of}
use Rattle.finder_set.specs.Finders.{AreAsked}
use Rattle.finder_set.specs.declared.improve.Dropped.{Dropped}
use Rattle.finder_set.proofs.Tools.{AreAsked-wider}
use Rattle.area_search.specs.Answer.{AreUsed}
use Rattle.dual_product.specs.Dual.{dual_of}
use Rattle.dual_product.proofs.Tools.{dual_of-none, dual_of-all}
use Rattle.journal_text.specs.Least.{area, IsRight, IsStart, IsNoLarger}

rising_none : (n : ℕ) → rising n set.empty ≡ []
rising_none zero = refl
rising_none (suc n) = ap (λ b. cond b (rising n set.empty ++ n ∷ []) (rising n set.empty)) (set.contains-empty _ n) ∙ rising_none n

abbrev lattice_in : Lattice → Start → Lattice
lattice_in d (Grid g) = g
lattice_in d (Lacking x y) = d

grid_same : (a b : Lattice) → Grid a ≡ Grid b → a ≡ b
grid_same a b e = ap (lattice_in a) e

-- one cell is not many
not_many : (c : Control) (g : Lattice) → g ≡ single c → 32768 < area g → ⊥
not_many c g e many = let one : 32768 < 1 = subst (λ (x : Lattice). 32768 < area x) e many in omega arith

start_all : (literals : List Control) (ons : List ℕ) → (start_between literals ons [] ≡ Grid (single Zero)) ⊎ (start_between literals ons [] ≡ Grid (single One))
start_all literals [] = inl refl
start_all literals (x ∷ ons) = inr refl

pub many_on : (rails : ℕ) (f : Function) (first : Lattice) → IsStart rails f (Grid first) → 32768 < area first → f.on ≡ set.empty → ⊥
many_on rails f first (inl h) many none = not_many Zero first (grid_same first (dual_of f) h.1 ∙ dual_of-none f none) many
many_on rails f first (inr h) many none =
    let no_ons : rising (2 ^ f.inputs) f.on ≡ [] = ap (rising (2 ^ f.inputs)) none ∙ rising_none (2 ^ f.inputs) in
    not_many Zero first (grid_same first (single Zero) (h.1 ∙ ap (λ ons. start_between (literals_of f.inputs rails) ons (rising (2 ^ f.inputs) f.off)) no_ons)) many

pub many_off : (rails : ℕ) (f : Function) (first : Lattice) → IsStart rails f (Grid first) → 32768 < area first → f.off ≡ set.empty → ⊥
many_off rails f first (inl h) many none = not_many One first (grid_same first (dual_of f) h.1 ∙ dual_of-all f (many_on rails f first (inl h) many) none) many
many_off rails f first (inr h) many none =
    let no_offs : rising (2 ^ f.inputs) f.off ≡ [] = ap (rising (2 ^ f.inputs)) none ∙ rising_none (2 ^ f.inputs) in
    let same = h.1 ∙ ap (λ offs. start_between (literals_of f.inputs rails) (rising (2 ^ f.inputs) f.on) offs) no_offs in
    elim (start_all (literals_of f.inputs rails) (rising (2 ^ f.inputs) f.on)) [
      | inl e ↦ not_many Zero first (grid_same first (single Zero) (same ∙ e)) many
      | inr e ↦ not_many One first (grid_same first (single One) (same ∙ e)) many
    ]

-- a right lattice shows that no pair is lacking
pub not_lacking : IsLackingFinal → (rails : ℕ) (f : Function) (first : Lattice) (x y : ℕ) → IsFunction f → IsRight rails f first → pairs_over f rails ≡ Lacking x y → ⊥
not_lacking final rails f first x y function right e = final f rails x y function e first right.lattice right.over right.realises

-- ---- where a search begins is one thing

pub same_start : (rails : ℕ) (f : Function) (a b : Start) → IsStart rails f a → IsStart rails f b → a ≡ b
same_start rails f a b (inl h) (inl k) = h.1 ∙ sym k.1
same_start rails f a b (inl h) (inr k) = absurd (k.0 h.0)
same_start rails f a b (inr h) (inl k) = absurd (h.0 k.0)
same_start rails f a b (inr h) (inr k) = h.1 ∙ sym k.1

pub no_larger_than : (rails : ℕ) (f : Function) (first g : Lattice) → IsStart rails f (Grid first) → area g ≤ area first → IsNoLarger rails f g
no_larger_than rails f first g start smaller other begins = subst (λ (x : Lattice). area g ≤ area x) (grid_same first other (same_start rails f (Grid first) (Grid other) start begins)) smaller

-- ---- finders

pub used_full : {F : Type 0} (begun left : F → ℕ) (rails : ℕ) (f : Function) (first best : Lattice) (old new : List F) (dropped : List Dropped) → IsFull f.inputs rails → IsStart rails f (Grid first) → area best ≤ area first
    → AreAsked begun left f (area best) old new dropped → AreUsed begun left rails f old new dropped
used_full begun left rails f first best old new dropped full start smaller asked =
    inl (full, AreAsked-wider begun left f (area best) (area (dual_of f)) old new dropped (no_larger_than rails f first best start smaller (dual_of f) (inl (full, refl))) asked)
