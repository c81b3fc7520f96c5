-- The lattice of pairs realises its function.
use Rattle.std.proofs.Common.{◌≡◌, ◌≢◌, ℕ, suc, zero, ◌+◌, ◌*◌, ◌^◌, ◌<◌, Bool, true, false, cond, not, List, [], ◌∷◌, length, get_or, refl, sym, ap, ◌∙◌, subst, arith, lit≤}
use Rattle.std.specs.Prelude.{All}
use Rattle.std.specs.FinSet as set
use Rattle.std.specs.Bool.{beq}
use Rattle.std.proofs.lemmas.Bool.{true≢false}
use Rattle.std.proofs.lemmas.List.Elements.{All-cons, All-nil}
use Rattle.cube_core.specs.Assignment.{bit}
use Rattle.cube_core.specs.Function.{Function, IsFunction}
use Rattle.cube_core.specs.Rising.{rising}
use Rattle.lattice_grid.specs.declared.control.Control.TheVariants.{Zero, One, Plain, Bar}
use Rattle.lattice_grid.specs.Control.{value_of, NamesBelow}
use Rattle.lattice_grid.specs.Lattice.{Lattice, IsOver, is_on_at}
use Rattle.lattice_grid.specs.Realise.{Joined, Realises}
use Rattle.lattice_grid.specs.Pairs.{telling, least_difference, single, pairs_between, pairs_of}
use Rattle.lattice_grid.specs.Told.{AreTold}
use Rattle.lattice_grid.proofs.Differences.{least_difference-trailing_zeros, differ}
use Rattle.lattice_grid.proofs.PairsLaws.{telling_names}
use Rattle.lattice_grid.proofs.PathLaws.{joined_by_column, not_joined_past_row}
use Rattle.lattice_grid.proofs.RisingLaws.{HasPlace, HasPlace-rising, AreApart-read, rising_below, All-rising}
use Rattle.lattice_grid.proofs.ToldLaws.{TellsAll, told-Realises, All-told_cells}

-- the telling literal is 1 at the one and 0 at the other
literal_at : (x y i : ℕ) → differ x y i ≡ true → (value_of (cond (bit x i) (Plain i) (Bar i)) x ≡ true) × (value_of (cond (bit x i) (Plain i) (Bar i)) y ≡ false)
literal_at x y i d = go (bit x i) (bit y i) refl refl d where
  go : (a b : Bool) → bit x i ≡ a → bit y i ≡ b → not (beq a b) ≡ true → (value_of (cond a (Plain i) (Bar i)) x ≡ true) × (value_of (cond a (Plain i) (Bar i)) y ≡ false)
  go true true p q d = absurd (true≢false (sym d))
  go true false p q d = (p, q)
  go false true p q d = (ap not p, ap not q)
  go false false p q d = absurd (true≢false (sym d))

telling_value : (x y : ℕ) → x < 1024 → y < 1024 → x ≢ y → (value_of (telling x y) x ≡ true) × (value_of (telling x y) y ≡ false)
telling_value x y px py apart =
    let found = least_difference-trailing_zeros x y 10 (lit≤ tt) px py px py apart in
    literal_at x y (least_difference x y) (ap (differ x y) found.least ∙ found.differs)

zero_cells : (n : ℕ) → get_or (Zero ∷ []) n Zero ≡ Zero
zero_cells zero = refl
zero_cells (suc n) = refl

single-Zero : (x : ℕ) → Joined (single Zero) x → ⊥
single-Zero x = not_joined_past_row (record { rows = 1; cols = 1 }) (is_on_at (single Zero) x) 0 (lit≤ tt)
    (λ p same below one. true≢false (sym one ∙ ap (λ c. value_of c x) (zero_cells (p.row * 1 + p.col))))

single-One : (x : ℕ) → Joined (single One) x
single-One x = joined_by_column (record { rows = 1; cols = 1 }) (is_on_at (single One) x) 0 (lit≤ tt) (lit≤ tt)
    (λ row below. let top : row ≡ 0 = omega arith in ap (λ r. value_of (get_or (One ∷ []) (r * 1 + 0) Zero) x) top)

no_place : (x : ℕ) → HasPlace [] x → ⊥
no_place x at = let within = at.within in omega arith

-- what a lattice of `0`, of `1`, and of a column for each on assignment and a row for each off assignment have in common
pub on_places : (f : Function) → IsFunction f → (x : ℕ) → set.contains f.on x ≡ true → HasPlace (rising (2 ^ f.inputs) f.on) x
on_places f h x here = HasPlace-rising (2 ^ f.inputs) f.on x (h.on_below x here) here

pub off_places : (f : Function) → IsFunction f → (x : ℕ) → set.contains f.off x ≡ true → HasPlace (rising (2 ^ f.inputs) f.off) x
off_places f h x here = HasPlace-rising (2 ^ f.inputs) f.off x (h.off_below x here) here

pub zero-Realises : (f : Function) → ((x : ℕ) → set.contains f.on x ≡ true → HasPlace [] x) → Realises (single Zero) f
zero-Realises f on = record { on = λ x here. absurd (no_place x (on x here)); off = λ x here. single-Zero x }

pub one-Realises : (f : Function) → ((x : ℕ) → set.contains f.off x ≡ true → HasPlace [] x) → Realises (single One) f
one-Realises f off = record { on = λ z here. single-One z; off = λ z here _. no_place z (off z here) }

-- the telling literals of the two lists
telling_all : (ons offs : List ℕ) → AreTold (λ on off. on ≢ off) ons offs → All (λ x. x < 1024) ons → All (λ x. x < 1024) offs → TellsAll telling ons offs
telling_all ons offs h ons_below offs_below = record {
  on = λ k j inside within. (told k j inside within).0;
  off = λ k j inside within. (told k j inside within).1;
} where
  told : (k j : ℕ) → k < length ons → j < length offs → (value_of (telling (get_or ons k 0) (get_or offs j 0)) (get_or ons k 0) ≡ true) × (value_of (telling (get_or ons k 0) (get_or offs j 0)) (get_or offs j 0) ≡ false)
  told k j inside within = telling_value (get_or ons k 0) (get_or offs j 0) (ons_below k 0 inside) (offs_below j 0 within) (h.told j 0 within k 0 inside)

pub pairs_of-Realises : (f : Function) → IsFunction f → Realises (pairs_of f) f
pairs_of-Realises f h = go (rising (2 ^ f.inputs) f.on) (rising (2 ^ f.inputs) f.off) (AreApart-read f h _ _ refl refl) (rising_below f f.on h) (rising_below f f.off h) (on_places f h) (off_places f h) where
  go : (ons offs : List ℕ) → AreTold (λ on off. on ≢ off) ons offs → All (λ x. x < 1024) ons → All (λ x. x < 1024) offs → ((x : ℕ) → set.contains f.on x ≡ true → HasPlace ons x) → ((x : ℕ) → set.contains f.off x ≡ true → HasPlace offs x) → Realises (pairs_between ons offs) f
  go [] offs a p q on off = zero-Realises f on
  go (x ∷ ons) [] a p q on off = one-Realises f off
  go (x ∷ ons) (y ∷ offs) a p q on off = told-Realises telling f (x ∷ ons) (y ∷ offs) (telling_all (x ∷ ons) (y ∷ offs) a p q) (omega arith) on off

pub Realises-read : (f : Function) → IsFunction f → (g : Lattice) → g ≡ pairs_of f → Realises g f
Realises-read f h g e = subst (λ g. Realises g f) (sym e) (pairs_of-Realises f h)

pub IsOver-read : (f : Function) → IsFunction f → (g : Lattice) → g ≡ pairs_of f → IsOver f.inputs g
IsOver-read f h g e = subst (IsOver f.inputs) (sym e) (go (rising (2 ^ f.inputs) f.on) (rising (2 ^ f.inputs) f.off) (AreApart-read f h _ _ refl refl) (λ k d w. (All-rising (2 ^ f.inputs) f.on k d w).0) (λ k d w. (All-rising (2 ^ f.inputs) f.off k d w).0) (rising_below f f.on h) (rising_below f f.off h)) where
  go : (ons offs : List ℕ) → AreTold (λ on off. on ≢ off) ons offs → All (λ x. x < 2 ^ f.inputs) ons → All (λ x. x < 2 ^ f.inputs) offs → All (λ x. x < 1024) ons → All (λ x. x < 1024) offs → IsOver f.inputs (pairs_between ons offs)
  go [] offs a p q r s = All-cons (NamesBelow f.inputs) Zero [] tt (All-nil (NamesBelow f.inputs))
  go (x ∷ ons) [] a p q r s = All-cons (NamesBelow f.inputs) One [] tt (All-nil (NamesBelow f.inputs))
  go (x ∷ ons) (y ∷ offs) a p q r s = All-told_cells telling (NamesBelow f.inputs) (x ∷ ons) (y ∷ offs)
      (λ j d within k e inside. telling_names _ _ f.inputs h.few (p k e inside) (q j d within) (r k e inside) (s j d within) (a.told j d within k e inside))
