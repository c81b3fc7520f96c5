-- What holds while a lattice is made smaller.
use Rattle.std.specs.Prelude.{ℕ, ◌+◌, ◌<◌, ◌≤◌, Some, None}
use Rattle.std.specs.Option.{unwrap_or, option_or, IfSome}
use Rattle.std.specs.declared.option.Option.{Option}
use Rattle.std.proofs.Common.{◌≡◌, ◌*◌, ◌==◌, subst, arith, cond}
use Rattle.std.proofs.Math.Nat.{mul-le-mul_left}
use Rattle.std.proofs.lemmas.Bool.{cond_both}
use Rattle.cube_core.specs.Function.{Function}
use Rattle.finder_set.specs.declared.shrink.Change.{Change}
use Rattle.finder_set.specs.declared.shrink.Change.TheVariants.{RowDropped, ColumnDropped, ColumnsFolded, RowsFolded}
use Rattle.finder_set.specs.Finders.{area_of}
use Rattle.finder_set.specs.Shrinking.{Shrinks, places_of, IsRightAndSmaller}
use Rattle.finder_set.specs.Tried.{IsLeft, IsTaken, HasTried}
use Rattle.lattice_grid.specs.Lattice.{Lattice}
use Rattle.lattice_grid.specs.Rectangle.{IsSize}

-- Whatever becomes of the lattice so far from this place on becomes of the best one from the first place on; the lattice so far is right and smaller, if it is another one.
pub record IsShrinking (change : Change) (f : Function) (best : Lattice) (place : ℕ) (smaller : Option Lattice) : Type 0 where
  pub leads : (h : Lattice) → Shrinks change f place (unwrap_or smaller best) h → Shrinks change f 0 best h
  pub right : IfSome smaller (IsRightAndSmaller f best)

pub IsShrinking-begins : (change : Change) (f : Function) (best : Lattice) → IsShrinking change f best 0 None
IsShrinking-begins change f best = record { leads = λ h goes. goes; right = tt }

-- right and smaller than one that is right and smaller, or the best one itself
pub IsRightAndSmaller-after : (f : Function) (best less : Lattice) (smaller : Option Lattice) → IfSome smaller (IsRightAndSmaller f best) → IsRightAndSmaller f (unwrap_or smaller best) less → IsRightAndSmaller f best less
IsRightAndSmaller-after f best less None before right = right
IsRightAndSmaller-after f best less (Some g) before right = record {
  over = λ n over. right.over n (before.over n over);
  realises = right.realises;
  smaller = omega (arith, right.smaller, before.smaller);
}

-- the change is taken
pub IsShrinking-takes : (change : Change) (f : Function) (best less : Lattice) (place : ℕ) (smaller : Option Lattice) → IsShrinking change f best place smaller → place < places_of change (unwrap_or smaller best)
    → IsTaken change f place (unwrap_or smaller best) less → IsShrinking change f best place (Some less)
IsShrinking-takes change f best less place smaller h within taken = record {
  leads = λ final goes. h.leads final (Shrinks.takes place (unwrap_or smaller best) less final within taken.changed taken.right.realises goes);
  right = IsRightAndSmaller-after f best less smaller h.right taken.right;
}

-- the change is left
pub IsShrinking-leaves : (change : Change) (f : Function) (best : Lattice) (place : ℕ) (smaller : Option Lattice) → IsShrinking change f best place smaller → place < places_of change (unwrap_or smaller best)
    → IsLeft change f place (unwrap_or smaller best) → IsShrinking change f best (place + 1) smaller
IsShrinking-leaves change f best place smaller h within left = record {
  leads = λ final goes. h.leads final (Shrinks.leaves place (unwrap_or smaller best) left.less final within left.changed left.wrong goes);
  right = h.right;
}

pub IsShrinking-ends : (change : Change) (f : Function) (best : Lattice) (place : ℕ) (smaller : Option Lattice) → IsShrinking change f best place smaller → places_of change (unwrap_or smaller best) ≤ place
    → Shrinks change f 0 best (unwrap_or smaller best)
IsShrinking-ends change f best place smaller h past = h.leads (unwrap_or smaller best) (Shrinks.ends place (unwrap_or smaller best) past)

-- what the tried change came to
pub tried-taken : (change : Change) (f : Function) (place : ℕ) (g h less : Lattice) (answer : Option Lattice) → g ≡ h → answer ≡ Some less → HasTried change f place g answer → IsTaken change f place h less
tried-taken change f place g h less answer same is tried = subst (λ (l : Lattice). IsTaken change f place l less) same (rw is at tried)

pub tried-left : (change : Change) (f : Function) (place : ℕ) (g h : Lattice) (answer : Option Lattice) → g ≡ h → answer ≡ None → HasTried change f place g answer → IsLeft change f place h
tried-left change f place g h answer same is tried = subst (λ (l : Lattice). IsLeft change f place l) same (rw is at tried)

-- ---- there are no more places than cells
no_more : (lines others : ℕ) → 1 ≤ others → lines ≤ lines * others
no_more lines others some = omega (arith, mul-le-mul_left lines some)

spare_few : (lines most : ℕ) → lines ≤ most → (cond (lines == 1) 0 lines) ≤ most
spare_few lines most few = cond_both (lines == 1) 0 lines (λ n. n ≤ most) (λ _. omega arith) (λ _. few)

pub places_of-few : (change : Change) (g : Lattice) → IsSize g.size → places_of change g ≤ area_of g
places_of-few RowDropped g size = spare_few g.size.rows (area_of g) (no_more g.size.rows g.size.cols size.some_cols)
places_of-few ColumnDropped g size = spare_few g.size.cols (area_of g) (omega (arith, no_more g.size.cols g.size.rows size.some_rows))
places_of-few ColumnsFolded g size = omega (arith, no_more g.size.cols g.size.rows size.some_rows)
places_of-few RowsFolded g size = omega (arith, no_more g.size.rows g.size.cols size.some_cols)

-- the lattice that is left after two goes
pub IsRightAndSmaller-either : (f : Function) (best : Lattice) (once twice : Option Lattice) → IfSome once (IsRightAndSmaller f best) → IfSome twice (IsRightAndSmaller f (unwrap_or once best)) → IfSome (option_or twice once) (IsRightAndSmaller f best)
IsRightAndSmaller-either f best once None first second = first
IsRightAndSmaller-either f best once (Some g) first second = IsRightAndSmaller-after f best g once first second
