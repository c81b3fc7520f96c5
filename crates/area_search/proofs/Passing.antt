-- A pass over the largest shapes of an area.
use Rattle.std.proofs.Common.{◌≡◌, ℕ, ◌+◌, ◌<◌, ◌≤◌, List, [], ◌∷◌, ◌++◌, length, take, sym, subst, arith}
use Rattle.std.specs.Prelude.{All, slice_index_or}
use Rattle.std.specs.List.{Contains}
use Rattle.std.proofs.lemmas.List.Elements.{All-contains, All-more, All-weaker}
use Rattle.lattice_grid.specs.Rectangle.{Size, FitsInside}
use Rattle.shape_list.specs.Shapes.{area_of, IsHeld, IsCoveredBelow, IsStair}
use Rattle.area_search.proofs.Growth.{held_more, held_itself}

fits_both : (s t u : Size) → FitsInside s t → FitsInside t u → FitsInside s u
fits_both s t u h k = record { rows = (let a = h.rows in let b = k.rows in omega arith); cols = (let a = h.cols in let b = k.cols in omega arith) }

held_smaller : (members : List Size) (s t : Size) → FitsInside s t → IsHeld members t → IsHeld members s
held_smaller members s t fits h = (h.0, h.1, h.2, h.3, fits_both s t h.1 fits h.4)

-- a shape of the stair is no larger than its area
pub step_small : (most : ℕ) (shapes items : List Size) (k : ℕ) (s : Size) → IsStair most shapes → items ≡ shapes → k < length items → s ≡ slice_index_or items k s → area_of s ≤ most
step_small most shapes items k s stair same less is = let c : Contains shapes s = subst (λ xs. Contains xs s) same (k, less, sym is) in ((stair.steps s).0 c).small

-- one more shape is held
pub held_next : (refuted items : List Size) (k : ℕ) (s : Size) → k < length items → s ≡ slice_index_or items k s → All (IsHeld refuted) (take k items) → IsHeld refuted s → All (IsHeld refuted) (take (k + 1) items)
held_next refuted items k s less is before held = All-more (IsHeld refuted) items k s less before (subst (IsHeld refuted) is held)

pub held_refuted : (old new items : List Size) (k : ℕ) (s : Size) → new ≡ old ++ s ∷ [] → k < length items → s ≡ slice_index_or items k s → All (IsHeld old) (take k items) → All (IsHeld new) (take (k + 1) items)
held_refuted old new items k s grown less is before =
    held_next new items k s less is (All-weaker (IsHeld old) (IsHeld new) (λ t h. subst (λ members. IsHeld members t) (sym grown) (held_more old s t h)) (take k items) before)
    (subst (λ members. IsHeld members s) (sym grown) (held_itself old s))

-- where each shape of the stair is held, each shape of its area is
pub covered_all : (refuted shapes items : List Size) (most : ℕ) → IsCoveredBelow shapes (most + 1) → items ≡ shapes → All (IsHeld refuted) items → IsCoveredBelow refuted (most + 1)
covered_all refuted shapes items most covers same held s kept small =
    let h = covers s kept small in
    held_smaller refuted s h.1 h.4 (All-contains (IsHeld refuted) shapes h.1 (subst (All (IsHeld refuted)) same held) (h.0, h.2, h.3))
