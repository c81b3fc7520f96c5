-- Lattices of a larger size, which repeat the last row and the last column.
use Rattle.std.proofs.Common.{refl, sym, ap, subst}
use Rattle.lattice_grid.specs.Control.{value_of}
use Rattle.lattice_grid.specs.Lattice.{Lattice, control_at, is_on_at}
use Rattle.lattice_grid.specs.Rectangle.{Size, FitsInside}
use Rattle.lattice_grid.specs.Repeated.{nearest}
use Rattle.lattice_grid.proofs.Tools.{picture, picture-IsDrawn, IsRepeated-drawn, names_drawn, stands_drawn}
use Rattle.path_meaning.specs.Fitting.{IsRepeatJoined, IsRealisedLarger}
use Rattle.path_meaning.proofs.Fits.{fitting}

pub repeat_joined : IsRepeatJoined
repeat_joined small large s size fits h x =
    let e = h.size_is in
    fitting small.size large.size (is_on_at small x) (is_on_at large x) (record {
      some_row = size.some_rows;
      some_col = size.some_cols;
      fits = subst (FitsInside small.size) (sym e) fits;
      same = λ p within. ap (λ c. value_of c x) (h.same p within);
    })

-- the lattice of the larger size that repeats the last row and column
pub larger : Lattice → Size → Lattice
larger g s = picture (λ p. control_at g (nearest g.size p)) s

pub realised_larger : IsRealisedLarger
unfolding larger
realised_larger n rails f small large fits size h =
    let g = h.lattice in
    let whole : Lattice = larger g large in
    let drawn = picture-IsDrawn (λ p. control_at g (nearest g.size p)) large in
    let joined = repeat_joined g whole large h.kept.size (subst (λ s. FitsInside s large) (sym h.size_is) fits) (IsRepeated-drawn g large whole drawn) in
    record {
      lattice = whole;
      kept = record { size = size; whole = drawn.whole; inputs = names_drawn 10 g large whole drawn h.kept.inputs };
      size_is = refl;
      over = stands_drawn n rails g large whole drawn h.over;
      realises = record {
        on = λ x here. (joined x).1 (h.realises.on x here);
        off = λ x here j. h.realises.off x here ((joined x).0 j);
      };
    }
