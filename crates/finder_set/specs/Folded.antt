-- For the crate's own proofs: which control is put at each place of a lattice that is folded. What the lattice then is stands in Folding.
use Rattle.std.specs.Prelude.{ℕ, ◌+◌, ◌^◌, ◌<◌, nat_lt, if◌then◌else◌}
use Rattle.finder_set.specs.declared.folded.Neighbours.{Neighbours}
use Rattle.finder_set.specs.Folding.{cell_of_two, number_in, next_to}
use Rattle.lattice_grid.specs.declared.control.Control.{Control}
use Rattle.lattice_grid.specs.declared.shape.Place.{Place}
use Rattle.lattice_grid.specs.Lattice.{Lattice, control_at}
use Rattle.lattice_grid.specs.Path.{IsWithin}
use Rattle.lattice_grid.specs.Rectangle.{Size}

abbrev pub folded_control : Neighbours → ℕ → Lattice → Place → Control
folded_control lines number a p =
    if nat_lt (number_in lines p) number then control_at a p
    else (if nat_lt number (number_in lines p) then control_at a (next_to lines p) else cell_of_two lines (control_at a p) (control_at a (next_to lines p)))

-- The rectangle has the place and the next one.
pub record IsCovered (lines : Neighbours) (whole : Size) (p : Place) : Type 0 where
  pub here : IsWithin whole p
  pub next : IsWithin whole (next_to lines p)
  pub few : number_in lines p + 1 < 2 ^ 32
