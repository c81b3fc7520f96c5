-- The door of this crate's proofs: what crates above may cite. All other proof files are the crate's own, and may change.

-- The least input on which two assignments differ.
pub use Rattle.lattice_grid.proofs.Differences.{least_from-first}
-- Lattices by the control at each place.
pub use Rattle.lattice_grid.proofs.DrawnLaws.{IsDrawn-read, IsDrawnTo, IsDrawnTo-more, drawn_All, picture, picture-IsDrawn}
-- Lists that grow by one turn of a loop.
pub use Rattle.lattice_grid.proofs.Lists.{flat_map-grown, shl_few}
-- Which cells are in the lists of neighbours.
pub use Rattle.lattice_grid.proofs.NeighbourLaws.{IsNear, IsNear-read, eight_neighbours, four_neighbours, has_near-from, near_cell-is, place_eq}
-- Paths that go down a column, and that every path from the top to the bottom meets each row.
pub use Rattle.lattice_grid.proofs.PathLaws.{joined_by_column, not_joined_past_row}
-- The literals and controls that rails allow.
pub use Rattle.lattice_grid.proofs.RailsLaws.{MayStand-NamesBelow, all_bits, control_at_number, controls-Contains, length-controls_of, names_at_number, some_controls, stands_at}
-- The lattice of pairs realises its function.
pub use Rattle.lattice_grid.proofs.RealiseLaws.{IsOver-read, pairs_of-Realises}
-- The cells of a lattice that repeats the last row and column of another.
pub use Rattle.lattice_grid.proofs.RepeatLaws.{IsRepeated-drawn, names_drawn, stands_drawn}
-- The members of a set in rising order.
pub use Rattle.lattice_grid.proofs.RisingLaws.{All-rising, HasPlace-rising, length-rising_few}
-- The lattice of pairs over rails is right; where a pair is lacking it is the first, and no lattice will do.
pub use Rattle.lattice_grid.proofs.StartLaws.{over_full}
