-- The door of this crate's proofs: what crates above may cite. All other proof files are the crate's own, and may change.

-- Lattices of a larger size, which repeat the last row and the last column.
pub use Rattle.path_meaning.proofs.Larger.{realised_larger}
-- Each grid has a path or a cut: the on cells that the top leads to, and the off cells that the left leads to, cannot both stop short.
pub use Rattle.path_meaning.proofs.Least.{at_least_one, either_or}
-- A path and a cut never stand in one grid: the parity of the cut's steps above a cell of the path stays, and differs at the ends.
pub use Rattle.path_meaning.proofs.Never.{never_both}
-- To realise a function on no array is to realise it.
pub use Rattle.path_meaning.proofs.Plainly.{realised_plainly, realising_plainly}
-- JoinedBy and CutBy are refuted by closed sets, and by each other.
pub use Rattle.path_meaning.proofs.Refuted.{cut_refuted, joined_refuted}
-- Walks: paths as data, for inductions; and parities over a walk.
pub use Rattle.path_meaning.proofs.Walks.{Walk, first_good, join, last_good, path_from, walk_from}
pub use Rattle.path_meaning.proofs.Walks.Walk.{next, stop}
