-- The door of this crate's proofs: what crates above may cite. All other proof files are the crate's own, and may change.

-- The cover of a set within a room, and that of all that a list of cubes leaves.
pub use Rattle.cover_make.proofs.CoverLaws.{cover_of-AreProducts, cover_of-covers, cover_of-inside, length-cover_of, length-off_cover_of, off_cover_of-AreProducts, off_cover_of-apart, off_cover_of-covers, off_cover_of-inside}
-- Which assignments lists of cubes have.
pub use Rattle.cover_make.proofs.CubesLaws.{contains-table_of, has-append, table_of-grown, table_of-nil}
