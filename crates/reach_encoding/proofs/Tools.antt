-- The door of this crate's proofs: what crates above may cite. All other proof files are the crate's own, and may change.

-- What a formula without solutions excludes, and that formulas are small enough.
pub use Rattle.reach_encoding.proofs.Excluded.{excluded_below}
-- A lattice that answers a question gives a solution of its encoding.
pub use Rattle.reach_encoding.proofs.ModelLaws.{solution_of}
