-- The door of this crate's proofs: what crates above may cite. All other proof files are the crate's own, and may change.

-- What is so of proposals below a bound is so below a larger one.
pub use Rattle.finder_set.proofs.Wider.{AreAsked-wider}
