-- The door of this crate's proofs: what crates above may cite. All other proof files are the crate's own, and may change.

-- Blocks that are tested one after the other; a report verifies or has one refusal.
pub use Rattle.four_lattice.proofs.VerifiedLaws.{cut_front, cut_rest}
