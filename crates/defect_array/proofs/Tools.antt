-- The door of this crate's proofs: what crates above may cite. All other proof files are the crate's own, and may change.

-- Each text of an array is read or refused, in one way.
pub use Rattle.defect_array.proofs.ReadLaws.{either, never_both, one_reading, one_refusal}
