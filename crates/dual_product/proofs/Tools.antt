-- The door of this crate's proofs: what crates above may cite. All other proof files are the crate's own, and may change.

-- The dual product realises its function.
pub use Rattle.dual_product.proofs.DualLaws.{dual_of-IsOver, dual_of-Realises, dual_of-all, dual_of-none, on-IsWithin, same_function}
