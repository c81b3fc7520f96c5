-- The door of this crate's proofs: what crates above may cite. All other proof files are the crate's own, and may change.

-- A journal is right or has one refusal: `not_right` and `one_refusal` are for whoever needs that a journal that was read is judged in one way.
pub use Rattle.audit_core.proofs.RefusalLaws.{not_right, one_refusal}
