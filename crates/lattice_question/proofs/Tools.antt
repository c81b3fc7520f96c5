-- The door of this crate's proofs: what crates above may cite. All other proof files are the crate's own, and may change.

-- Bytes that a sink gains, one call after another.
pub use Rattle.lattice_question.proofs.Fronts.{front_of_all, front_then, gains_nothing, gains_then, parts_joined, parts_push, told_later}
-- Sections that a question writes, or a front of one.
pub use Rattle.lattice_question.proofs.Sections.{shows_close, stopped_held}
