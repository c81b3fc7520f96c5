-- The door of this crate's proofs: what crates above may cite. All other proof files are the crate's own, and may change.

-- A text is one value or has one refusal.
pub use Rattle.pla_reader.proofs.AnswersLaws.{Reads-once, Reads-or_Refused, Refused-once}
-- What one more row does to the sets of all outputs, and what the sets give in the end.
pub use Rattle.pla_reader.proofs.SetsLaws.{AreBelow-sets_of, both}
-- Each text is read or refused.
pub use Rattle.pla_reader.proofs.SomeLaws.{some_reading}
