-- The door of this crate's proofs: what crates above may cite. All other proof files are the crate's own, and may change.

-- Texts whose pieces pass through a buffer one after the other.
pub use Rattle.clause_core.proofs.PieceLaws.{all-three, flat_map-drop, flat_map-end, passed_all, stop-one, stop-three, stop-two}
-- Laws of literals, and of clauses seen as sets.
pub use Rattle.clause_core.proofs.Literals.{clause_is_true-has, clause_is_true-none, clause_is_true-some, flip-flip, has-cases, has-first, has-rest, is_true-flip, same-at, same-flip, same-refl, same-true}
-- Written numbers are read as they are.
pub use Rattle.clause_core.proofs.NumberLaws.{IsPrinted, number_from, number_of-signed, prints, prints-apart, signed_printed}
-- Printed lines and words are cut where they were joined.
pub use Rattle.clause_core.proofs.PrintedLaws.{IsSmall, IsWord, literal_printed, literals-back, number_of-literal, number_of_literal, printed-word, split-literals, words-literals, words-next, zero_number}
-- The words of a text, cut off one after the other.
pub use Rattle.clause_core.proofs.TextLaws.{front_some, words-cut, words-skip}
