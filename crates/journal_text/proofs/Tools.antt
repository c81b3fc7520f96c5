-- The door of this crate's proofs: what crates above may cite. All other proof files are the crate's own, and may change.

-- A reader that goes on part by part.
pub use Rattle.journal_text.proofs.CursorLaws.{IsReading, IsTextOf, passed_shorter, reading_all, reading_begun, reading_join, reading_more, reading_refused, reading_room}
-- A text gives one answer, and gives some.
pub use Rattle.journal_text.proofs.GivesLaws.{one_answer, some_answer}
-- A journal's text, item by item: what stands at a place is told by the bytes that follow.
pub use Rattle.journal_text.proofs.RunLaws.Item.{AnswerItem, QuestionItem}
-- What the first faulty line is refused for: one thing, and something.
pub use Rattle.journal_text.proofs.VerdictLaws.{item_some}
