-- The door of this crate's proofs: what crates above may cite. All other proof files are the crate's own, and may change.

-- A text gives one answer, and gives some.
pub use Rattle.report_text.proofs.AnswerLaws.{block_apart, fault_of, one_answer, one_block, one_fault, some_answer, some_block}
-- Blocks one after another, and the last line.
pub use Rattle.report_text.proofs.BlocksLaws.{block_shorter}
-- The place of the first separator cuts the bytes.
pub use Rattle.report_text.proofs.CutLaws.{Without-none, cut_at}
-- The number of line feeds.
pub use Rattle.report_text.proofs.FeedLaws.{feed_or_none, feeds-append, feeds-line, feeds-none}
-- The words of the forms of answers, and of the first lines of blocks.
pub use Rattle.report_text.proofs.FormLaws.{headings}
-- Pieces joined by a separator.
pub use Rattle.report_text.proofs.JoinLaws.{Without-join, join-pieces, pieces-join}
-- The lines of blocks and of reports are those that are expected, and no others are.
pub use Rattle.report_text.proofs.MemberLaws.{block_lead, heading_of_block, said_block, text_of-block}
-- Numbers in digits.
pub use Rattle.report_text.proofs.NumberLaws.{Without-decimal, decimal-digits, digits_are_text, first_digit, no_number-empty, no_number-sign, no_number-zeros, parsed_number, same_number}
-- Bytes cut at a separator are its pieces, and no others.
pub use Rattle.report_text.proofs.PiecesLaws.{Without-append, Without-front, no_cut, no_last, pieces-Cuts, pieces-cut, pieces-none, pieces-some, same_cut}
-- Texts put one after another.
pub use Rattle.report_text.proofs.PutLaws.{IsPut, IsPut-more, IsPut-stop, blanks_next, flushed_front, puts_as, puts_stop, puts_then}
-- Cells in rows.
pub use Rattle.report_text.proofs.RowsLaws.{cells-rows_of, cells_of, length-cells, rows_of-cells}
-- How values are spelled as words, and lists of values as lines.
pub use Rattle.report_text.proofs.SpellLaws.{SpellsLine, Without-literal, after, nothing, only, then, then_of, told_as}
-- Where lines stop being as expected: in one place, and in some.
pub use Rattle.report_text.proofs.StopLaws.{stops_here}
-- Facts that hold or do not.
pub use Rattle.report_text.proofs.TestedLaws.{Tested, tested_all, tested_as, tested_both, tested_eq, tested_le, tested_list, tested_lt}
-- What is said of lines of such wholes is what is said of lines as they are expected.
pub use Rattle.report_text.proofs.WholeLaws.{feeds-lines}
-- The words of numbers, names, cells, sizes, arrays and proofs.
pub use Rattle.report_text.proofs.WordLaws.{array_rows, arrays, numbers, rows_are, size_of_array, sizes}
