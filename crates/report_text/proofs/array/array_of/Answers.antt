use Rattle.report_text.proofs.CellsLaws.{array_words_ok}
use Rattle.report_text.proofs.array.array_of.Goals as goal

pub returns-in-Some : goal.returns-in-Some
returns-in-Some c = array_words_ok c.in-Some.shape c.args.size.now c.args.rows.now c.read_rows.result c.in-Some.ensures.0 c.in-Some.ensures.1 c.read_rows.ensures
