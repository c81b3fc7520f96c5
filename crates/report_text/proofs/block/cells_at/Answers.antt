use Rattle.report_text.proofs.block.cells_at.Goals as goal

pub returns-in-Some : goal.returns-in-Some
returns-in-Some c = rw c.in-Some.is c.rows_at.ensures
