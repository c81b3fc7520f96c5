use Rattle.report_text.specs.Pieces.{pieces}
use Rattle.defect_array.specs.Rows.{rows_in}
use Rattle.defect_array.proofs.ReadLaws.{some_rows}
use Rattle.defect_array.proofs.TakeLaws.{read_ok, read_err}
use Rattle.defect_array.proofs.read.read_array.Goals as goal

pub returns-clause-read : goal.returns-clause-read
returns-clause-read c = read_ok c.args.text.now c.into_array.result (c.into_array.ensures (rows_in c.args.text.now) (some_rows 1 (pieces 10 c.args.text.now)) c.in_ok-take_lines.ensures.ok)

pub returns-clause-refused : goal.returns-clause-refused
returns-clause-refused c = read_err c.args.text.now c.into_array.result (c.into_array.ensures (rows_in c.args.text.now) (some_rows 1 (pieces 10 c.args.text.now)) c.in_ok-take_lines.ensures.ok)
