use Rattle.std.proofs.Common.{arith}
use Rattle.report_text.proofs.SizeLaws.{no_size-whole, no_size-rows, no_size-cols, size_read}
use Rattle.report_text.proofs.shape.read_shape.Goals as goal

pub returns-in_err-rows : goal.returns-in_err-rows
returns-in_err-rows c = rw c.from_residual.ensures (no_size-whole _ c.in_err-rows.ensures)

pub returns-in_err-number_of : goal.returns-in_err-number_of
returns-in_err-number_of c = rw c.from_residual-in_err-number_of.ensures (no_size-rows _ _ _ c.in_ok-rows.ensures c.in_err-number_of.ensures)

pub returns-in_err-number_of-2 : goal.returns-in_err-number_of-2
returns-in_err-number_of-2 c = rw c.from_residual-in_err-number_of-2.ensures (no_size-cols _ _ _ c.in_ok-rows.ensures c.in_err-number_of-2.ensures)

pub returns : goal.returns
returns c =
    size_read _ _ _ c.in_ok-rows.ensures c.in_ok-number_of.field-0 c.in_ok-number_of-2.field-0 (omega arith) (omega arith) c.in_ok-number_of.ensures c.in_ok-number_of-2.ensures c.new.result c.new.ensures
