use Rattle.std.proofs.Common.{Err, refl, map, take, drop, ◌*◌}
use Rattle.report_text.specs.Cells.{defect_byte}
use Rattle.report_text.proofs.PutLaws.{puts_then, puts_stop}
use Rattle.report_text.proofs.write.put_array_row.Goals as goal

pub returns-in_err-put : goal.returns-in_err-put
returns-in_err-put g c =
    let a = c.args.array.now in
    puts_stop _ _ _ _ _ _ (Err c.in_err-put.field-0.0) c.from_residual.result c.args.lead.now (map defect_byte (take a.size.cols (drop (c.args.row * a.size.cols) a.cells))) refl c.from_residual.ensures.0
    (record { ok = tt; front = c.in_err-put.ensures.front; cause = c.in_err-put.ensures.cause })

pub returns : goal.returns
returns g c =
    let a = c.args.array.now in
    puts_then _ _ _ _ _ _ _ _ _ tt c.put_defects.result c.args.lead.now (map defect_byte (take a.size.cols (drop (c.args.row * a.size.cols) a.cells))) c.put_defects.ensures
    (record { ok = c.in_ok-put.ensures.ok; front = c.in_ok-put.ensures.front; cause = c.in_ok-put.ensures.cause })
