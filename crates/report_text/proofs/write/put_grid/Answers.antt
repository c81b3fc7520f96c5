use Rattle.std.proofs.Common.{◌≡◌, ◌<◌, Err, refl, ap, ◌∙◌, map, rules}
use Rattle.report_text.specs.Report.{text_of}
use Rattle.report_text.proofs.MemberLaws.{row_line}
use Rattle.report_text.proofs.PutLaws.{IsPut-none, IsPut-more, IsPut-stop, rows_after-next, rows_after-all}
use Rattle.report_text.proofs.write.put_grid.Goals as goal

pub returns-in_err-put_row : goal.returns-in_err-put_row
returns-in_err-put_row g c =
    let a = c.args.grid.now in
    let below : c.loop-row.row < c.args.grid.now.size.rows = search rules in
    let now = rw c.row.ensures.cells at c.in_err-put_row.ensures in
    IsPut-stop _ _ _ _ _ _ _ _ _ (Err c.in_err-put_row.field-0.0) c.from_residual.result _ _ _ _ refl c.from_residual.ensures.0 c.loop-row.invariant
    (ap (λ z. text_of (map row_line z)) (rows_after-next a.size.cols a.size.rows a.cells c.loop-row.row below)) now

pub loop-row-preserved : goal.loop-row-preserved
loop-row-preserved g c =
    let a = c.args.grid.now in
    let below : c.loop-row.row < c.args.grid.now.size.rows = search rules in
    let now = rw c.row.ensures.cells at c.in_ok-put_row.ensures in
    IsPut-more _ _ _ _ _ _ _ _ _ tt _ _ _ _ c.loop-row.invariant (ap (λ z. text_of (map row_line z)) (rows_after-next a.size.cols a.size.rows a.cells c.loop-row.row below)) now
