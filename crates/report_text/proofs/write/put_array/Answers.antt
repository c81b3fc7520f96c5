use Rattle.std.proofs.Common.{◌≡◌, ◌<◌, ◌≤◌, Err, refl, ◌∷◌, [], ap, ◌∙◌, map, arith, rules}
use Rattle.report_text.specs.Cells.{defect_byte}
use Rattle.report_text.proofs.PutLaws.{IsPut-none, IsPut-more, IsPut-stop, IsPut-done, led, led_join, rows_after-next, rows_after-end, rows_after-all}
use Rattle.report_text.proofs.write.put_array.Goals as goal

pub loop-row-init : goal.loop-row-init
loop-row-init g c =
    let a = c.args.array.now in
    IsPut-none _ _ _ _ _ (ap (led (map defect_byte) (47 ∷ []) []) (rows_after-all a.size.cols a.size.rows a.cells) ∙ led_join (map defect_byte) 47 _)

pub returns-in_err-put_array_row : goal.returns-in_err-put_array_row
returns-in_err-put_array_row g c =
    let a = c.args.array.now in
    let below : c.loop-row.row < c.args.array.now.size.rows = search rules in
    IsPut-stop _ _ _ _ _ _ _ _ _ (Err c.in_err-put_array_row.field-0.0) c.from_residual.result _ _ _ _ refl c.from_residual.ensures.0 c.loop-row.invariant
    (ap (led (map defect_byte) (47 ∷ []) c.loop-row.lead.now) (rows_after-next a.size.cols a.size.rows a.cells c.loop-row.row below)) c.in_err-put_array_row.ensures

pub loop-row-preserved : goal.loop-row-preserved
loop-row-preserved g c =
    let a = c.args.array.now in
    let below : c.loop-row.row < c.args.array.now.size.rows = search rules in
    IsPut-more _ _ _ _ _ _ _ _ _ tt _ _ _ _ c.loop-row.invariant (ap (led (map defect_byte) (47 ∷ []) c.loop-row.lead.now) (rows_after-next a.size.cols a.size.rows a.cells c.loop-row.row below)) c.in_ok-put_array_row.ensures
