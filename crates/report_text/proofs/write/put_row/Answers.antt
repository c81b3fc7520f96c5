use Rattle.std.proofs.Common.{◌≡◌, Err, refl, ◌∷◌, [], ◌++◌, ap, ◌∙◌, length, arith}
use Rattle.report_text.specs.Cells.{control_text}
use Rattle.report_text.proofs.PutLaws.{IsPut-none, IsPut-more, IsPut-stop, IsPut-last, puts_as, led_join, led_next, led_end}
use Rattle.report_text.proofs.write.put_row.Goals as goal

pub loop-cell-init : goal.loop-cell-init
loop-cell-init g c = IsPut-none _ _ _ _ _ (ap (λ z. z ++ 10 ∷ []) (led_join control_text 32 c.args.cells.now))

pub returns-in_err-put_cell : goal.returns-in_err-put_cell
returns-in_err-put_cell g c =
    IsPut-stop _ _ _ _ _ _ _ _ _ (Err c.in_err-put_cell.field-0.0) c.from_residual.result _ _ _ _ refl c.from_residual.ensures.0 c.loop-cell.invariant
    (led_next control_text (32 ∷ []) c.loop-cell.lead.now c.args.cells.now c.loop-cell.cell-index _ c.loop-cell-test.true) c.in_err-put_cell.ensures

pub loop-cell-preserved : goal.loop-cell-preserved
loop-cell-preserved g c =
    IsPut-more _ _ _ _ _ _ _ _ _ tt _ _ _ _ c.loop-cell.invariant (led_next control_text (32 ∷ []) c.loop-cell.lead.now c.args.cells.now c.loop-cell.cell-index _ c.loop-cell-test.true) c.in_ok-put_cell.ensures

pub returns : goal.returns
returns g c =
    let end : length c.args.cells.now ≡ c.loop-cell.cell-index = omega arith in
    IsPut-last _ _ _ _ _ _ _ _ _ c.put.result _ _ c.loop-cell.invariant
    (puts_as _ _ _ _ _ _ _ _ _ (led_end control_text (32 ∷ []) c.loop-cell.lead.now c.args.cells.now c.loop-cell.cell-index end) (record { ok = c.put.ensures.ok; front = c.put.ensures.front; cause = c.put.ensures.cause }))
