use Rattle.std.proofs.Common.{◌≡◌, ◌<◌, subst, arith, ◌≢◌, map, List, ℕ}
use Rattle.lattice_grid.specs.declared.control.Control.{Control}
use Rattle.report_text.specs.Cells.{control_text}
use Rattle.report_text.specs.Expected.{IsRow}
use Rattle.report_text.specs.Pieces.{words}
use Rattle.report_text.proofs.BlockLaws.{RowsRead-push, other_row, lacks_row, all_rows}
use Rattle.report_text.proofs.block.rows_at.Goals as goal

pub returns-in_default : goal.returns-in_default
returns-in_default c =
    let few : c.loop-row.row < c.args.shape.rows = let end = c.rows-row-end.ensures.same in omega (arith, end) in
    lacks_row _ _ _ _ c.loop-row.row c.args.first c.loop-row.invariant few c.in_default.ensures

pub returns-then-not-branch : goal.returns-then-not-branch
returns-then-not-branch c =
    let few : c.loop-row.row < c.args.shape.rows = let end = c.rows-row-end.ensures.same in omega (arith, end) in
    other_row c.args.shape _ _ c.in-Some.text.now c.in-Some.after.now _ c.loop-row.row c.args.first c.loop-row.invariant few c.in-Some.ensures
    (subst (λ (n : ℕ). (row : List Control) → IsRow n row → words c.in-Some.text.now ≢ map control_text row) c.cols.ensures.same (rw c.if-not-branch.true at c.in_ok-add_row.ensures))

pub loop-row-preserved : goal.loop-row-preserved
loop-row-preserved c =
    let row = rw c.if-not-branch.false at c.in_ok-add_row.ensures in
    RowsRead-push _ _ _ c.in-Some.text.now c.in-Some.after.now _ _ c.loop-row.row c.loop-row.invariant c.in-Some.ensures row.0 (subst (λ (n : ℕ). IsRow n row.0) c.cols.ensures.same row.1) row.2 row.3

pub returns : goal.returns
returns c =
    let end : c.loop-row.row ≡ c.args.shape.rows = let same = c.rows-row-end.ensures.same in omega (arith, same) in
    all_rows _ _ _ _ c.loop-row.row c.rows-row-end.ensures.size c.loop-row.invariant end
