use Rattle.std.proofs.Common.{◌≡◌, ◌≢◌, ◌<◌, ℕ, List, length, map, ap, ◌∙◌, subst, arith, rules, sym, None}
use Rattle.lattice_grid.specs.declared.array.Defect.{Defect}
use Rattle.report_text.specs.Cells.{defect_byte}
use Rattle.report_text.specs.Pieces.{pieces_left}
use Rattle.report_text.proofs.CellsLaws.{HasArrayRows-push, no_array-few, no_array-row, no_array-left, array_read}
use Rattle.report_text.proofs.array.read_rows.Goals as goal

pub returns-in_default : goal.returns-in_default
returns-in_default c =
    let few : c.loop-row._row < c.args.shape.rows = let end = c.rows-row-end.ensures.same in omega (arith, end) in
    no_array-few c.args.shape c.args.word.now _ _ c.loop-row._row c.loop-row.invariant (ap (pieces_left 47) c.in_default.is) few

pub returns-then-not-branch : goal.returns-then-not-branch
returns-then-not-branch c =
    no_array-row c.args.shape c.args.word.now c.piece_at.result.0.now _ _ _ c.loop-row._row c.loop-row.invariant (ap (pieces_left 47) c.in-Some.is ∙ c.piece_at.ensures)
    (subst (λ (n : ℕ). (ds : List Defect) → length ds ≡ n → c.piece_at.result.0.now ≢ map defect_byte ds) c.cols.ensures.same (rw c.if-not-branch.true at c.in_ok-add_defects.ensures))

pub loop-row-preserved : goal.loop-row-preserved
loop-row-preserved c =
    let row = rw c.if-not-branch.false at c.in_ok-add_defects.ensures in
    HasArrayRows-push c.args.shape.cols _ _ _ c.piece_at.result.0.now _ _ row.0 c.loop-row._row c.loop-row.invariant (ap (pieces_left 47) c.in-Some.is ∙ c.piece_at.ensures) (row.1 ∙ c.cols.ensures.same) row.2 row.3

pub returns-then-is_some : goal.returns-then-is_some
returns-then-is_some c =
    let all : c.loop-row._row ≡ c.args.shape.rows = let end = c.rows-row-end.ensures.same in omega (arith, end) in
    no_array-left c.args.shape c.args.word.now c.loop-row.rest _ c.loop-row._row c.loop-row.invariant (search rules) all

pub returns : goal.returns
returns c =
    let all : c.loop-row._row ≡ c.args.shape.rows = let end = c.rows-row-end.ensures.same in omega (arith, end) in
    array_read c.args.shape c.args.word.now c.loop-row.rest _ c.loop-row._row c.rows-row-end.ensures.size c.loop-row.invariant (search rules) all c.new.result c.new.ensures
