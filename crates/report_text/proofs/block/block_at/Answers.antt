use Rattle.std.proofs.Common.{[], refl}
use Rattle.std.proofs.lemmas.Result.{err_from_is_err_and}
use Rattle.report_text.specs.Expected.{parts_of_heading}
use Rattle.report_text.specs.Expected.Expected.{Heading}
use Rattle.report_text.proofs.BlockLaws.{cells_fault, proofs_fault, block_read, cells_many, cells_inputs}
use Rattle.report_text.proofs.StopLaws.{stops_here, runs_out_here}
use Rattle.report_text.proofs.block.block_at.Goals as goal

pub returns-in_default : goal.returns-in_default
returns-in_default c = runs_out_here (Heading c.args.version) [] c.args.bytes.now c.args.first c.in_default.ensures

pub returns-in_default-2 : goal.returns-in_default-2
returns-in_default-2 c =
    let none = rw c.in_default-2.is at c.in_ok-heading.ensures in
    stops_here (Heading c.args.version) [] c.args.bytes.now c.in-Some.text.now c.in-Some.rest.now c.args.first c.in-Some.ensures (λ more x. none x.heading x.is_heading x.words_are)

pub returns-in_err-cells : goal.returns-in_err-cells
returns-in_err-cells c =
    let p = err_from_is_err_and c.from_residual-in_err-cells.result c.from_residual-in_err-cells.ensures.1 in
    let heading = rw c.in-Some-2.is at c.in_ok-heading.ensures in
    let stops = rw c.lattice_shape.ensures at c.in_err-cells.ensures in
    rw (p.1, p.2) (cells_fault c.args.version _ _ _ c.args.first (parts_of_heading c.in-Some-2.heading) c.in_err-cells.field-0.0 c.in-Some.ensures heading.0 heading.1 stops)

pub answer_of-answer-requires-clause-many : goal.answer_of-answer-requires-clause-many
answer_of-answer-requires-clause-many c = let has = rw c.lattice_shape.ensures at c.in_ok-cells.ensures in cells_many _ _ _ _ has

pub answer_of-answer-requires-clause-inputs : goal.answer_of-answer-requires-clause-inputs
answer_of-answer-requires-clause-inputs c = cells_inputs _ _ _ _ c.in_ok-cells.ensures

pub returns-in_err-proofs : goal.returns-in_err-proofs
returns-in_err-proofs c =
    let p = err_from_is_err_and c.from_residual-in_err-proofs.result c.from_residual-in_err-proofs.ensures.1 in
    let heading = rw c.in-Some-2.is at c.in_ok-heading.ensures in
    let has = rw c.lattice_shape.ensures at c.in_ok-cells.ensures in
    rw (p.1, p.2) (proofs_fault c.args.version _ _ _ _ c.args.first c.rows.result _ (parts_of_heading c.in-Some-2.heading) _ c.answer_of-answer.result c.lists_proofs-follow.result c.in_err-proofs.field-0.0 c.in-Some.ensures heading.0 heading.1 has
    c.answer_of-answer.ensures c.lists_proofs-follow.ensures c.rows.ensures.count refl c.in_err-proofs.ensures)

pub returns : goal.returns
returns c =
    let heading = rw c.in-Some-2.is at c.in_ok-heading.ensures in
    let has = rw c.lattice_shape.ensures at c.in_ok-cells.ensures in
    block_read c.args.version _ _ _ _ _ (parts_of_heading c.in-Some-2.heading) _ c.answer_of-answer.result c.lists_proofs-follow.result _ c.in-Some.ensures heading.0 heading.1 has c.answer_of-answer.ensures c.lists_proofs-follow.ensures c.in_ok-proofs.ensures
