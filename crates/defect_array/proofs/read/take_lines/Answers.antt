use Rattle.std.proofs.Common.{ap, ◌∙◌, arith, length}
use Rattle.std.proofs.lemmas.Result.{err_from_is_err_and}
use Rattle.report_text.specs.Pieces.{pieces_left}
use Rattle.defect_array.proofs.TakeLaws.{reached_fault, few_lines}
use Rattle.defect_array.proofs.read.take_lines.Goals as goal

pub returns-in_err-take_line-clause-err : goal.returns-in_err-take_line-clause-err
returns-in_err-take_line-clause-err c =
    let i = c.loop-rest.invariant in
    let split = ap (pieces_left 10) c.in-Some.is ∙ c.piece_at.ensures in
    let p = err_from_is_err_and c.from_residual.result c.from_residual.ensures.1 in
    rw (p.1, p.2) (λ other. let fault = c.in_err-take_line.ensures.err other i.rows i.taken in
    reached_fault c.args.text.now c.piece_at.result.0.now (pieces_left 10 c.loop-rest.rest) (pieces_left 10 c.piece_at.result.1) c.loop-rest.number c.loop-rest.rows.width c.loop-rest.rows.many c.loop-rest.rows.cells.items i split fault.0
    c.in_err-take_line.field-0.0 fault.1 fault.2)

pub overflow_add-number : goal.overflow_add-number
overflow_add-number c =
    let split = ap length (ap (pieces_left 10) c.in-Some.is ∙ c.piece_at.ensures) in
    let room = c.loop-rest.invariant.room in
    let few = few_lines c.args.text.now in
    let bytes = c.requires.few in
    omega (arith, split, room, few, bytes)
