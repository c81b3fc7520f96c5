use Rattle.std.proofs.Common.{Err, refl, sym}
use Rattle.report_text.specs.Form.{form_of, lattice_of, lists}
use Rattle.report_text.specs.Report.{text_of, lattice_lines, proofs_lines}
use Rattle.report_text.proofs.MemberLaws.{text_of-append}
use Rattle.report_text.proofs.PutLaws.{puts_then, puts_stop, puts_as}
use Rattle.report_text.proofs.write.put_body.Goals as goal

pub returns-in_err-put_lattice : goal.returns-in_err-put_lattice
returns-in_err-put_lattice g c =
    let b = c.args.block.now in
    puts_as _ _ _ _ _ _ _ _ _ (sym (text_of-append (lattice_lines (lattice_of b.answer)) (proofs_lines (lists c.args.version (form_of b.answer)) b.proofs.items)))
    (puts_stop _ _ _ _ _ _ (Err c.in_err-put_lattice.field-0.0) c.from_residual.result (text_of (lattice_lines (lattice_of b.answer))) (text_of (proofs_lines (lists c.args.version (form_of b.answer)) b.proofs.items)) refl
    c.from_residual.ensures.0 (rw c.grid.ensures at c.in_err-put_lattice.ensures))

pub returns : goal.returns
returns g c =
    let b = c.args.block.now in
    puts_as _ _ _ _ _ _ _ _ _ (sym (text_of-append (lattice_lines (lattice_of b.answer)) (proofs_lines (lists c.args.version (form_of b.answer)) b.proofs.items)))
    (puts_then _ _ _ _ _ _ _ _ _ tt c.put_proofs.result (text_of (lattice_lines (lattice_of b.answer))) (text_of (proofs_lines (lists c.args.version (form_of b.answer)) b.proofs.items))
    (rw (c.deref.ensures.value, c.lists_proofs-follow.ensures) at c.put_proofs.ensures) (rw c.grid.ensures at c.in_ok-put_lattice.ensures))
