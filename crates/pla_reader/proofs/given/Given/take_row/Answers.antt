use Rattle.std.proofs.Common.{◌≡◌, length, ap, sym, ◌∙◌, subst, ◌&&◌, None}
use Rattle.std.specs.Prelude.{is_some, unwrap_or}
use Rattle.pla_reader.specs.Lines.{digits_of}
use Rattle.pla_reader.specs.declared.kind.Kind.TheVariants.{Fd}
use Rattle.pla_reader.specs.Faults.{row_fault}
use Rattle.pla_reader.specs.Marking.{Adds}
use Rattle.pla_reader.proofs.SetsLaws.{written_back}
use Rattle.pla_reader.specs.State.{state_of}
use Rattle.pla_reader.proofs.StateLaws.{Takes-row, from_ok}
use Rattle.pla_reader.proofs.given.Given.take_row.Goals as goal

pub returns-in-Ok : goal.returns-in-Ok
returns-in-Ok c =
    let digits : c.collect_digits.new.digits.items ≡ digits_of c.args.text.now = from_ok c.collect_digits.result _ c.collect_digits.ensures (sym c.is_err.ensures.value ∙ c.if-is_err.false) in
    let all : c.deref.result.now ≡ digits_of c.args.text.now = c.deref.ensures.value ∙ digits in
    let kept : length c.add_row.new.sets ≡ length c.args.self.now.sets.items = c.add_row.ensures.many ∙ ap length c.deref_mut.ensures.value in
    let text : c.deref-in-Ok.result.now ≡ digits_of c.args.text.now = c.deref-in-Ok.ensures.value ∙ digits in
    let kind : c.unwrap_or-kind.result ≡ unwrap_or c.args.self.now.kind Fd = c.unwrap_or-kind.ensures in
    let adds : Adds (unwrap_or c.args.self.now.kind Fd) c.in-Ok.inputs (digits_of c.args.text.now) c.args.self.now.sets.items c.add_row.new.sets =
    subst (λ w. Adds (unwrap_or c.args.self.now.kind Fd) c.in-Ok.inputs (digits_of c.args.text.now) w c.add_row.new.sets) c.deref_mut.ensures.value
    (subst (λ w. Adds (unwrap_or c.args.self.now.kind Fd) c.in-Ok.inputs w c.deref_mut.result.now c.add_row.new.sets) text
    (subst (λ k. Adds k c.in-Ok.inputs c.deref-in-Ok.result.now c.deref_mut.result.now c.add_row.new.sets) kind c.add_row.ensures)) in
    let clear : row_fault (is_some c.args.self.now.inputs && is_some c.args.self.now.outputs) (unwrap_or c.args.self.now.inputs 0) (unwrap_or c.args.self.now.outputs 0) c.args.self.now.rows (digits_of c.args.text.now) ≡ None =
    ap (row_fault (is_some c.args.self.now.inputs && is_some c.args.self.now.outputs) (unwrap_or c.args.self.now.inputs 0) (unwrap_or c.args.self.now.outputs 0) c.args.self.now.rows) (sym all) ∙ c.in-Ok.ensures.0 in
    let taken = Takes-row (state_of c.args.self.now) (digits_of c.args.text.now) c.in-Ok.inputs c.add_row.new.sets c.requires clear c.in-Ok.ensures.1.0 c.in-Ok.ensures.1.1 c.in-Ok.ensures.1.3 adds in
    rw (written_back c.args.self.now.sets.items c.add_row.new.sets c.args.self.now.sets.len c.args.self.now.sets.ok.0 kept) taken
