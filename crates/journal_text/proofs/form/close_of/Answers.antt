use Rattle.std.proofs.Common.{◌≢◌, codes, rules}
use Rattle.journal_text.proofs.FormLaws.{no_close_behind}
use Rattle.journal_text.proofs.form.close_of.Goals as goal

pub returns-in_err-behind : goal.returns-in_err-behind
returns-in_err-behind c =
    let refuted : c.args.line.now ≢ codes "refuted" = search rules in
    let satisfied : c.args.line.now ≢ codes "satisfied" = search rules in
    rw c.from_residual.ensures (no_close_behind c.args.line.now refuted satisfied c.in_err-behind.ensures)
