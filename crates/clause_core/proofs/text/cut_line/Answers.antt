use Rattle.std.proofs.Common.{◌+◌, ◌∙◌, ap, sym, take, ◌∷◌, ◌==◌}
use Rattle.wire_io.specs.Laws.{slice_to_end}
use Rattle.clause_core.specs.Text.{lines_of}
use Rattle.clause_core.proofs.TextLaws.{split-found, split-all}
use Rattle.clause_core.proofs.text.cut_line.Goals as goal

pub returns-then-end-text-clause-lines : goal.returns-then-end-text-clause-lines
returns-then-end-text-clause-lines c =
    split-found (λ b. b == 10) c.args.text.now c.line_len-end.result c.line_len-end.ensures c.if-end-text.true
    ∙ ap (λ r. take c.line_len-end.result c.args.text.now ∷ lines_of r) (sym (slice_to_end c.args.text.now (c.line_len-end.result + 1)))

pub returns-else-end-text-clause-lines : goal.returns-else-end-text-clause-lines
returns-else-end-text-clause-lines c = split-all (λ b. b == 10) c.args.text.now c.line_len-end.result c.line_len-end.ensures c.if-end-text.false
