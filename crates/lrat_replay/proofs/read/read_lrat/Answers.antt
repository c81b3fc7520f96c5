use Rattle.std.proofs.Common.{◌∙◌, ap, sym, inl, inr, arith}
use Rattle.std.proofs.lemmas.Result.{err_from_is_err_and}
use Rattle.lrat_replay.specs.LratRead.{lines_say}
use Rattle.clause_core.specs.Text.{rows_in}
use Rattle.lrat_replay.proofs.ReadLaws.{behind_lines, behind-more, behind-refused, behind-end}
use Rattle.lrat_replay.proofs.read.read_lrat.Goals as goal

pub returns-in_err-line-clause-err : goal.returns-in_err-line-clause-err
returns-in_err-line-clause-err c =
    let p = err_from_is_err_and c.from_residual.result c.from_residual.ensures.1 in
    rw (p.1, p.2) (elim c.in_err-line.ensures.err [
      | inl e ↦ inl e
      | inr f ↦ inr (c.loop-row.invariant.read ∙ ap (λ r. behind_lines c.loop-row.lines.items (lines_say r)) c.in-Ok.ensures.rows ∙ behind-refused c.loop-row.lines.items (record { number = c.in-Ok.row.number; bytes = c.in-Ok.row.bytes.now }) (rows_in c.in-Ok.row.next c.in-Ok.row.rest.now) _ f)
    ])

pub loop-row-preserved : goal.loop-row-preserved
loop-row-preserved c =
    let pushed = rw c.if-is_err.ensures.negation at c.push.ensures.items in
    record {
      read = c.loop-row.invariant.read ∙ ap (λ r. behind_lines c.loop-row.lines.items (lines_say r)) c.in-Ok.ensures.rows ∙ behind-more c.loop-row.lines.items (record { number = c.in-Ok.row.number; bytes = c.in-Ok.row.bytes.now }) _ (rows_in c.in-Ok.row.next c.in-Ok.row.rest.now) c.in_ok-line.ensures.ok
          ∙ ap (λ w. behind_lines w (lines_say (rows_in c.in-Ok.row.next c.in-Ok.row.rest.now))) (sym pushed);
      counted = omega (arith, c.in-Ok.ensures.counted, c.loop-row.invariant.counted);
    }

pub returns-clause-ok : goal.returns-clause-ok
returns-clause-ok c = c.loop-row.invariant.read ∙ behind-end c.loop-row.lines.items _ c.in_default.ensures.rows
