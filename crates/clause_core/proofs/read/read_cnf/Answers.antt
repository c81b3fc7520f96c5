use Rattle.std.proofs.Common.{◌≡◌, ◌+◌, ◌∙◌, sym, inl, inr, arith, length}
use Rattle.std.proofs.lemmas.Result.{IfOk-weaker, IfErr-weaker}
use Rattle.clause_core.specs.Text.{lines_of, last_line}
use Rattle.clause_core.proofs.ReadLaws.{cnf-too-long, cnf-none, cnf-row, cnf-large, cnf-body}
use Rattle.clause_core.proofs.read.read_cnf.Goals as goal

pub returns-then-bytes-gt-MOST_BYTES-clause-err : goal.returns-then-bytes-gt-MOST_BYTES-clause-err
returns-then-bytes-gt-MOST_BYTES-clause-err c = inr (sym (cnf-too-long c.args.bytes.now c.if-bytes-gt-MOST_BYTES.true))

pub returns-in-Err-clause-err : goal.returns-in-Err-clause-err
returns-in-Err-clause-err c = inr (cnf-none c.args.bytes.now c.in-Err.line c.if-bytes-gt-MOST_BYTES.false c.in-Err.ensures.rows c.in-Err.ensures.last)

pub returns-in_default-clause-err : goal.returns-in_default-clause-err
returns-in_default-clause-err c = inr (cnf-row c.args.bytes.now _ _ _ c.if-bytes-gt-MOST_BYTES.false c.in-Ok.ensures.rows c.in_default.ensures.value)

pub returns-then-is_too_large-clause-err : goal.returns-then-is_too_large-clause-err
returns-then-is_too_large-clause-err c =
    inr (cnf-large c.args.bytes.now _ _ _ c.if-bytes-gt-MOST_BYTES.false c.in-Ok.ensures.rows c.in-Some.ensures.value (sym c.is_too_large.ensures ∙ c.if-is_too_large.true))

pub returns-clause-ok : goal.returns-clause-ok
returns-clause-ok c =
    let say = cnf-body c.args.bytes.now _ _ _ c.if-bytes-gt-MOST_BYTES.false c.in-Ok.ensures.rows c.in-Some.ensures.value (sym c.is_too_large.ensures ∙ c.if-is_too_large.false) in
    let end : last_line c.args.bytes.now + 1 ≡ c.in-Ok.first.next + length (lines_of c.in-Ok.first.rest.now) = omega (arith, c.in-Ok.ensures.last) in
    IfOk-weaker c.read_body.result _ _ (λ formula h. say ∙ h (last_line c.args.bytes.now) end) c.read_body.ensures.ok

pub returns-clause-err : goal.returns-clause-err
returns-clause-err c =
    let say = cnf-body c.args.bytes.now _ _ _ c.if-bytes-gt-MOST_BYTES.false c.in-Ok.ensures.rows c.in-Some.ensures.value (sym c.is_too_large.ensures ∙ c.if-is_too_large.false) in
    let end : last_line c.args.bytes.now + 1 ≡ c.in-Ok.first.next + length (lines_of c.in-Ok.first.rest.now) = omega (arith, c.in-Ok.ensures.last) in
    IfErr-weaker c.read_body.result _ _ (λ refusal h. elim h [ inl e ↦ inl e | inr f ↦ inr (say ∙ f (last_line c.args.bytes.now) end) ]) c.read_body.ensures.err
