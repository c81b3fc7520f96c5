use Rattle.std.proofs.Common.{◌∙◌, codes, ◌++◌, refl}
use Rattle.wire_io.proofs.Tools.{IsPassed-none, IsPassed-more, IsPassed-stop}
use Rattle.clause_core.specs.Cnf.{literal_text}
use Rattle.clause_core.proofs.PieceLaws.{passed_all, flat_map-drop, flat_map-end}
use Rattle.clause_core.proofs.write.put_literals.Goals as goal

pub loop-lit-init : goal.loop-lit-init
loop-lit-init g c = (IsPassed-none _ _ _, refl)

pub returns-in_err-put_literal-clause-front : goal.returns-in_err-put_literal-clause-front
returns-in_err-put_literal-clause-front g c =
    IsPassed-stop _ _ _ _ _ _ _ _ _ c.loop-lit.invariant.0 (flat_map-drop (λ l. literal_text l ++ codes " ") c.args.clause.now c.loop-lit.lit-index c.lit-item.result c.loop-lit-test.true)
    (rw c.lit-item.is at c.in_err-put_literal.ensures.front)

pub loop-lit-preserved : goal.loop-lit-preserved
loop-lit-preserved g c = (
  IsPassed-more _ _ _ _ _ _ _ _ _ _ c.loop-lit.invariant.0 (flat_map-drop (λ l. literal_text l ++ codes " ") c.args.clause.now c.loop-lit.lit-index c.lit-item.result c.loop-lit-test.true)
      (rw c.lit-item.is at c.in_ok-put_literal.ensures.ok),
  c.in_ok-put_literal.ensures.cause.still ∙ c.loop-lit.invariant.1,
)

pub returns-clause-ok : goal.returns-clause-ok
returns-clause-ok g c =
    passed_all _ _ _ _ _ _ c.loop-lit.invariant.0 (flat_map-end (λ l. literal_text l ++ codes " ") c.args.clause.now c.loop-lit.lit-index c.loop-lit-test.false)
