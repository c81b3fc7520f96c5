use Rattle.std.proofs.Common.{◌<◌, ◌≤◌, length, rules, ◌∙◌, refl}
use Rattle.std.proofs.lemmas.Result.{on_ok_weaker}
use Rattle.wire_io.proofs.Tools.{IsPassed-more, IsPassed-stop, Passes-all, Passes-all_front}
use Rattle.clause_core.specs.Cnf.{clause_text}
use Rattle.clause_core.proofs.PieceLaws.{passed_all, flat_map-end}
use Rattle.clause_core.proofs.WriteLaws.{head-stop, head-then, clauses-next}
use Rattle.clause_core.proofs.write.write_cnf.Goals as goal

pub returns-in_err-put_head-clause-front : goal.returns-in_err-put_head-clause-front
returns-in_err-put_head-clause-front g c = head-stop _ _ _ _ _ _ c.new-buffer.ensures c.vars.ensures.value c.count.ensures.value c.in_err-put_head.ensures.front

pub loop-index-init : goal.loop-index-init
loop-index-init g c = (
  head-then _ _ _ _ _ _ _ c.vars.ensures.value c.count.ensures.value (rw c.new-buffer.ensures at c.in_ok-put_head.ensures.ok),
  c.in_ok-put_head.ensures.cause.still,
)

pub returns-in_err-put_clause-clause-front : goal.returns-in_err-put_clause-clause-front
returns-in_err-put_clause-clause-front g c =
    let below : c.loop-index.index < length c.args.formula.now.clauses = search rules in
    IsPassed-stop _ _ _ _ _ _ _ _ _ c.loop-index.invariant.0 (clauses-next c.args.formula.now.clauses c.loop-index.index c.clause.result.now below c.clause.ensures.value) c.in_err-put_clause.ensures.front

pub loop-index-preserved : goal.loop-index-preserved
loop-index-preserved g c =
    let below : c.loop-index.index < length c.args.formula.now.clauses = search rules in (
      IsPassed-more _ _ _ _ _ _ _ _ _ _ c.loop-index.invariant.0 (clauses-next c.args.formula.now.clauses c.loop-index.index c.clause.result.now below c.clause.ensures.value) c.in_ok-put_clause.ensures.ok,
      c.in_ok-put_clause.ensures.cause.still ∙ c.loop-index.invariant.1,
    )

pub returns-clause-ok : goal.returns-clause-ok
returns-clause-ok g c =
    let end : length c.args.formula.now.clauses ≤ c.loop-index.index = search rules in
    let passed = passed_all _ _ _ _ _ _ c.loop-index.invariant.0 (flat_map-end clause_text c.args.formula.now.clauses c.loop-index.index end) in
    on_ok_weaker c.flush.result (λ now. Passes-all _ _ _ _ _ _ refl passed now) c.flush.ensures.ok

pub returns-clause-front : goal.returns-clause-front
returns-clause-front g c =
    let end : length c.args.formula.now.clauses ≤ c.loop-index.index = search rules in
    let passed = passed_all _ _ _ _ _ _ c.loop-index.invariant.0 (flat_map-end clause_text c.args.formula.now.clauses c.loop-index.index end) in
    Passes-all_front _ _ _ _ _ _ refl passed c.flush.ensures.front
