use Rattle.std.proofs.Common.{◌++◌, ◌∷◌, [], take, ◌∙◌, sym, ap, subst, arith}
use Rattle.std.specs.Prelude.{All}
use Rattle.std.proofs.lemmas.List.{take_more, take_all}
use Rattle.std.proofs.lemmas.Option.{get_or_from_slice_get, slice_get_within}
use Rattle.clause_core.specs.Formula.{IsOver}
use Rattle.clause_solver.proofs.solver.clauses_of.Goals as goal

pub loop-index-preserved : goal.loop-index-preserved
loop-index-preserved c =
    let clauses = c.args.formula.now.clauses in
    let clause = c.clause.result.now in
    let inside = slice_get_within clauses c.loop-index.index clause c.clause.ensures.value in
    c.in_ok-push.ensures.ok ∙ ap (λ cs. cs ++ clause ∷ []) c.loop-index.invariant
    ∙ sym (take_more clauses c.loop-index.index clause inside ∙ ap (λ x. take c.loop-index.index clauses ++ x ∷ []) (get_or_from_slice_get clauses c.loop-index.index clause clause c.clause.ensures.value))

pub returns-clause-over : goal.returns-clause-over
returns-clause-over c =
    let all = c.loop-index.invariant ∙ take_all c.loop-index.index c.args.formula.now.clauses (omega (arith, c.loop-index-test.false, c.count-index-end.ensures.value)) in
    subst (All (IsOver c.args.formula.now.vars)) (sym all) c.count-index-end.ensures.formula.over
