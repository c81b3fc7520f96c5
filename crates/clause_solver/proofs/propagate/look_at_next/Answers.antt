use Rattle.std.proofs.Common.{◌≡◌, ◌+◌, ◌∷◌, refl, sym, ap, ◌∙◌, subst, arith}
use Rattle.clause_solver.specs.Trail.{oldest}
use Rattle.clause_solver.specs.Watching.{IsVisiting}
use Rattle.clause_solver.proofs.Visits.{visiting_first, working_looked, advanced_same}
use Rattle.clause_solver.proofs.propagate.look_at_next.Goals as goal

pub loop-index-init : goal.loop-index-init
loop-index-init c = record {
  visiting = visiting_first c.args.work.now c.requires.working c.requires.settled c.requires.some c.value.result c.value.ensures.is c.value.ensures.variable c.flip-lost.result c.flip-lost.ensures c.list_len-index.result c.list_len-index.ensures;
  looked = refl;
  advanced = advanced_same c.args.work.now c.args.work.now refl refl refl;
}

pub returns-clause-working : goal.returns-clause-working
returns-clause-working c =
    let work = c.loop-index.work in
    let i = c.loop-index.invariant in
    let zero_is : c.loop-index.index ≡ 0 = omega (arith, c.loop-index-test.false) in
    let longer = i.advanced.longer in
    let some = c.requires.some in
    let more : oldest (work.looked + 1) work.trail.values ≡ c.value.result ∷ oldest work.looked work.trail.values =
    ap (λ n. oldest (n + 1) work.trail.values) i.looked ∙ i.advanced.front (c.args.work.now.looked + 1) (omega arith) ∙ c.value.ensures.is
    ∙ ap (λ vs. c.value.result ∷ vs) (sym (i.advanced.front c.args.work.now.looked (omega arith))) ∙ ap (λ n. c.value.result ∷ oldest n work.trail.values) (sym i.looked) in
    let same = i.looked in
    working_looked work c.flip-lost.result (subst (IsVisiting work c.flip-lost.result) zero_is i.visiting) c.value.result c.flip-lost.ensures (omega arith) more (work.looked + 1) refl
