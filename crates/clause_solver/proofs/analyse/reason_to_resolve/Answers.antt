use Rattle.std.proofs.Common.{◌≡◌, List, ◌∷◌, ◌∙◌, sym, subst, inr}
use Rattle.clause_solver.specs.Analysis.{MayResolve, MayKeep}
use Rattle.clause_solver.specs.declared.value.Value.{Value}
use Rattle.clause_solver.specs.Met.{seen_of}
use Rattle.clause_solver.specs.Trail.{known_by, oldest}
use Rattle.clause_solver.proofs.SomeSeen.{older_known, only_one, decided_one, if_resolves, some_weaker, none_weaker}
use Rattle.clause_solver.proofs.analyse.reason_to_resolve.Goals as goal

same_value : {v w : Value} {older : List Value} {all : List Value} → all ≡ v ∷ older → all ≡ w ∷ older → v ≡ w
same_value a b = let e = sym a ∙ b in cc

pub returns-then-place-fixed-clause-resolves : goal.returns-then-place-fixed-clause-resolves
returns-then-place-fixed-clause-resolves c =
    let values = c.args.trail.now.values in
    let seen = seen_of c.args.met.now c.args.trail.now.values in
    let v = c.value-value.result in
    some_weaker v.reason (if_resolves (known_by (oldest c.args.start values)) (oldest c.args.place values) seen v (inr (older_known values c.args.start seen c.args.place v c.if-place-start.true c.value-value.ensures.is)))
    (λ id may w is. subst (λ (x : Value). MayResolve (known_by (oldest c.args.start values)) (oldest c.args.place values) seen x id) (same_value c.value-value.ensures.is is) may)

pub returns-then-place-fixed-clause-keeps : goal.returns-then-place-fixed-clause-keeps
returns-then-place-fixed-clause-keeps c =
    none_weaker c.value-value.result.reason (λ _ w is. inr (older_known c.args.trail.now.values c.args.start (seen_of c.args.met.now c.args.trail.now.values) c.args.place w c.if-place-start.true is))

pub returns-then-place-start-clause-resolves : goal.returns-then-place-start-clause-resolves
returns-then-place-start-clause-resolves c =
    let values = c.args.trail.now.values in
    let seen = seen_of c.args.met.now c.args.trail.now.values in
    some_weaker c.reason_to_drop.result c.reason_to_drop.ensures
    (λ id is_reason w is. record { reason = is_reason w is; place = inr (older_known values c.args.start seen c.args.place w c.if-place-start.true is) })

pub returns-then-place-start-clause-keeps : goal.returns-then-place-start-clause-keeps
returns-then-place-start-clause-keeps c =
    none_weaker c.reason_to_drop.result (λ _ w is. inr (older_known c.args.trail.now.values c.args.start (seen_of c.args.met.now c.args.trail.now.values) c.args.place w c.if-place-start.true is))

pub returns-in-None-clause-keeps : goal.returns-in-None-clause-keeps
returns-in-None-clause-keeps c = λ w is.
    let v = c.value-value.result in
    let values = c.args.trail.now.values in
    subst (λ (x : Value). MayKeep (known_by (oldest c.args.start values)) (oldest c.args.place values) (seen_of c.args.met.now c.args.trail.now.values) x.lit) (same_value c.value-value.ensures.is is)
    (only_one values c.args.start (seen_of c.args.met.now c.args.trail.now.values) c.args.place v c.if-place-start.false c.value-value.ensures.fresh c.in-None.ensures.none)

pub returns-in-Some-clause-keeps : goal.returns-in-Some-clause-keeps
returns-in-Some-clause-keeps c =
    let values = c.args.trail.now.values in
    let seen = seen_of c.args.met.now c.args.trail.now.values in
    let v = c.value-value.result in
    none_weaker v.reason (λ e w is. subst (λ (x : Value). MayKeep (known_by (oldest c.args.start values)) (oldest c.args.place values) seen x.lit) (same_value c.value-value.ensures.is is)
    (decided_one values c.args.start seen c.args.place v c.if-place-start.false c.requires.within c.requires.newest c.value-value.ensures.is e c.value-value.ensures.fresh))
