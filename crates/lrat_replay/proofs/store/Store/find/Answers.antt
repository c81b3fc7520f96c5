use Rattle.std.proofs.Common.{◌≡◌, subst, None, Some}
use Rattle.lrat_replay.specs.Book.{live}
use Rattle.lrat_replay.specs.Store.{IsAbsent, IsPlace}
use Rattle.lrat_replay.proofs.StoreLaws.{live_absent, live_gone, live_found}
use Rattle.lrat_replay.proofs.store.Store.find.Goals as goal

pub returns-in_err-place-clause-found : goal.returns-in_err-place-clause-found
returns-in_err-place-clause-found c = rw c.from_residual.ensures (subst (λ b. live b c.args.id ≡ None) c.self.view_is
    (live_absent c.self.inside.formula c.self.inside.steps c.self.inside.ids.items c.self.inside.deleted.items c.self.invariant.store c.args.id
    (subst (λ xs. IsAbsent xs c.args.id) c.deref.ensures.value c.in_err-place.ensures)))

pub returns-then-index-clause-found : goal.returns-then-index-clause-found
returns-then-index-clause-found c = subst (λ b. live b c.args.id ≡ None) c.self.view_is
    (live_gone c.self.inside.formula c.self.inside.steps c.self.inside.ids.items c.self.inside.deleted.items c.self.invariant.store c.args.id c.in_ok-place.place c.index.result.now
    (subst (λ xs. IsPlace xs c.args.id c.in_ok-place.place) c.deref.ensures.value c.in_ok-place.ensures) c.index.ensures c.if-index.true)

pub returns-clause-found : goal.returns-clause-found
returns-clause-found c = subst (λ b. live b c.args.id ≡ Some c.clause_at.result.now) c.self.view_is
    (live_found c.self.inside.formula c.self.inside.steps c.self.inside.ids.items c.self.inside.deleted.items c.self.invariant.store c.args.id c.in_ok-place.place c.index.result.now c.clause_at.result.now
    (subst (λ xs. IsPlace xs c.args.id c.in_ok-place.place) c.deref.ensures.value c.in_ok-place.ensures) c.index.ensures c.if-index.false c.clause_at.ensures.value)
