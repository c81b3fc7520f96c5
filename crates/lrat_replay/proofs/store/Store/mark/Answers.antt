use Rattle.std.proofs.Common.{◌≡◌, ◌∙◌, ap, sym, subst, true, false}
use Rattle.lrat_replay.specs.Book.{is_live, without}
use Rattle.lrat_replay.specs.Store.{IsAbsent, IsPlace}
use Rattle.lrat_replay.proofs.StoreLaws.{is_live_absent, is_live_gone, is_live_found, book_marked}
use Rattle.lrat_replay.proofs.store.Store.mark.Goals as goal

pub returns-in_default-clause-lives : goal.returns-in_default-clause-lives
returns-in_default-clause-lives c = subst (λ b. false ≡ is_live b c.args.id) c.self.view_is
    (sym (is_live_absent c.self.inside.formula c.self.inside.steps c.self.inside.ids.items c.self.inside.deleted.items c.self.invariant.store c.args.id
    (subst (λ xs. IsAbsent xs c.args.id) c.deref.ensures.value c.in_default.ensures)))

pub returns-then-index-clause-lives : goal.returns-then-index-clause-lives
returns-then-index-clause-lives c = subst (λ b. false ≡ is_live b c.args.id) c.self.view_is
    (sym (is_live_gone c.self.inside.formula c.self.inside.steps c.self.inside.ids.items c.self.inside.deleted.items c.self.invariant.store c.args.id c.in-Some.place
    (subst (λ xs. IsPlace xs c.args.id c.in-Some.place) c.deref.ensures.value c.in-Some.ensures) c.index.result.now c.index.ensures c.if-index.true))

pub returns-clause-lives : goal.returns-clause-lives
returns-clause-lives c = subst (λ b. true ≡ is_live b c.args.id) c.self.view_is
    (sym (is_live_found c.self.inside.formula c.self.inside.steps c.self.inside.ids.items c.self.inside.deleted.items c.self.invariant.store c.args.id c.in-Some.place
    (subst (λ xs. IsPlace xs c.args.id c.in-Some.place) c.deref.ensures.value c.in-Some.ensures) c.index.result.now c.index.ensures c.if-index.false))

pub returns-clause-marked : goal.returns-clause-marked
returns-clause-marked c = λ _.
    book_marked c.self.inside.formula c.self.inside.steps c.self.inside.ids.items c.self.inside.deleted.items c.self.invariant.store c.args.id c.in-Some.place
    (subst (λ xs. IsPlace xs c.args.id c.in-Some.place) c.deref.ensures.value c.in-Some.ensures) ∙ ap (λ b. without b c.args.id) c.self.view_is
