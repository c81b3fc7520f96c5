use Rattle.std.proofs.Common.{◌∙◌, sym, subst}
use Rattle.lrat_replay.specs.Store.{IsAbsent, IsPlace}
use Rattle.lrat_replay.proofs.StoreLaws.{book_unmarked, never_marked}
use Rattle.lrat_replay.proofs.store.Store.unmark.Goals as goal

pub returns-in-Some : goal.returns-in-Some
returns-in-Some c = λ before lives same.
    book_unmarked c.self.inside.formula c.self.inside.steps c.self.inside.ids.items c.self.inside.deleted.items c.self.invariant.store c.args.id c.in-Some.place
    (subst (λ xs. IsPlace xs c.args.id c.in-Some.place) c.deref.ensures.value c.in-Some.ensures) before lives (same ∙ sym c.self.view_is)

pub returns-in_default : goal.returns-in_default
returns-in_default c = λ before lives same. absurd
    (never_marked c.self.inside.formula c.self.inside.steps c.self.inside.ids.items c.self.inside.deleted.items c.self.invariant.store c.args.id
    (subst (λ xs. IsAbsent xs c.args.id) c.deref.ensures.value c.in_default.ensures) before lives (same ∙ sym c.self.view_is))
