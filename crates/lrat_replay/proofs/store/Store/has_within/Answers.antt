use Rattle.std.proofs.Common.{◌≡◌, ◌↔◌, ◌∙◌, sym, ap, true, subst}
use Rattle.lrat_replay.specs.Marks.{known_of}
use Rattle.lrat_replay.specs.Book.{all_of}
use Rattle.lrat_replay.specs.Store.{clauses_of}
use Rattle.lrat_replay.specs.Subset.{SomeAreKnown}
use Rattle.lrat_replay.proofs.StoreLaws.{clauses-is}
use Rattle.lrat_replay.proofs.store.Store.has_within.Goals as goal

pub returns : goal.returns
returns c =
    let inside = c.self.inside in
    let each = clauses-is inside.formula inside.steps inside.ids.items inside.deleted.items c.self.invariant.store in
    subst (λ cs. (c.some_within.result ≡ true) ↔ SomeAreKnown (known_of c.args.marks.now) cs) (sym each ∙ ap (λ b. clauses_of (all_of b)) c.self.view_is) c.some_within.ensures
