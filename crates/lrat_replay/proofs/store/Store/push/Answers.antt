use Rattle.std.proofs.Common.{◌<◌, ◌++◌, ◌∷◌, [], ◌∙◌, ap, sym, subst, false, length, arith}
use Rattle.clause_core.specs.Formula.{IsOver}
use Rattle.lrat_replay.specs.Book.{last_id, after_addition}
use Rattle.lrat_replay.proofs.StoreLaws.{store_more, book_more}
use Rattle.lrat_replay.proofs.ListsLaws.{lead_within, few_listed, listed_store_more}
use Rattle.lrat_replay.proofs.store.Store.push.Goals as goal

pub push-requires-4-clause-within : goal.push-requires-4-clause-within
push-requires-4-clause-within c = lead_within c.self.inside.formula.vars (length c.reserve-3.new.self.first.items) c.args.clause.now
    (subst (λ b. IsOver b.formula.vars c.args.clause.now) (sym c.self.view_is) c.requires.over) (ap length c.reserve-3.ensures.first ∙ c.self.invariant.wide)

pub push-requires-4-clause-few : goal.push-requires-4-clause-few
push-requires-4-clause-few c =
    let inside = c.self.inside in
    let few = few_listed inside.formula inside.steps inside.ids.items inside.deleted.items inside.lists.first.items inside.lists.next.items c.self.invariant c.args.id (subst (λ b. last_id b < c.args.id) (sym c.self.view_is) c.requires.above) in
    let same = ap length c.reserve-3.ensures.next in
    let fits = c.ranges.id.fits in
    omega arith

pub invariant_of-self-2 : goal.invariant_of-self-2
invariant_of-self-2 c =
    let inside = c.self.inside in
    let ids = rw c.unwrap.ensures at c.push-2.ensures.items in
    let flags = rw c.unwrap-2.ensures at c.push-3.ensures.items in
    let listed = rw c.unwrap-3.ensures at c.push-4.ensures.listed in
    listed_store_more inside.formula inside.steps inside.ids.items inside.deleted.items inside.lists.first.items inside.lists.next.items c.self.invariant c.args.clause.now
    c.push.new.self c.push-2.new.self.items c.push-3.new.self.items c.reserve-3.new.self.first.items c.reserve-3.new.self.next.items c.push-4.new.self.first.items c.push-4.new.self.next.items c.in_ok-push.ensures.ok
    (store_more inside.formula inside.steps inside.ids.items inside.deleted.items c.self.invariant.store c.args.id c.args.clause.now
    (subst (λ b. last_id b < c.args.id) (sym c.self.view_is) c.requires.above) (subst (λ b. IsOver b.formula.vars c.args.clause.now) (sym c.self.view_is) c.requires.over)
    c.push.new.self c.push-2.new.self.items c.push-3.new.self.items c.in_ok-push.ensures.ok
    (ids ∙ ap (λ e. e ++ c.args.id ∷ []) c.reserve.ensures.items) (flags ∙ ap (λ e. e ++ false ∷ []) c.reserve-2.ensures.items))
    c.reserve-3.ensures.first c.reserve-3.ensures.next listed c.push-4.ensures.width

pub returns-clause-ok : goal.returns-clause-ok
returns-clause-ok c =
    let ids = rw c.unwrap.ensures at c.push-2.ensures.items in
    let flags = rw c.unwrap-2.ensures at c.push-3.ensures.items in
    book_more c.self.inside.formula c.self.inside.steps c.self.inside.ids.items c.self.inside.deleted.items c.self.invariant.store c.args.id c.args.clause.now
    (subst (λ b. last_id b < c.args.id) (sym c.self.view_is) c.requires.above) (subst (λ b. IsOver b.formula.vars c.args.clause.now) (sym c.self.view_is) c.requires.over)
    c.push.new.self c.push-2.new.self.items c.push-3.new.self.items c.in_ok-push.ensures.ok
    (ids ∙ ap (λ e. e ++ c.args.id ∷ []) c.reserve.ensures.items) (flags ∙ ap (λ e. e ++ false ∷ []) c.reserve-2.ensures.items)
    ∙ ap (λ b. after_addition b c.args.id c.args.clause.now) c.self.view_is
