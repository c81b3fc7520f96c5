use Rattle.lrat_replay.proofs.ListsLaws.{listed_store_made}
use Rattle.lrat_replay.proofs.StoreLaws.{store_made, book_made}
use Rattle.lrat_replay.proofs.store.Store.new.Goals as goal

pub invariant_of-result : goal.invariant_of-result
invariant_of-result c = listed_store_made c.args.formula c.new.result c.in_ok-ids.ids.items c.in_ok-deleted.deleted.items c.in_ok-lists.lists.first.items c.in_ok-lists.lists.next.items c.new.ensures
    (store_made c.args.formula c.new.result c.in_ok-ids.ids.items c.in_ok-deleted.deleted.items c.count-count.result c.new.ensures c.in_ok-ids.ensures c.in_ok-deleted.ensures c.count-count.ensures.value)
    c.in_ok-lists.ensures.listed c.in_ok-lists.ensures.width

pub returns : goal.returns
returns c = book_made c.args.formula c.new.result c.in_ok-ids.ids.items c.in_ok-deleted.deleted.items c.count-count.result c.new.ensures c.in_ok-ids.ensures c.in_ok-deleted.ensures c.count-count.ensures.value
