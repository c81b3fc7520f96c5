use Rattle.std.proofs.Common.{◌≡◌, ◌≤◌, None, length, take}
use Rattle.lrat_replay.specs.Book.{Book, deletion_fault, after_deletion}
use Rattle.lrat_replay.proofs.store.Store.restore.Given as goal

abbrev pub invariant-loop-left : goal.invariant-loop-left
invariant-loop-left l = record {
  within : l.left ≤ length l.ids;
  back : (before : Book) → deletion_fault before l.ids ≡ None → after_deletion before l.ids ≡ l.fn.self → l.self ≡ after_deletion before (take l.left l.ids);
}

abbrev pub decreases-loop-left : goal.decreases-loop-left
decreases-loop-left l = l.left
