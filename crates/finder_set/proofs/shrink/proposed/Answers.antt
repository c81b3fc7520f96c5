use Rattle.finder_set.proofs.ShrinkingLaws.{IsRightAndSmaller-either}
use Rattle.finder_set.proofs.shrink.proposed.Goals as goal

pub returns-clause-right : goal.returns-clause-right
returns-clause-right c =
    rw c.or.ensures (IsRightAndSmaller-either _ _ _ _ c.in_ok-once.ensures.right (rw c.current.ensures at c.in_ok-twice.ensures.right))
