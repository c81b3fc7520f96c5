use Rattle.std.proofs.Common.{◌≡◌, ◌+◌, ◌++◌, ◌∷◌, [], ◌∙◌, ap, sym, arith}
use Rattle.lrat_replay.specs.Store.{counted}
use Rattle.lrat_replay.proofs.StoreLaws.{counted-push}
use Rattle.lrat_replay.proofs.store.count_up.Goals as goal

pub loop-before-preserved : goal.loop-before-preserved
loop-before-preserved c =
    let turned : c.loop-before.before + 1 ≡ 1 + c.loop-before.before = omega arith in
    c.in_ok-push.ensures.items ∙ ap (λ w. w ++ (c.loop-before.before + 1) ∷ []) c.loop-before.invariant
    ∙ ap (λ n. counted 1 c.loop-before.before ++ n ∷ []) turned ∙ sym (counted-push 1 c.loop-before.before)
