use Rattle.std.proofs.Common.{◌≡◌, ◌+◌, ◌-◌, ◌<◌, ◌∙◌, ap, sym, arith, take, length, get_or, pos, w32, rules}
use Rattle.std.proofs.lemmas.Int.{to_z-of_z}
use mir.Val.{SFits}
use Rattle.lrat_replay.specs.Book.{after_deletion}
use Rattle.lrat_replay.proofs.DeletionLaws.{one_back}
use Rattle.lrat_replay.proofs.store.Store.restore.Goals as goal

pub loop-left-preserved : goal.loop-left-preserved
loop-left-preserved c =
    let within : c.loop-left.left - 1 < length c.args.ids.now = omega (arith, c.loop-left.invariant.within, c.loop-left-test.true) in
    let next : c.loop-left.left - 1 + 1 ≡ c.loop-left.left = omega (arith, c.loop-left-test.true) in
    let fits : SFits w32 (get_or c.args.ids.now (c.loop-left.left - 1) (pos 0)) = search rules in
    record {
      within = omega arith;
      back = λ before accepted same.
          let b = one_back before c.args.ids.now (c.loop-left.left - 1) _ accepted within (to_z-of_z w32 (get_or c.args.ids.now (c.loop-left.left - 1) (pos 0)) fits) in
          c.restore_one.ensures (after_deletion before (take (c.loop-left.left - 1) c.args.ids.now)) b.accepted
          (b.after ∙ ap (λ n. after_deletion before (take n c.args.ids.now)) next ∙ sym (c.loop-left.invariant.back before accepted same));
    }
