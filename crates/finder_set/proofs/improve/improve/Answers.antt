use Rattle.std.proofs.Common.{rules, ◌<◌, arith, ap, ◌∙◌, length}
use Rattle.finder_set.proofs.Asking.{IsAsking-stays, IsAsking-drops, IsAsking-ends}
use Rattle.finder_set.proofs.Wider.{IsWrongProposal-wider}
use Rattle.finder_set.proofs.improve.improve.Goals as goal
use Rattle.finder_set.proofs.improve.improve.Goals.{in-None, in-Some+in_ok-push-in-Some}

pub loop-place-preserved : goal.loop-place-preserved
loop-place-preserved g c =
    let inv = c.loop-place.invariant.1 in
    let within : c.loop-place.asked < length c.loop-place.finders.items = omega (arith, inv.counted, inv.stay, c.loop-place-test.true, c.len-place-end.ensures) in (
      search rules,
      elim c.match-branch-2.branch [
        | in-None w ↦ rw (w.finders-is, w.asked-is, w.dropped-is) (IsAsking-stays _ _ _ _ _ _ _ _ _ _ _ inv within c.index_mut.ensures.value c.in_ok-ask.ensures.rose (rw w.in-None.is at c.in_ok-ask.ensures.spent))
        | in-Some+in_ok-push-in-Some w ↦ rw w.asked-is (IsAsking-drops _ _ _ _ _ _ _ _ _ _ _ c.ask.new.finder w.in-Some.proposal inv within
            (IsWrongProposal-wider _ _ _ _ c.loop-place.invariant.0.no_larger (rw w.in-Some.is at c.in_ok-ask.ensures.wrong))
            (ap (λ v. v.items) w.finders-is ∙ w.remove-wrong.ensures.items) (ap (λ v. v.items) w.dropped-is ∙ w.in_ok-push-in-Some.ensures.items))
      ],
      search rules,
    )

pub returns-clause-asked : goal.returns-clause-asked
returns-clause-asked g c =
    let inv = c.loop-place.invariant.1 in
    IsAsking-ends _ _ _ _ _ _ _ _ _ inv (omega (arith, c.loop-place-test.false, c.len-place-end.ensures)) (omega (arith, inv.counted, inv.stay))
