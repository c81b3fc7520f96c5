use Rattle.std.proofs.Common.{◌∙◌, ap, sym, Some, get_or, pos, w32, rules}
use Rattle.std.proofs.lemmas.Int.{to_z-of_z}
use mir.Val.{SFits}
use Rattle.lrat_replay.proofs.DeletionLaws.{stands-more, stands-refused}
use Rattle.lrat_replay.proofs.store.Store.delete.Goals as goal

pub returns-in-Err-clause-refused : goal.returns-in-Err-clause-refused
returns-in-Err-clause-refused c =
    let fits : SFits w32 (get_or c.args.ids.now c.loop-done.done (pos 0)) = search rules in
    stands-refused c.args.self.now c.args.ids.now c.loop-done.done c.loop-done.self c.loop-done.invariant _ c.loop-done-test.true (to_z-of_z w32 (get_or c.args.ids.now c.loop-done.done (pos 0)) fits)
    c.in-Err.ensures.refused ∙ ap Some (sym c.in-Err.ensures.fault)

pub loop-done-preserved : goal.loop-done-preserved
loop-done-preserved c =
    let fits : SFits w32 (get_or c.args.ids.now c.loop-done.done (pos 0)) = search rules in
    stands-more c.args.self.now c.args.ids.now c.loop-done.done c.loop-done.self c.loop-done.invariant _ _ c.loop-done-test.true (to_z-of_z w32 (get_or c.args.ids.now c.loop-done.done (pos 0)) fits)
    c.in_default.ensures.accepted c.in_default.ensures.after
