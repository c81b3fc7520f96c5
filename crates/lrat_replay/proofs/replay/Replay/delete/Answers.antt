use Rattle.lrat_replay.specs.Marks.{room}
use Rattle.lrat_replay.proofs.ReplayLaws.{replay_after_delete}
use Rattle.lrat_replay.proofs.replay.Replay.delete.Goals as goal

pub invariant_of-self : goal.invariant_of-self
invariant_of-self c =
    replay_after_delete c.self.inside.store (room c.self.inside.marks) c.self.inside.reached c.self.invariant c.delete.result c.args.ids.now c.delete.new.self c.delete.ensures.ok c.delete.ensures.after c.delete.ensures.kept
