use Rattle.lrat_replay.proofs.DeletionLaws.{Stands}
use Rattle.lrat_replay.proofs.store.Store.delete.Given as goal

abbrev pub invariant-loop-done : goal.invariant-loop-done
invariant-loop-done l = Stands l.initial.self l.ids l.done l.self
