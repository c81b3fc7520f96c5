use Rattle.std.proofs.Common.{◌↔◌, take}
use Rattle.std.specs.Prelude.{IsTrue}
use Rattle.lrat_replay.specs.Learned.{AreWrittenNew}
use Rattle.audit_core.specs.Replayed.{steps_of}
use Rattle.audit_core.proofs.StepLaws.{ReplaysTo}
use Rattle.audit_core.proofs.section.replay_new_steps.Given as goal

abbrev pub invariant-loop-line : goal.invariant-loop-line
invariant-loop-line l = record {
  replays : ReplaysTo l.fn.replay l.replay l.steps l.line-index;
  fresh : IsTrue l.fresh ↔ AreWrittenNew l.fn.replay (steps_of (take l.line-index l.steps));
}
