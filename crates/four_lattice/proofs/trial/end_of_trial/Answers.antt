use Rattle.std.proofs.Common.{refl, inl, inr, arith}
use Rattle.pla_reader.specs.Parts.{parts_of}
use Rattle.four_lattice.specs.Judge.{Tried}
use Rattle.four_lattice.specs.Minima.{is_open}
use Rattle.four_lattice.specs.Trial.{AreTried, BeginTried}
use Rattle.four_lattice.proofs.FinishLaws.{wants_memory, LosesUpTo-none}
use Rattle.four_lattice.proofs.SynthFinish.{answers_done, answers_stopped}
use Rattle.four_lattice.proofs.trial.end_of_trial.Goals as goal

pub returns-in-Err-clause-finishes : goal.returns-in-Err-clause-finishes
returns-in-Err-clause-finishes g c pla side =
    wants_memory _ _ _ _ (refl, refl) (record { pla = omega arith; side = omega arith; out = omega arith; journal = omega arith }) (LosesUpTo-none _ _) (LosesUpTo-none _ _)

pub returns-in-Ok-write_tried-clause-finishes : goal.returns-in-Ok-write_tried-clause-finishes
returns-in-Ok-write_tried-clause-finishes g c pla side =
    rw c.ending.ensures (answers_done _ _ _ _ _ _ _ (λ t o j. AreTried c.args.number c.args.conflicts (parts_of c.in-Ok.pla) o j (is_open t)) (BeginTried c.args.number c.args.conflicts (parts_of c.in-Ok.pla))
    (Tried c.args.number c.args.conflicts (parts_of c.in-Ok.pla)) (parts_of c.in-Ok.pla, c.in-Ok.ensures.reads, refl) (λ t o j h. h) (λ o j h. h) refl
    ((λ e. absurd cc), (λ e. absurd cc)) (omega arith) (omega arith) c.in-Ok-write_tried.tally c.in-Ok-write_tried.ensures.wrote)

pub returns-in-Ok-write_tried-clause-out_last : goal.returns-in-Ok-write_tried-clause-out_last
returns-in-Ok-write_tried-clause-out_last g c = inr (Tried c.args.number c.args.conflicts (parts_of c.in-Ok.pla), (parts_of c.in-Ok.pla, c.in-Ok.ensures.reads, refl))

pub returns-in-Ok-write_tried-clause-journal_last : goal.returns-in-Ok-write_tried-clause-journal_last
returns-in-Ok-write_tried-clause-journal_last g c = inr (Tried c.args.number c.args.conflicts (parts_of c.in-Ok.pla), (parts_of c.in-Ok.pla, c.in-Ok.ensures.reads, refl))

pub returns-in-Ok-write_tried-clause-used : goal.returns-in-Ok-write_tried-clause-used
returns-in-Ok-write_tried-clause-used g c done = record {
  rails = 1048575;
  output = _;
  parts = parts_of c.in-Ok.pla;
  accepted = inr (c.args.number, c.args.conflicts, (parts_of c.in-Ok.pla, c.in-Ok.ensures.reads, refl), refl, refl);
  asked = c.in-Ok-write_tried.ensures.used;
}

pub returns-clause-finishes : goal.returns-clause-finishes
returns-clause-finishes g c pla side =
    rw c.ending-in-Err-write_tried.ensures (answers_stopped _ _ _ _ _ _ _ (λ t o j. AreTried c.args.number c.args.conflicts (parts_of c.in-Ok.pla) o j (is_open t)) (BeginTried c.args.number c.args.conflicts (parts_of c.in-Ok.pla))
    (Tried c.args.number c.args.conflicts (parts_of c.in-Ok.pla)) (parts_of c.in-Ok.pla, c.in-Ok.ensures.reads, refl) (λ t o j h. h) (λ o j h. h) refl
    ((λ e. absurd cc), (λ e. absurd cc)) (omega arith) (omega arith) (LosesUpTo-none _ _) (LosesUpTo-none _ _) c.in-Err-write_tried.field-0.fault c.in-Err-write_tried.ensures.stopped)

pub returns-clause-out_last : goal.returns-clause-out_last
returns-clause-out_last g c = inr (Tried c.args.number c.args.conflicts (parts_of c.in-Ok.pla), (parts_of c.in-Ok.pla, c.in-Ok.ensures.reads, refl))

pub returns-clause-journal_last : goal.returns-clause-journal_last
returns-clause-journal_last g c = inr (Tried c.args.number c.args.conflicts (parts_of c.in-Ok.pla), (parts_of c.in-Ok.pla, c.in-Ok.ensures.reads, refl))
