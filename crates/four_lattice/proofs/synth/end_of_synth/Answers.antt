use Rattle.std.proofs.Common.{rules, refl, inl, inr, arith}
use Rattle.pla_reader.specs.Parts.{parts_of}
use Rattle.four_lattice.specs.Judge.{Minima}
use Rattle.four_lattice.specs.Lattices.{IsThere}
use Rattle.four_lattice.specs.Minima.{asked, AreTallied}
use Rattle.four_lattice.specs.Synth.{Least, BeginAnswers}
use Rattle.four_lattice.specs.declared.ending.InputRefusal.TheVariants.{NoSuchOutput}
use Rattle.four_lattice.specs.declared.ending.Refusal.TheVariants.{Input}
use Rattle.four_lattice.proofs.FinishLaws.{refused_output, spent_alone, LosesUpTo-none}
use Rattle.four_lattice.proofs.SynthFinish.{answers_done, answers_stopped}
use Rattle.four_lattice.proofs.synth.end_of_synth.Goals as goal

pub returns-then-not-has_output-clause-finishes : goal.returns-then-not-has_output-clause-finishes
returns-then-not-has_output-clause-finishes g c =
    let gone : IsThere c.args.output c.in-Ok.text.outputs → ⊥ = search rules in
    refused_output _ _ _ _ (refl, refl) (record { pla = c.in-Ok.ensures.later; side = omega arith; out = omega arith; journal = omega arith }) NoSuchOutput c.in-Ok.ensures.spent
    (inr (parts_of c.in-Ok.text, c.in-Ok.ensures.reads, inl (Input NoSuchOutput, (gone, refl), refl)))

pub returns-in-Ok-write_minima-clause-finishes : goal.returns-in-Ok-write_minima-clause-finishes
returns-in-Ok-write_minima-clause-finishes g c =
    let there : IsThere c.args.output c.in-Ok.text.outputs = search rules in
    rw c.ending.ensures (answers_done _ _ _ _ _ _ _ (AreTallied (asked c.args.rails c.args.conflicts (parts_of c.in-Ok.text)) c.args.output) (BeginAnswers Least c.args.rails c.args.conflicts c.args.output (parts_of c.in-Ok.text)) (Minima c.args.rails c.args.conflicts c.args.output (parts_of c.in-Ok.text))
    (inr (parts_of c.in-Ok.text, c.in-Ok.ensures.reads, inr (there, refl))) (λ t o j h. h.answers) (λ o j h. h) refl
    (spent_alone c.in-Ok.ensures.spent) c.in-Ok.ensures.later (omega arith) c.in-Ok-write_minima.tally c.in-Ok-write_minima.ensures.wrote)

pub returns-in-Ok-write_minima-clause-out_last : goal.returns-in-Ok-write_minima-clause-out_last
returns-in-Ok-write_minima-clause-out_last g c =
    let there : IsThere c.args.output c.in-Ok.text.outputs = search rules in
    inr (Minima c.args.rails c.args.conflicts c.args.output (parts_of c.in-Ok.text), inr (parts_of c.in-Ok.text, c.in-Ok.ensures.reads, inr (there, refl)))

pub returns-in-Ok-write_minima-clause-journal_last : goal.returns-in-Ok-write_minima-clause-journal_last
returns-in-Ok-write_minima-clause-journal_last g c =
    let there : IsThere c.args.output c.in-Ok.text.outputs = search rules in
    inr (Minima c.args.rails c.args.conflicts c.args.output (parts_of c.in-Ok.text), inr (parts_of c.in-Ok.text, c.in-Ok.ensures.reads, inr (there, refl)))

pub returns-clause-finishes : goal.returns-clause-finishes
returns-clause-finishes g c =
    let there : IsThere c.args.output c.in-Ok.text.outputs = search rules in
    rw c.ending-in-Err-write_minima.ensures (answers_stopped _ _ _ _ _ _ _ (AreTallied (asked c.args.rails c.args.conflicts (parts_of c.in-Ok.text)) c.args.output) (BeginAnswers Least c.args.rails c.args.conflicts c.args.output (parts_of c.in-Ok.text)) (Minima c.args.rails c.args.conflicts c.args.output (parts_of c.in-Ok.text))
    (inr (parts_of c.in-Ok.text, c.in-Ok.ensures.reads, inr (there, refl))) (λ t o j h. h.answers) (λ o j h. h) refl
    (spent_alone c.in-Ok.ensures.spent) c.in-Ok.ensures.later (omega arith) c.in-Ok.ensures.taken (LosesUpTo-none _ _) c.in-Err-write_minima.field-0.fault c.in-Err-write_minima.ensures.stopped)

pub returns-clause-out_last : goal.returns-clause-out_last
returns-clause-out_last g c =
    let there : IsThere c.args.output c.in-Ok.text.outputs = search rules in
    inr (Minima c.args.rails c.args.conflicts c.args.output (parts_of c.in-Ok.text), inr (parts_of c.in-Ok.text, c.in-Ok.ensures.reads, inr (there, refl)))

pub returns-clause-journal_last : goal.returns-clause-journal_last
returns-clause-journal_last g c =
    let there : IsThere c.args.output c.in-Ok.text.outputs = search rules in
    inr (Minima c.args.rails c.args.conflicts c.args.output (parts_of c.in-Ok.text), inr (parts_of c.in-Ok.text, c.in-Ok.ensures.reads, inr (there, refl)))

pub returns-in-Ok-write_minima-clause-used : goal.returns-in-Ok-write_minima-clause-used
returns-in-Ok-write_minima-clause-used g c done =
    let there : IsThere c.args.output c.in-Ok.text.outputs = search rules in
    record {
      rails = c.args.rails;
      output = c.args.output;
      parts = parts_of c.in-Ok.text;
      accepted = inl (c.args.conflicts, inr (parts_of c.in-Ok.text, c.in-Ok.ensures.reads, inr (there, refl)));
      asked = c.in-Ok-write_minima.ensures.used;
    }
