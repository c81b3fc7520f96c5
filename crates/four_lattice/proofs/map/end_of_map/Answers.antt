use Rattle.std.proofs.Common.{rules, refl, inl, inr, arith, Some}
use Rattle.std.specs.Prelude.{drop}
use Rattle.defect_array.specs.Reading.{Reads as ReadsArray, Refused as IsNoArray}
use Rattle.pla_reader.specs.Parts.{parts_of}
use Rattle.four_lattice.specs.Judge.{Placed, as_array}
use Rattle.four_lattice.specs.Lattices.{IsThere}
use Rattle.four_lattice.specs.Minima.{asked_on, AreTallied}
use Rattle.four_lattice.specs.Synth.{OnArray, BeginAnswers}
use Rattle.four_lattice.specs.declared.ending.InputRefusal.TheVariants.{NoSuchOutput}
use Rattle.four_lattice.specs.declared.ending.Refusal.TheVariants.{Input}
use Rattle.four_lattice.proofs.FinishLaws.{refused_output, spent_alone, LosesUpTo-none}
use Rattle.four_lattice.proofs.MapFinish.{where_read, array_stops}
use Rattle.four_lattice.proofs.SynthFinish.{answers_done, answers_stopped}
use Rattle.four_lattice.proofs.map.end_of_map.Goals as goal

pub returns-then-not-has_output-clause-finishes : goal.returns-then-not-has_output-clause-finishes
returns-then-not-has_output-clause-finishes g c =
    let gone : IsThere (Some c.args.output) c.in-Ok.text.pla.outputs → ⊥ = search rules in
    refused_output _ _ _ _ (refl, refl) (record { pla = c.in-Ok.ensures.later; side = omega arith; out = omega arith; journal = omega arith }) NoSuchOutput c.in-Ok.ensures.spent
    (inr (parts_of c.in-Ok.text.pla, c.in-Ok.ensures.reads, inl (Input NoSuchOutput, (gone, refl), refl)))

pub returns-in-Err-input_array-clause-finishes : goal.returns-in-Err-input_array-clause-finishes
returns-in-Err-input_array-clause-finishes g c =
    let there : IsThere (Some c.args.output) c.in-Ok.text.pla.outputs = search rules in
    array_stops _ _ _ _ (drop c.in-Ok.text.pla.rest c.in-Ok.text.bytes.items) (refl, refl) (record { pla = c.in-Ok.ensures.later; side = omega arith; out = omega arith; journal = omega arith }) c.in-Ok.ensures.spent c.in-Ok.ensures.taken
    (LosesUpTo-none _ _)
    (λ r no. inr (
      parts_of c.in-Ok.text.pla,
      c.in-Ok.ensures.reads,
      inr (there, inl (as_array r, (r, where_read _ c.in-Ok.text.bytes.items (λ b. IsNoArray (drop c.in-Ok.text.pla.rest b) r) c.in-Ok.ensures.told no, refl), refl)),
    )) c.in-Err-input_array.ending c.in-Err-input_array.ensures.ends

pub returns-in-Ok-write_placed-clause-finishes : goal.returns-in-Ok-write_placed-clause-finishes
returns-in-Ok-write_placed-clause-finishes g c =
    let there : IsThere (Some c.args.output) c.in-Ok.text.pla.outputs = search rules in
    let read = where_read _ c.in-Ok.text.bytes.items (λ b. ReadsArray (drop c.in-Ok.text.pla.rest b) c.in-Ok-input_array.array) c.in-Ok.ensures.told c.in-Ok-input_array.ensures.reads in
    rw c.ending.ensures (answers_done _ _ _ _ _ _ _ (AreTallied (asked_on c.in-Ok-input_array.array c.args.conflicts (parts_of c.in-Ok.text.pla)) (Some c.args.output))
    (BeginAnswers (OnArray c.in-Ok-input_array.array) 1048575 c.args.conflicts (Some c.args.output) (parts_of c.in-Ok.text.pla))
    (Placed c.args.conflicts c.args.output c.in-Ok-input_array.array (parts_of c.in-Ok.text.pla)) (inr (parts_of c.in-Ok.text.pla, c.in-Ok.ensures.reads, inr (there, inr (c.in-Ok-input_array.array, read, refl)))) (λ t o j h. h.answers) (λ o j h. h) refl
    (spent_alone c.in-Ok.ensures.spent) c.in-Ok.ensures.later (omega arith) c.in-Ok-write_placed.tally c.in-Ok-write_placed.ensures.wrote)

pub returns-in-Ok-write_placed-clause-out_last : goal.returns-in-Ok-write_placed-clause-out_last
returns-in-Ok-write_placed-clause-out_last g c =
    let there : IsThere (Some c.args.output) c.in-Ok.text.pla.outputs = search rules in
    let read = where_read _ c.in-Ok.text.bytes.items (λ b. ReadsArray (drop c.in-Ok.text.pla.rest b) c.in-Ok-input_array.array) c.in-Ok.ensures.told c.in-Ok-input_array.ensures.reads in
    inr (Placed c.args.conflicts c.args.output c.in-Ok-input_array.array (parts_of c.in-Ok.text.pla), inr (parts_of c.in-Ok.text.pla, c.in-Ok.ensures.reads, inr (there, inr (c.in-Ok-input_array.array, read, refl))))

pub returns-in-Ok-write_placed-clause-journal_last : goal.returns-in-Ok-write_placed-clause-journal_last
returns-in-Ok-write_placed-clause-journal_last g c =
    let there : IsThere (Some c.args.output) c.in-Ok.text.pla.outputs = search rules in
    let read = where_read _ c.in-Ok.text.bytes.items (λ b. ReadsArray (drop c.in-Ok.text.pla.rest b) c.in-Ok-input_array.array) c.in-Ok.ensures.told c.in-Ok-input_array.ensures.reads in
    inr (Placed c.args.conflicts c.args.output c.in-Ok-input_array.array (parts_of c.in-Ok.text.pla), inr (parts_of c.in-Ok.text.pla, c.in-Ok.ensures.reads, inr (there, inr (c.in-Ok-input_array.array, read, refl))))

pub returns-clause-finishes : goal.returns-clause-finishes
returns-clause-finishes g c =
    let there : IsThere (Some c.args.output) c.in-Ok.text.pla.outputs = search rules in
    let read = where_read _ c.in-Ok.text.bytes.items (λ b. ReadsArray (drop c.in-Ok.text.pla.rest b) c.in-Ok-input_array.array) c.in-Ok.ensures.told c.in-Ok-input_array.ensures.reads in
    rw c.ending-in-Err-write_placed.ensures (answers_stopped _ _ _ _ _ _ _ (AreTallied (asked_on c.in-Ok-input_array.array c.args.conflicts (parts_of c.in-Ok.text.pla)) (Some c.args.output))
    (BeginAnswers (OnArray c.in-Ok-input_array.array) 1048575 c.args.conflicts (Some c.args.output) (parts_of c.in-Ok.text.pla))
    (Placed c.args.conflicts c.args.output c.in-Ok-input_array.array (parts_of c.in-Ok.text.pla)) (inr (parts_of c.in-Ok.text.pla, c.in-Ok.ensures.reads, inr (there, inr (c.in-Ok-input_array.array, read, refl)))) (λ t o j h. h.answers) (λ o j h. h) refl
    (spent_alone c.in-Ok.ensures.spent) c.in-Ok.ensures.later (omega arith) c.in-Ok.ensures.taken (LosesUpTo-none _ _) c.in-Err-write_placed.field-0.fault c.in-Err-write_placed.ensures.stopped)

pub returns-clause-out_last : goal.returns-clause-out_last
returns-clause-out_last g c =
    let there : IsThere (Some c.args.output) c.in-Ok.text.pla.outputs = search rules in
    let read = where_read _ c.in-Ok.text.bytes.items (λ b. ReadsArray (drop c.in-Ok.text.pla.rest b) c.in-Ok-input_array.array) c.in-Ok.ensures.told c.in-Ok-input_array.ensures.reads in
    inr (Placed c.args.conflicts c.args.output c.in-Ok-input_array.array (parts_of c.in-Ok.text.pla), inr (parts_of c.in-Ok.text.pla, c.in-Ok.ensures.reads, inr (there, inr (c.in-Ok-input_array.array, read, refl))))

pub returns-clause-journal_last : goal.returns-clause-journal_last
returns-clause-journal_last g c =
    let there : IsThere (Some c.args.output) c.in-Ok.text.pla.outputs = search rules in
    let read = where_read _ c.in-Ok.text.bytes.items (λ b. ReadsArray (drop c.in-Ok.text.pla.rest b) c.in-Ok-input_array.array) c.in-Ok.ensures.told c.in-Ok-input_array.ensures.reads in
    inr (Placed c.args.conflicts c.args.output c.in-Ok-input_array.array (parts_of c.in-Ok.text.pla), inr (parts_of c.in-Ok.text.pla, c.in-Ok.ensures.reads, inr (there, inr (c.in-Ok-input_array.array, read, refl))))
