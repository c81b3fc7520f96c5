use Rattle.std.proofs.Common.{length, drop, ◌-◌, inr, inl, Err, subst, ap}
use Rattle.std.proofs.lemmas.List.{take_rest}
use Rattle.report_text.specs.Expected.{Stops, block_expected, refusal_of}
use Rattle.report_text.specs.Report.{parts_of_block}
use Rattle.report_text.proofs.AnswerLaws.{one_block, block_apart, fault_of, only_fault, only_block}
use Rattle.report_text.proofs.BlockLaws.{block_place}
use Rattle.report_text.proofs.block.read_block.Goals as goal

pub returns-in-Ok-clause-found : goal.returns-in-Ok-clause-found
returns-in-Ok-clause-found c = block_place c.args.version c.args.bytes.now c.in-Ok.rest.now c.args.at (parts_of_block c.in-Ok.block) c.in-Ok.ensures

pub returns-in-Ok-clause-only_block : goal.returns-in-Ok-clause-only_block
returns-in-Ok-clause-only_block c = λ block rest h.
    inr (one_block c.args.version (drop c.args.at c.args.bytes.now) (parts_of_block c.in-Ok.block) block (drop (length c.args.bytes.now - length c.in-Ok.rest.now) c.args.bytes.now) rest
    (block_place c.args.version c.args.bytes.now c.in-Ok.rest.now c.args.at (parts_of_block c.in-Ok.block) c.in-Ok.ensures) h)

pub returns-in-Ok-clause-only_fault : goal.returns-in-Ok-clause-only_fault
returns-in-Ok-clause-only_fault c = λ fault h.
    absurd (block_apart c.args.version (drop c.args.at c.args.bytes.now) c.args.line (parts_of_block c.in-Ok.block) (drop (length c.args.bytes.now - length c.in-Ok.rest.now) c.args.bytes.now) fault
    (block_place c.args.version c.args.bytes.now c.in-Ok.rest.now c.args.at (parts_of_block c.in-Ok.block) c.in-Ok.ensures) h)

pub returns-in-Err-clause-fault : goal.returns-in-Err-clause-fault
returns-in-Err-clause-fault c = λ other.
    fault_of c.args.version (drop c.args.at c.args.bytes.now) c.args.line c.in-Err.fault other (subst (λ w. Stops (block_expected c.args.version) w c.args.line (refusal_of c.in-Err.fault)) (take_rest c.args.bytes.now c.args.at) c.in-Err.ensures)

pub returns-in-Err-clause-only_block : goal.returns-in-Err-clause-only_block
returns-in-Err-clause-only_block c = λ block rest h.
    elim (only_block c.args.version (drop c.args.at c.args.bytes.now) c.args.line c.in-Err.fault block rest (subst (λ w. Stops (block_expected c.args.version) w c.args.line (refusal_of c.in-Err.fault)) (take_rest c.args.bytes.now c.args.at) c.in-Err.ensures) h) [
      | inl memory ↦ inl (ap Err memory)
      | inr none ↦ absurd none
    ]

pub returns-in-Err-clause-only_fault : goal.returns-in-Err-clause-only_fault
returns-in-Err-clause-only_fault c = λ fault h.
    elim (only_fault c.args.version (drop c.args.at c.args.bytes.now) c.args.line c.in-Err.fault fault (subst (λ w. Stops (block_expected c.args.version) w c.args.line (refusal_of c.in-Err.fault)) (take_rest c.args.bytes.now c.args.at) c.in-Err.ensures) h) [
      | inl memory ↦ inl (ap Err memory)
      | inr same ↦ inr (ap Err same)
    ]
