use Rattle.std.proofs.Common.{rules, refl, inl, inr, arith}
use Rattle.pla_reader.specs.Parts.{parts_of}
use Rattle.four_lattice.specs.Judge.{Lattices}
use Rattle.four_lattice.specs.declared.ending.InputRefusal.TheVariants.{NoSuchOutput}
use Rattle.four_lattice.specs.declared.ending.Refusal.TheVariants.{Input}
use Rattle.four_lattice.specs.Lattices.{IsThere}
use Rattle.four_lattice.proofs.FinishLaws.{refused_output, quiet_done, work_stops, spent_alone, LosesUpTo-none}
use Rattle.four_lattice.proofs.PrintedLaws.{printed}
use Rattle.four_lattice.proofs.lattices.end_of_lattices.Goals as goal

pub returns-then-not-has_output-clause-finishes : goal.returns-then-not-has_output-clause-finishes
returns-then-not-has_output-clause-finishes g c =
    let gone : IsThere c.args.output c.in-Ok.text.outputs → ⊥ = search rules in
    λ journal. refused_output _ _ _ _ (refl, refl) (record { pla = c.in-Ok.ensures.later; side = omega arith; out = omega arith; journal = omega arith }) NoSuchOutput c.in-Ok.ensures.spent
    (inr (parts_of c.in-Ok.text, c.in-Ok.ensures.reads, inl (Input NoSuchOutput, (gone, refl), refl)))

pub returns-in-Ok-write_lattices-clause-finishes : goal.returns-in-Ok-write_lattices-clause-finishes
returns-in-Ok-write_lattices-clause-finishes g c =
    let there : IsThere c.args.output c.in-Ok.text.outputs = search rules in
    let right = printed c.args.how c.args.output (parts_of c.in-Ok.text) c.in-Ok.ensures.whole in
    λ journal. quiet_done _ _ _ _ _ _ journal (Lattices c.args.how c.args.output (parts_of c.in-Ok.text)) _ (inr (parts_of c.in-Ok.text, c.in-Ok.ensures.reads, inr (there, refl)))
    (spent_alone c.in-Ok.ensures.spent) (record { pla = c.in-Ok.ensures.later; side = omega arith; out = c.in-Ok-write_lattices.ensures.later; journal = omega arith }) (λ w s. (s, right)) c.in-Ok-write_lattices.ensures.ok

pub returns-in-Ok-write_lattices-clause-out_last : goal.returns-in-Ok-write_lattices-clause-out_last
returns-in-Ok-write_lattices-clause-out_last g c =
    let there : IsThere c.args.output c.in-Ok.text.outputs = search rules in
    inr (Lattices c.args.how c.args.output (parts_of c.in-Ok.text), inr (parts_of c.in-Ok.text, c.in-Ok.ensures.reads, inr (there, refl)))

pub returns-clause-finishes : goal.returns-clause-finishes
returns-clause-finishes g c =
    let there : IsThere c.args.output c.in-Ok.text.outputs = search rules in
    let right = printed c.args.how c.args.output (parts_of c.in-Ok.text) c.in-Ok.ensures.whole in
    λ journal. rw c.ending.ensures (work_stops _ _ _ _ _ _ journal (Lattices c.args.how c.args.output (parts_of c.in-Ok.text)) _ (inr (parts_of c.in-Ok.text, c.in-Ok.ensures.reads, inr (there, refl)))
    (spent_alone c.in-Ok.ensures.spent) (record { pla = c.in-Ok.ensures.later; side = omega arith; out = c.write_lattices.ensures.later; journal = omega arith }) (λ front s. (s, right)) c.in-Ok.ensures.taken (LosesUpTo-none _ _)
    c.write_lattices.ensures.front c.in-Err-write_lattices.fault c.in-Err-write_lattices.ensures.cause)

pub returns-clause-out_last : goal.returns-clause-out_last
returns-clause-out_last g c =
    let there : IsThere c.args.output c.in-Ok.text.outputs = search rules in
    inr (Lattices c.args.how c.args.output (parts_of c.in-Ok.text), inr (parts_of c.in-Ok.text, c.in-Ok.ensures.reads, inr (there, refl)))
