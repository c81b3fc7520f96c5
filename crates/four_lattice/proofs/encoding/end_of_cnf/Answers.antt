use Rattle.std.proofs.Common.{rules, refl, sym, ap, ◌∙◌, length, inl, inr, arith}
use Rattle.std.specs.Prelude.{slice_get}
use Rattle.std.proofs.lemmas.Option.{slice_get_read, slice_get_past}
use Rattle.pla_reader.specs.Parts.{parts_of}
use Rattle.four_lattice.specs.Judge.{Encoding}
use Rattle.four_lattice.specs.declared.ending.InputRefusal.TheVariants.{NoSuchOutput}
use Rattle.four_lattice.specs.declared.ending.Refusal.TheVariants.{Input}
use Rattle.four_lattice.proofs.FinishLaws.{refused_output, quiet_done, work_stops, spent_alone, LosesUpTo-none}
use Rattle.four_lattice.proofs.encoding.end_of_cnf.Goals as goal

pub returns-in_default-clause-finishes : goal.returns-in_default-clause-finishes
returns-in_default-clause-finishes g c =
    let gone = ap (λ l. slice_get l c.args.output) (sym c.deref.ensures.value) ∙ slice_get_past c.deref.result.now c.args.output (search rules) in
    λ journal. refused_output _ _ _ _ (refl, refl) (record { pla = c.in-Ok.ensures.later; side = omega arith; out = omega arith; journal = omega arith }) NoSuchOutput c.in-Ok.ensures.spent
    (inr (parts_of c.in-Ok.text, c.in-Ok.ensures.reads, inl (Input NoSuchOutput, (gone, refl), refl)))

pub returns-in-Ok-write_encoding-clause-finishes : goal.returns-in-Ok-write_encoding-clause-finishes
returns-in-Ok-write_encoding-clause-finishes g c =
    let there = ap (λ l. slice_get l c.args.output) (sym c.deref.ensures.value)
    ∙ slice_get_read c.deref.result.now (length c.deref.result.now) c.args.output c.in-Some.spec.now refl c.in-Some.ensures.lookup.3.0 c.in-Some.ensures.lookup.1 in
    λ journal. quiet_done _ _ _ _ _ _ journal (Encoding c.args.shape c.in-Some.spec.now) _ (inr (parts_of c.in-Ok.text, c.in-Ok.ensures.reads, inr (c.in-Some.spec.now, there, refl)))
    (spent_alone c.in-Ok.ensures.spent) (record { pla = c.in-Ok.ensures.later; side = omega arith; out = c.in-Ok-write_encoding.ensures.later; journal = omega arith }) (λ w s. s) c.in-Ok-write_encoding.ensures.ok

pub returns-in-Ok-write_encoding-clause-out_last : goal.returns-in-Ok-write_encoding-clause-out_last
returns-in-Ok-write_encoding-clause-out_last g c =
    let there = ap (λ l. slice_get l c.args.output) (sym c.deref.ensures.value)
    ∙ slice_get_read c.deref.result.now (length c.deref.result.now) c.args.output c.in-Some.spec.now refl c.in-Some.ensures.lookup.3.0 c.in-Some.ensures.lookup.1 in
    inr (Encoding c.args.shape c.in-Some.spec.now, inr (parts_of c.in-Ok.text, c.in-Ok.ensures.reads, inr (c.in-Some.spec.now, there, refl)))

pub returns-clause-finishes : goal.returns-clause-finishes
returns-clause-finishes g c =
    let there = ap (λ l. slice_get l c.args.output) (sym c.deref.ensures.value)
    ∙ slice_get_read c.deref.result.now (length c.deref.result.now) c.args.output c.in-Some.spec.now refl c.in-Some.ensures.lookup.3.0 c.in-Some.ensures.lookup.1 in
    λ journal. rw c.ending.ensures (work_stops _ _ _ _ _ _ journal (Encoding c.args.shape c.in-Some.spec.now) _ (inr (parts_of c.in-Ok.text, c.in-Ok.ensures.reads, inr (c.in-Some.spec.now, there, refl)))
    (spent_alone c.in-Ok.ensures.spent) (record { pla = c.in-Ok.ensures.later; side = omega arith; out = c.write_encoding.ensures.later; journal = omega arith }) (λ front s. s) c.in-Ok.ensures.taken (LosesUpTo-none _ _)
    c.write_encoding.ensures.front c.in-Err-write_encoding.fault c.in-Err-write_encoding.ensures.cause)

pub returns-clause-out_last : goal.returns-clause-out_last
returns-clause-out_last g c =
    let there = ap (λ l. slice_get l c.args.output) (sym c.deref.ensures.value)
    ∙ slice_get_read c.deref.result.now (length c.deref.result.now) c.args.output c.in-Some.spec.now refl c.in-Some.ensures.lookup.3.0 c.in-Some.ensures.lookup.1 in
    inr (Encoding c.args.shape c.in-Some.spec.now, inr (parts_of c.in-Ok.text, c.in-Ok.ensures.reads, inr (c.in-Some.spec.now, there, refl)))
