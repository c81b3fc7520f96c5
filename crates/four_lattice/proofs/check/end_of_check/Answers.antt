use Rattle.std.proofs.Common.{rules, refl, inl, inr, arith}
use Rattle.four_lattice.specs.Judge.{Refuted, LinesStop, IsLratRefused}
use Rattle.four_lattice.specs.declared.ending.Refusal.TheVariants.{Side}
use Rattle.four_lattice.proofs.CommandLaws.{lines_level}
use Rattle.four_lattice.proofs.FinishLaws.{side_stops, test_stops, quiet_done, quiet_fault, spent_both}
use Rattle.four_lattice.proofs.check.end_of_check.Goals as goal

pub returns-in-Err-refute_side-clause-finishes : goal.returns-in-Err-refute_side-clause-finishes
returns-in-Err-refute_side-clause-finishes g c = λ journal. elim c.in-Err-refute_side.ensures.ends [
  | inl h ↦
      side_stops _ _ _ _ (refl, refl) (record { pla = c.in-Ok.ensures.later; side = c.in-Err-refute_side.ensures.later; out = omega arith; journal = omega arith }) IsLratRefused refl c.in-Ok.ensures.spent c.in-Ok.ensures.taken
      (λ r told. inr (c.in-Ok.formula, c.in-Ok.ensures.reads, inl (Side r, (r, told, refl), refl))) c.in-Err-refute_side.ending h
  | inr h ↦
      test_stops _ _ _ _ (refl, refl) (record { pla = c.in-Ok.ensures.later; side = c.in-Err-refute_side.ensures.later; out = omega arith; journal = omega arith }) (LinesStop c.in-Ok.formula h.lines h.last)
      (spent_both c.in-Ok.ensures.spent h.spent) c.in-Ok.ensures.taken h.taken (lines_level c.in-Ok.formula h.lines h.last)
      (λ r k. inr (c.in-Ok.formula, c.in-Ok.ensures.reads, inr (h.lines, h.reads, inl (r, (h.last, h.last_is, k), refl)))) c.in-Err-refute_side.ending h.stops
]

pub returns-in-Err-refute_side-clause-side_last : goal.returns-in-Err-refute_side-clause-side_last
returns-in-Err-refute_side-clause-side_last g c = inr (c.in-Ok.formula, c.in-Ok.ensures.reads)

pub returns-in-Ok-write_all-clause-finishes : goal.returns-in-Ok-write_all-clause-finishes
returns-in-Ok-write_all-clause-finishes g c =
    let said = c.in-Ok-refute_side.ensures.refuted in
    λ journal. quiet_done _ _ _ _ _ _ journal Refuted _ (inr (c.in-Ok.formula, c.in-Ok.ensures.reads, inr (said.lines, said.reads, inr (said.refutes, refl))))
    (spent_both c.in-Ok.ensures.spent c.in-Ok-refute_side.ensures.spent) (record { pla = c.in-Ok.ensures.later; side = c.in-Ok-refute_side.ensures.later; out = c.in-Ok-write_all.ensures.cause.later; journal = omega arith }) (λ w s. s) c.in-Ok-write_all.ensures.ok

pub returns-in-Ok-write_all-clause-side_last : goal.returns-in-Ok-write_all-clause-side_last
returns-in-Ok-write_all-clause-side_last g c = inr (c.in-Ok.formula, c.in-Ok.ensures.reads)

pub returns-in-Ok-write_all-clause-out_last : goal.returns-in-Ok-write_all-clause-out_last
returns-in-Ok-write_all-clause-out_last g c =
    let said = c.in-Ok-refute_side.ensures.refuted in
    inr (Refuted, inr (c.in-Ok.formula, c.in-Ok.ensures.reads, inr (said.lines, said.reads, inr (said.refutes, refl))))

pub returns-in-Err-write_all-clause-finishes : goal.returns-in-Err-write_all-clause-finishes
returns-in-Err-write_all-clause-finishes g c =
    let said = c.in-Ok-refute_side.ensures.refuted in
    λ journal. quiet_fault _ _ _ _ _ _ journal Refuted _ (inr (c.in-Ok.formula, c.in-Ok.ensures.reads, inr (said.lines, said.reads, inr (said.refutes, refl))))
    (spent_both c.in-Ok.ensures.spent c.in-Ok-refute_side.ensures.spent) (record { pla = c.in-Ok.ensures.later; side = c.in-Ok-refute_side.ensures.later; out = c.in-Err-write_all.ensures.cause.later; journal = omega arith }) (λ front s. s) (search rules)
    c.in-Err-write_all.ensures.front

pub returns-in-Err-write_all-clause-side_last : goal.returns-in-Err-write_all-clause-side_last
returns-in-Err-write_all-clause-side_last g c = inr (c.in-Ok.formula, c.in-Ok.ensures.reads)

pub returns-in-Err-write_all-clause-out_last : goal.returns-in-Err-write_all-clause-out_last
returns-in-Err-write_all-clause-out_last g c =
    let said = c.in-Ok-refute_side.ensures.refuted in
    inr (Refuted, inr (c.in-Ok.formula, c.in-Ok.ensures.reads, inr (said.lines, said.reads, inr (said.refutes, refl))))
