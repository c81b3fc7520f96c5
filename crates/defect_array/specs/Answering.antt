-- For the crate's own proofs: what a question's outcome is answered with.
use Rattle.std.specs.Prelude.{ℕ, List, [], ◌∷◌}
use Rattle.lattice_grid.specs.Defects.{Defects}
use Rattle.report_text.specs.declared.answer.Answer.{Answer}
use Rattle.report_text.specs.declared.answer.Answer.TheVariants.{Mapped, NoneMapped, MapUndecided}
use Rattle.report_text.specs.declared.answer.Proof.{Proof}
use Rattle.lattice_question.specs.declared.question.Outcome.{Outcome}
use Rattle.lattice_question.specs.declared.question.Outcome.TheVariants as outcome

-- the answer for an array whose question came to this, and its proofs
abbrev pub answer_for : Outcome → Defects → ℕ → Answer
answer_for (outcome.Refuted steps) a budget = NoneMapped a
answer_for (outcome.Satisfied g) a budget = Mapped g a
answer_for outcome.Spent a budget = MapUndecided a budget

abbrev pub proofs_for : Outcome → Defects → List Proof
proofs_for (outcome.Refuted steps) a = record { shape = a.size; steps = steps } ∷ []
proofs_for (outcome.Satisfied g) a = []
proofs_for outcome.Spent a = []
