use Rattle.std.proofs.Common.{◌++◌, ◌∷◌, [], ◌∙◌, sym, ap}
use Rattle.std.specs.Str.{bytes_eq}
use Rattle.std.proofs.lemmas.Bool.{both_ways}
use Rattle.std.proofs.lemmas.Slice.Eq.{bytes_eq-Decides}
use Rattle.clause_core.specs.Text.{words_of}
use Rattle.lrat_replay.proofs.StepLaws.{kind-line, kind-is_step, other_text, only_step}
use Rattle.lrat_replay.proofs.step_text.read_step.Goals as goal

pub returns-in_default-clause-found : goal.returns-in_default-clause-found
returns-in_default-clause-found c = λ step h. let none = rw c.in_default.is at c.in_ok-step.ensures in none step (kind-line c.args.line.now step h)

pub returns-in_default-clause-only : goal.returns-in_default-clause-only
returns-in_default-clause-only c = λ step h. let none = rw c.in_default.is at c.in_ok-step.ensures in absurd (none step (kind-line c.args.line.now step h))

pub returns-then-eq-clause-found : goal.returns-then-eq-clause-found
returns-then-eq-clause-found c =
    let kind = rw c.in-Some.is at c.in_ok-step.ensures in
    let same = sym c.as_slice.ensures.value ∙ (bytes_eq-Decides c.as_slice.result.now c.args.line.now).0 (sym c.eq.ensures ∙ c.if-eq.true) in
    record { is_step = kind-is_step (words_of c.args.line.now) c.in-Some.step kind; text = sym c.in_ok-text.ensures ∙ ap (λ w. w ++ 10 ∷ []) same }

pub returns-then-eq-clause-only : goal.returns-then-eq-clause-only
returns-then-eq-clause-only c = λ step h. let kind = rw c.in-Some.is at c.in_ok-step.ensures in only_step c.args.line.now c.in-Some.step step kind h

pub returns-else-eq-clause-found : goal.returns-else-eq-clause-found
returns-else-eq-clause-found c = λ step h.
    let kind = rw c.in-Some.is at c.in_ok-step.ensures in
    let same = other_text c.args.line.now c.in_ok-text.text.items c.in-Some.step step kind c.in_ok-text.ensures h in
    both_ways (bytes_eq c.as_slice.result.now c.args.line.now) (sym c.eq.ensures ∙ c.if-eq.false) ((bytes_eq-Decides c.as_slice.result.now c.args.line.now).1 (c.as_slice.ensures.value ∙ same))

pub returns-else-eq-clause-only : goal.returns-else-eq-clause-only
returns-else-eq-clause-only c = λ step h.
    let kind = rw c.in-Some.is at c.in_ok-step.ensures in
    let same = other_text c.args.line.now c.in_ok-text.text.items c.in-Some.step step kind c.in_ok-text.ensures h in
    absurd (both_ways (bytes_eq c.as_slice.result.now c.args.line.now) (sym c.eq.ensures ∙ c.if-eq.false) ((bytes_eq-Decides c.as_slice.result.now c.args.line.now).1 (c.as_slice.ensures.value ∙ same)))
