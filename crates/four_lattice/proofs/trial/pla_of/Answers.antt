use Rattle.std.proofs.Common.{◌≡◌, ◌∙◌, subst, sym, Ok, Err}
use Rattle.std.specs.Prelude.{Result, MatchResult, IfErr}
use Rattle.pla_reader.specs.Reading.{Reads}
use Rattle.trial_text.specs.Made.{made}
use Rattle.trial_text.specs.Reading.{parts_made}
use Rattle.four_lattice.proofs.trial.pla_of.Goals as goal

refusal-is : {T E : Type 0} (r : Result T E) (P : T → Type 0) (Q : E → Type 0) → MatchResult r P Q → IfErr r Q
refusal-is (Ok t) P Q h = tt
refusal-is (Err e) P Q h = h

pub returns-in-Ok-clause-wanting : goal.returns-in-Ok-clause-wanting
returns-in-Ok-clause-wanting c =
    let same : c.deref.result.now ≡ made c.args.number = c.deref.ensures.value ∙ c.in-Ok.ensures in
    refusal-is c.read_pla.result _ _ (c.read_pla.ensures.only_value (parts_made c.args.number) (subst (λ bytes. Reads bytes (parts_made c.args.number)) (sym same) (c.made_reading.ensures c.args.number)))
