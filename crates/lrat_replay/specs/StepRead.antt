-- What a written step says.
use Rattle.std.specs.Prelude.{◌≡◌, ℕ, ◌≤◌, ◌<◌, List, [], ◌∷◌, ◌++◌, All, nat_abs}
use Rattle.lrat_replay.specs.declared.line.Step.{Step}
use Rattle.lrat_replay.specs.LratText.{step_text}

-- a number from 1 to 2,147,483,647
abbrev pub IsCounted : ℕ → Type 0
IsCounted n = (1 ≤ n) × (n < 2147483648)

-- a step that can be written: its identifier, its variables and its hints, these with a sign or none, are from 1 to 2,147,483,647
pub record IsStep (step : Step) : Type 0 where
  pub id : IsCounted step.id
  pub variables : All (λ l. IsCounted l.var) step.clause
  pub hints : All (λ h. IsCounted (nat_abs h)) step.hints

-- the line, with a line feed behind it, is what is written of the step
pub record IsLineOf (line : List ℕ) (step : Step) : Type 0 where
  pub is_step : IsStep step
  pub text : step_text step.id step.clause step.hints ≡ line ++ 10 ∷ []
