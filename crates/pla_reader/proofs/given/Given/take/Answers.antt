use Rattle.std.proofs.Common.{◌≡◌, ◌++◌, ◌∷◌, [], sym, subst, refl, None}
use Rattle.pla_reader.specs.Says.Said.{Silent}
use Rattle.pla_reader.specs.Faults.{fault_after}
use Rattle.pla_reader.specs.Views.{said_of}
use Rattle.pla_reader.specs.State.{state_of, Keeps}
use Rattle.pla_reader.proofs.StateLaws.{Keeps-nothing}
use Rattle.pla_reader.proofs.given.Given.take.Goals as goal

pub returns-in-Silent : goal.returns-in-Silent
returns-in-Silent c = (
  c.requires.state,
  λ before k. subst (λ v. (fault_after before (said_of v) ≡ None) × Keeps (before ++ said_of v ∷ []) (state_of c.args.self.now)) (sym c.in-Silent.is)
      (refl, Keeps-nothing before (state_of c.args.self.now) Silent k refl refl refl refl refl refl),
)
