use Rattle.pla_reader.specs.State.{state_of}
use Rattle.pla_reader.proofs.StateLaws.{Takes-outputs}
use Rattle.pla_reader.proofs.given.Given.take_outputs.Goals as goal

pub returns-in-Ok-empty_sets : goal.returns-in-Ok-empty_sets
returns-in-Ok-empty_sets c =
    Takes-outputs (state_of c.args.self.now) c.args.number c.in-Ok.outputs c.in-Ok-empty_sets.sets.items c.requires c.in-Ok.ensures.0 c.in-Ok.ensures.1.0 c.in-Ok.ensures.1.1 c.in-Ok.ensures.1.2 c.in-Ok-empty_sets.ensures.many c.in-Ok-empty_sets.ensures.empty
