use Rattle.pla_reader.specs.State.{state_of}
use Rattle.pla_reader.proofs.StateLaws.{Takes-inputs}
use Rattle.pla_reader.proofs.given.Given.take_inputs.Goals as goal

pub returns-in-Ok : goal.returns-in-Ok
returns-in-Ok c = Takes-inputs (state_of c.args.self.now) c.args.number c.in-Ok.inputs c.requires c.in-Ok.ensures.0 c.in-Ok.ensures.1.0 c.in-Ok.ensures.1.1 c.in-Ok.ensures.1.2
