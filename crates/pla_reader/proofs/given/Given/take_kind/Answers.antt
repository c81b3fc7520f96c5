use Rattle.pla_reader.specs.State.{state_of}
use Rattle.pla_reader.proofs.StateLaws.{Takes-kind}
use Rattle.pla_reader.proofs.given.Given.take_kind.Goals as goal

pub returns-in-Ok : goal.returns-in-Ok
returns-in-Ok c = Takes-kind (state_of c.args.self.now) c.args.kind c.in-Ok.kind c.requires c.in-Ok.ensures.0 c.in-Ok.ensures.1
