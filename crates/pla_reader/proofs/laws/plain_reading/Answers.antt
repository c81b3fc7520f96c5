use Rattle.pla_reader.proofs.PlainReadingLaws.{Reads-plain}
use Rattle.pla_reader.proofs.laws.plain_reading.Goals as goal

pub returns : goal.returns
returns c = Reads-plain
