use Rattle.std.proofs.Common.{subst, sym}
use Rattle.pla_reader.specs.Views.{NamesIn}
use Rattle.pla_reader.proofs.WordsLaws.{names_said}
use Rattle.pla_reader.proofs.pla.take_line.Goals as goal

pub take-requires-clause-names : goal.take-requires-clause-names
take-requires-clause-names c = subst NamesIn (sym c.say-saying.ensures) (names_said _)
