use Rattle.std.proofs.Common.{sym}
use Rattle.std.specs.Str.Parse.{ParsesUnsigned, ExplainsUnsignedError, HasUnsignedDigitsIfOk}
use Rattle.four_lattice.proofs.WordsLaws.{reads-given}
use Rattle.four_lattice.proofs.words.number_found.Goals as goal

pub returns : goal.returns
returns c given shows apart =
    sym (reads-given (λ bs r. ParsesUnsigned 32 10 bs r × ExplainsUnsignedError 10 bs r × HasUnsignedDigitsIfOk bs r) given _ _ _ shows apart (λ text x g. g.0) c.get_one.ensures.none c.get_one.ensures.value)
