use Rattle.std.proofs.Common.{sym}
use Rattle.four_lattice.proofs.WordsLaws.{small-parsed, small-unparsed}
use Rattle.four_lattice.proofs.words.small_number.Goals as goal

pub returns-in-Ok : goal.returns-in-Ok
returns-in-Ok c = small-parsed c.args.word.now c.parse.result c.in-Ok.number c.in-Ok.is (sym c.if-not-is_number_word.ensures) c.parse.ensures.value.0

pub returns-in-Err : goal.returns-in-Err
returns-in-Err c = small-unparsed c.args.word.now c.parse.result c.in-Err.field-0 c.in-Err.is (sym c.if-not-is_number_word.ensures) c.parse.ensures.value.0
