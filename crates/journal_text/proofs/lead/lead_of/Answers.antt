use Rattle.report_text.specs.Pieces.{words_left}
use Rattle.journal_text.proofs.WordsLaws.{first_is}
use Rattle.journal_text.proofs.lead.lead_of.Goals as goal

pub returns : goal.returns
returns c = rw (first_is c.args.line.now c.word_at.result.0.now (words_left c.word_at.result.1) c.word_at.ensures) c.lead_word.ensures
