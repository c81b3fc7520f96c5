use Rattle.std.proofs.Common.{◌∙◌, ap, sym, take, ◌∷◌}
use Rattle.wire_io.specs.Laws.{slice_to_end}
use Rattle.clause_core.specs.Text.{words_of, is_blank}
use Rattle.clause_core.proofs.TextLaws.{words-cut, front_some}
use Rattle.clause_core.proofs.text.cut_word.Goals as goal

pub returns-clause-words : goal.returns-clause-words
returns-clause-words c =
    words-cut c.args.text.now c.word_len-end.result c.word_len-end.ensures (front_some is_blank c.args.text.now c.word_len-end.result c.word_len-end.ensures c.requires.some c.requires.begins)
    ∙ ap (λ r. take c.word_len-end.result c.args.text.now ∷ words_of r) (sym (slice_to_end c.args.text.now c.word_len-end.result))
