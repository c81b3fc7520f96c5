use Rattle.std.proofs.Common.{drop}
use Rattle.report_text.specs.Writing.{behind_blanks}
use Rattle.report_text.proofs.PutLaws.{IsPut}
use Rattle.report_text.proofs.write.put_words.Given as goal

abbrev pub invariant-loop-word : goal.invariant-loop-word
invariant-loop-word g l =
    IsPut (g.K.Sink.got l.initial.sink) (g.K.Sink.got l.sink) l.initial.buffer l.buffer (g.K.Sink.faults l.initial.sink) (g.K.Sink.faults l.sink) (behind_blanks g.T.Spelled.text (drop l.word-index l.words)) (behind_blanks g.T.Spelled.text l.words)
