use Rattle.std.proofs.Common.{sym}
use Rattle.report_text.specs.declared.answer.Version.TheVariants.{Two}
use Rattle.journal_text.specs.Text.{head_text}
use Rattle.journal_text.proofs.TextLaws.{front-none}
use Rattle.journal_text.proofs.SectionLaws.{begun}
use Rattle.journal_text.proofs.writer.JournalWriter.begin.Goals as goal

pub invariant_of-result : goal.invariant_of-result
invariant_of-result g c =
    begun (g.K.Sink.got c.args.sink) (g.K.Sink.got c.write_head.new.sink) c.args.rails (head_text Two c.args.rails) c.write_head.ensures.rails (sym (front-none Two c.args.rails)) c.requires.empty c.in_default.ensures.ok
