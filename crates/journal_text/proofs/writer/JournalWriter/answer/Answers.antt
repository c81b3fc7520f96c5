use Rattle.std.proofs.Common.{◌≡◌, false, ap, ◌∙◌}
use Rattle.report_text.specs.Report.{parts_of_block}
use Rattle.journal_text.proofs.SectionLaws.{answered}
use Rattle.journal_text.proofs.writer.JournalWriter.answer.Goals as goal

pub invariant_of-self-in_default : goal.invariant_of-self-in_default
invariant_of-self-in_default g c =
    let whole : c.self.inside.failed ≡ false = ap (λ w. w.failed) c.self.view_is ∙ c.requires.whole in
    answered (g.K.Sink.got c.self.inside.sink) (g.K.Sink.got c.write_block.new.sink) c.self.inside.steps c.self.inside.failed (parts_of_block c.args.block.now) whole c.requires.block c.requires.form c.self.invariant c.in_default.ensures.ok
