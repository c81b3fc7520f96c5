use Rattle.std.proofs.Common.{List}
use Rattle.lrat_replay.specs.Learned.{SpentWritten}
use Rattle.lrat_replay.specs.declared.line.Step.{Step}
use Rattle.journal_text.specs.Kept.{AreOf}
use Rattle.journal_text.specs.Origin.{origin_of}
use Rattle.journal_text.specs.declared.target.Close.TheVariants.{Spent}
use Rattle.journal_text.proofs.SectionLaws.{closed-so, spends}
use Rattle.journal_text.proofs.section.Section.spent.Goals as goal

pub returns-clause-closed : goal.returns-clause-closed
returns-clause-closed g c =
    let book = c.args.self.book in
    closed-so (g.K.Sink.got c.in-Ok.writer.sink) (origin_of (g.K.Sink.got c.args.self.sink)) (Spent c.args.budget) (AreOf book) (λ (steps : List Step). AreOf book steps × SpentWritten book.formula steps c.args.budget)
    (λ steps h. (h, spends book steps c.args.budget c.requires.count c.requires.fresh h)) c.in-Ok.ensures.closed
