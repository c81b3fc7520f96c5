use Rattle.std.proofs.Common.{List, map}
use Rattle.lrat_replay.specs.Laws.{Refutes}
use Rattle.lrat_replay.specs.declared.line.LineKind.TheVariants.{Add}
use Rattle.lrat_replay.specs.declared.line.Step.{Step}
use Rattle.journal_text.specs.Kept.{AreOf}
use Rattle.journal_text.specs.Origin.{origin_of}
use Rattle.journal_text.specs.declared.target.Close.TheVariants.{Refuted}
use Rattle.journal_text.proofs.SectionLaws.{closed-so, refutes}
use Rattle.journal_text.proofs.section.Section.refuted.Goals as goal

pub returns-in-Ok-refutation-clause-closed : goal.returns-in-Ok-refutation-clause-closed
returns-in-Ok-refutation-clause-closed g c =
    let book = c.args.self.book in
    closed-so (g.K.Sink.got c.in-Ok.writer.sink) (origin_of (g.K.Sink.got c.args.self.sink)) Refuted (AreOf book) (λ (steps : List Step). AreOf book steps × Refutes book.formula (map (λ x. Add x) steps))
    (λ steps h. (h, refutes book steps c.requires.reached h)) c.in-Ok.ensures.closed
