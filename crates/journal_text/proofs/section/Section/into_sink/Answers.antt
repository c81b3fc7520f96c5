use Rattle.std.proofs.Common.{subst}
use Rattle.std.specs.Prelude.{IfSome}
use Rattle.journal_text.specs.Calls.{IsSectionBegun}
use Rattle.journal_text.specs.Kept.{Learning}
use Rattle.journal_text.specs.Origin.{origin_of}
use Rattle.journal_text.proofs.SectionLaws.{section_begun}
use Rattle.journal_text.proofs.section.Section.into_sink.Goals as goal

pub returns-clause-begun : goal.returns-clause-begun
returns-clause-begun g c =
    let told = g.K.Sink.got c.self.inside.sink in
    subst (λ (z : Learning g.row.K.Denot). IfSome told (λ bytes. IsSectionBegun bytes (origin_of (g.K.Sink.got z.sink)) z.broken)) c.self.view_is
    (section_begun told c.self.inside.replay c.self.inside.broken c.self.inside.before c.self.invariant.spelled)
