use Rattle.std.proofs.Common.{◌≡◌, ◌+◌, false, sym, ap, ◌∙◌, subst, rules}
use Rattle.std.specs.Prelude.{IfSome}
use Rattle.journal_text.specs.Calls.{IsClosed}
use Rattle.journal_text.specs.Kept.{capped, Learning, AreOf}
use Rattle.journal_text.specs.Origin.{origin_of}
use Rattle.journal_text.proofs.SectionLaws.{close_parts, close_closed}
use Rattle.journal_text.proofs.section.Section.close.Goals as goal

pub after-requires : goal.after-requires
after-requires g c =
    let whole : c.self.inside.broken ≡ false = ap (λ s. s.broken) c.self.view_is ∙ c.requires.whole in
    let steps : c.saturating_add-steps.result ≡ capped (c.self.inside.before + c.self.inside.learned) = search rules in
    close_parts (g.K.Sink.got c.self.inside.sink) (g.K.Sink.got c.write_close.new.sink) c.self.inside.replay c.self.inside.broken c.self.inside.before c.self.inside.learned c.saturating_add-steps.result c.args.close
    c.self.invariant whole c.requires.bounds steps c.in_default.ensures.ok

pub returns-clause-closed : goal.returns-clause-closed
returns-clause-closed g c =
    let whole : c.self.inside.broken ≡ false = ap (λ s. s.broken) c.self.view_is ∙ c.requires.whole in
    subst (λ w. IfSome (g.K.Sink.got w.sink) (λ bytes. IsClosed bytes (origin_of (g.K.Sink.got c.args.self.sink)) c.args.close (AreOf c.args.self.book))) (sym c.after.ensures)
    (subst (λ (z : Learning g.row.K.Denot). IfSome (g.K.Sink.got c.write_close.new.sink) (λ bytes. IsClosed bytes (origin_of (g.K.Sink.got z.sink)) c.args.close (AreOf z.book))) c.self.view_is
    (close_closed (g.K.Sink.got c.self.inside.sink) (g.K.Sink.got c.write_close.new.sink) c.self.inside.replay c.self.inside.broken c.self.inside.before c.self.inside.learned c.args.close c.self.invariant whole c.in_default.ensures.ok))
