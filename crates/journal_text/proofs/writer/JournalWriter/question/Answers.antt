use Rattle.std.proofs.Common.{◌≡◌, false, sym, ap, ◌∙◌, subst}
use Rattle.std.specs.Prelude.{IfSome}
use Rattle.lrat_replay.proofs.Tools.{ok_part}
use Rattle.journal_text.specs.Kept.{Learning}
use Rattle.journal_text.specs.Origin.{origin_of}
use Rattle.journal_text.proofs.SectionLaws.{still_writer, asked_next, asked_origin}
use Rattle.journal_text.proofs.writer.JournalWriter.question.Goals as goal

pub returns-clause-origin : goal.returns-clause-origin
returns-clause-origin g c =
    let a = g.K.Sink.got c.self.inside.sink in
    let b = g.K.Sink.got c.write_question.new.sink in
    let whole : c.self.inside.failed ≡ false = ap (λ w. w.failed) c.self.view_is ∙ c.requires.whole in
    let spelled = still_writer a c.self.inside.steps c.self.inside.failed whole c.self.invariant in
    let next = asked_next a b c.self.inside.steps c.args.output c.args.target.now c.requires.output c.target_bounds.ensures spelled (ok_part c.write_question.result c.if-is_err.ensures.value c.write_question.ensures.ok) in
    subst (λ (s : Learning g.row.K.Denot). IfSome (g.K.Sink.got s.sink) (λ bytes. origin_of (g.K.Sink.got s.sink) ≡ bytes)) (sym c.begin.ensures) (asked_origin b c.self.inside.steps next)
