use Rattle.std.proofs.Common.{◌≡◌, ◌⊎◌, [], Bool, false, ap, ◌∙◌, subst, arith}
use Rattle.std.specs.Prelude.{IfSome}
use Rattle.lrat_replay.proofs.Tools.{ok_part}
use Rattle.journal_text.specs.Kept.{SpellsSection, Learning}
use Rattle.journal_text.specs.Origin.{origin_of}
use Rattle.journal_text.proofs.SectionLaws.{written-of, count_fits, learned_whole, learned_cut, origin-kept}
use Rattle.journal_text.proofs.section.SectionLedger.learn.Goals as goal

pub overflow_add-self : goal.overflow_add-self
overflow_add-self g c =
    let accepted = ok_part c.step.result c.if-is_err.ensures.value c.step.ensures.accepted in
    let over = ok_part c.step.result c.if-is_err.ensures.value c.step.ensures.over in
    let now = written-of c.self.inside.replay c.args.id c.args.clause.now c.args.hints.now accepted over c.requires.hints c.hint_bounds.ensures in
    let fits = count_fits c.self.inside.replay c.self.inside.before c.self.inside.learned c.args.id c.args.clause.now c.args.hints.now accepted now c.self.invariant.count c.self.invariant.few in omega (arith, fits)

pub invariant_of-self-then-is_err-2 : goal.invariant_of-self-then-is_err-2
invariant_of-self-then-is_err-2 g c =
    let accepted = ok_part c.step.result c.if-is_err.ensures.value c.step.ensures.accepted in
    let grown = ok_part c.step.result c.if-is_err.ensures.value c.step.ensures.after in
    let whole : c.self.inside.broken ≡ false = ap (λ s. s.broken) c.self.view_is ∙ c.requires.whole in
    let over = ok_part c.step.result c.if-is_err.ensures.value c.step.ensures.over in
    let now = written-of c.self.inside.replay c.args.id c.args.clause.now c.args.hints.now accepted over c.requires.hints c.hint_bounds.ensures in
    learned_cut c.self.inside.replay c.self.inside.before c.self.inside.learned c.args.id c.args.clause.now c.args.hints.now accepted now (g.K.Sink.got c.self.inside.sink) (g.K.Sink.got c.write_step.new.sink) c.step.new.self c.self.inside.broken
    grown whole c.self.invariant c.write_step.ensures.front

pub returns-then-is_err-2-clause-origin : goal.returns-then-is_err-2-clause-origin
returns-then-is_err-2-clause-origin g c =
    let whole : c.self.inside.broken ≡ false = ap (λ s. s.broken) c.self.view_is ∙ c.requires.whole in
    let a = g.K.Sink.got c.self.inside.sink in
    let spelled = subst (λ (w : Bool). IfSome a (λ bytes. SpellsSection bytes c.self.inside.replay w c.self.inside.before)) whole c.self.invariant.spelled in
    subst (λ (z : Learning g.row.K.Denot). (origin_of (g.K.Sink.got c.write_step.new.sink) ≡ origin_of (g.K.Sink.got z.sink)) ⊎ (origin_of (g.K.Sink.got c.write_step.new.sink) ≡ [])) c.self.view_is
    (origin-kept a (g.K.Sink.got c.write_step.new.sink) c.self.inside.replay c.self.inside.before c.args.id c.args.clause.now c.args.hints.now spelled c.write_step.ensures.front)

pub invariant_of-self-else-is_err-2 : goal.invariant_of-self-else-is_err-2
invariant_of-self-else-is_err-2 g c =
    let accepted = ok_part c.step.result c.if-is_err.ensures.value c.step.ensures.accepted in
    let grown = ok_part c.step.result c.if-is_err.ensures.value c.step.ensures.after in
    let whole : c.self.inside.broken ≡ false = ap (λ s. s.broken) c.self.view_is ∙ c.requires.whole in
    let over = ok_part c.step.result c.if-is_err.ensures.value c.step.ensures.over in
    let now = written-of c.self.inside.replay c.args.id c.args.clause.now c.args.hints.now accepted over c.requires.hints c.hint_bounds.ensures in
    learned_whole c.self.inside.replay c.self.inside.before c.self.inside.learned c.args.id c.args.clause.now c.args.hints.now accepted now (g.K.Sink.got c.self.inside.sink) (g.K.Sink.got c.write_step.new.sink) c.step.new.self c.self.inside.broken
    grown whole c.self.invariant (ok_part c.write_step.result c.if-is_err-2.ensures.value c.write_step.ensures.ok)

pub returns-clause-origin : goal.returns-clause-origin
returns-clause-origin g c =
    let whole : c.self.inside.broken ≡ false = ap (λ s. s.broken) c.self.view_is ∙ c.requires.whole in
    let a = g.K.Sink.got c.self.inside.sink in
    let spelled = subst (λ (w : Bool). IfSome a (λ bytes. SpellsSection bytes c.self.inside.replay w c.self.inside.before)) whole c.self.invariant.spelled in
    subst (λ (z : Learning g.row.K.Denot). (origin_of (g.K.Sink.got c.write_step.new.sink) ≡ origin_of (g.K.Sink.got z.sink)) ⊎ (origin_of (g.K.Sink.got c.write_step.new.sink) ≡ [])) c.self.view_is
    (origin-kept a (g.K.Sink.got c.write_step.new.sink) c.self.inside.replay c.self.inside.before c.args.id c.args.clause.now c.args.hints.now spelled c.write_step.ensures.front)
