use Rattle.std.proofs.Common.{◌∙◌, sym, refl}
use Rattle.pla_reader.proofs.NamesLaws.{AreNames-push, AreNames-repeated, not_false, not_true}
use Rattle.pla_reader.proofs.names.names_at.Goals as goal

pub returns-then-not-is_new : goal.returns-then-not-is_new
returns-then-not-is_new c =
    AreNames-repeated _ c.in_ok-name_of.field-0 c.loop-word.names.keys c.in-Some.word.now _ _ _ (λ q. refl) c.loop-word.invariant c.in-Some.ensures.1 c.in_ok-name_of.ensures (not_false _ (sym c.in_ok-is_new.ensures.added ∙ c.if-not-is_new.true))

pub loop-word-preserved : goal.loop-word-preserved
loop-word-preserved c =
    AreNames-push _ c.in_ok-name_of.field-0 c.loop-word.names.keys _ c.in-Some.word.now _ _ _ (λ q. refl) c.loop-word.invariant c.in-Some.ensures.1 c.in_ok-name_of.ensures (not_true _ (sym c.in_ok-is_new.ensures.added ∙ c.if-not-is_new.false)) c.in_ok-is_new.ensures.keys
