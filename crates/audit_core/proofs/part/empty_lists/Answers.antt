use Rattle.std.proofs.Common.{◌+◌, [], ◌∷◌, ◌++◌, sym, ap, ◌∙◌, subst}
use Rattle.audit_core.specs.Sought.{AreKept}
use Rattle.audit_core.proofs.SeenLaws.{kept_empty}
use Rattle.audit_core.proofs.part.empty_lists.Goals as goal

pub loop-output-preserved : goal.loop-output-preserved
loop-output-preserved c =
    subst (AreKept [] (c.loop-output._output + 1)) (sym (c.in_ok-push.ensures.items ∙ ap (λ x. c.loop-output.lists.items ++ x ∷ []) c.new.ensures)) (kept_empty c.loop-output._output c.loop-output.lists.items c.loop-output.invariant)
