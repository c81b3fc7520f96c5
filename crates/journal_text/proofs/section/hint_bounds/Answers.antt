use Rattle.std.proofs.Common.{get_or, pos, subst, w32, rules}
use Rattle.std.specs.Prelude.{All, FitsSigned}
use Rattle.std.proofs.lemmas.List.{take_all}
use Rattle.std.proofs.lemmas.List.Elements.{All-more}
use Rattle.journal_text.proofs.section.hint_bounds.Goals as goal

pub loop-hint-preserved : goal.loop-hint-preserved
loop-hint-preserved c =
    let fits : FitsSigned w32 (get_or c.args.hints.now c.loop-hint.hint-index (pos 0)) = search rules in
    All-more (FitsSigned w32) c.args.hints.now c.loop-hint.hint-index (pos 0) c.loop-hint-test.true c.loop-hint.invariant fits

pub returns : goal.returns
returns c = subst (All (FitsSigned w32)) (take_all c.loop-hint.hint-index c.args.hints.now c.loop-hint-test.false) c.loop-hint.invariant
