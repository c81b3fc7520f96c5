use Rattle.std.proofs.Common.{◌∙◌, arith, codes, ◌++◌, get_or, pos, w32, rules, refl}
use Rattle.std.specs.Fmt.{signed_decimal}
use Rattle.std.proofs.lemmas.Int.{to_z-of_z}
use mir.Val.{SFits}
use Rattle.wire_io.proofs.Tools.{IsPassed-none, IsPassed-more, IsPassed-stop}
use Rattle.clause_core.proofs.Tools.{passed_all, flat_map-drop, flat_map-end}
use Rattle.lrat_replay.proofs.write.put_hints.Goals as goal

pub loop-hint-init : goal.loop-hint-init
loop-hint-init g c = (IsPassed-none _ _ _, refl)

pub returns-in_err-put_hint-clause-front : goal.returns-in_err-put_hint-clause-front
returns-in_err-put_hint-clause-front g c =
    let fits : SFits w32 (get_or c.args.hints.now c.loop-hint.hint-index (pos 0)) = search rules in
    let same = to_z-of_z w32 (get_or c.args.hints.now c.loop-hint.hint-index (pos 0)) fits in
    IsPassed-stop _ _ _ _ _ _ _ _ _ c.loop-hint.invariant.0 (flat_map-drop (λ h. signed_decimal h ++ codes " ") c.args.hints.now c.loop-hint.hint-index (pos 0) c.loop-hint-test.true)
    (rw same at c.in_err-put_hint.ensures.front)

pub loop-hint-preserved : goal.loop-hint-preserved
loop-hint-preserved g c =
    let fits : SFits w32 (get_or c.args.hints.now c.loop-hint.hint-index (pos 0)) = search rules in
    let same = to_z-of_z w32 (get_or c.args.hints.now c.loop-hint.hint-index (pos 0)) fits in (
      IsPassed-more _ _ _ _ _ _ _ _ _ _ c.loop-hint.invariant.0 (flat_map-drop (λ h. signed_decimal h ++ codes " ") c.args.hints.now c.loop-hint.hint-index (pos 0) c.loop-hint-test.true)
          (rw same at c.in_ok-put_hint.ensures.ok),
      c.in_ok-put_hint.ensures.cause.still ∙ c.loop-hint.invariant.1,
    )

pub returns-clause-ok : goal.returns-clause-ok
returns-clause-ok g c =
    passed_all _ _ _ _ _ _ c.loop-hint.invariant.0 (flat_map-end (λ h. signed_decimal h ++ codes " ") c.args.hints.now c.loop-hint.hint-index c.loop-hint-test.false)
