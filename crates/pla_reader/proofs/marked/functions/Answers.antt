use Rattle.std.proofs.Common.{◌≡◌, ◌++◌, ◌∷◌, [], length, refl, Some, ◌∙◌, ap, sym, subst, arith}
use Rattle.cube_core.specs.Members.{AreDisjoint}
use Rattle.pla_reader.specs.Sets.{function_of_sets}
use Rattle.pla_reader.specs.Marking.{AreBelow, AreFunctions}
use Rattle.pla_reader.proofs.SetsLaws.{spec_made, clear_from_empty, AreFunctions-push, IsClash-here}
use Rattle.pla_reader.proofs.marked.functions.Goals as goal

pub returns-in-Some-clause-clash : goal.returns-in-Some-clause-clash
returns-in-Some-clause-clash c = λ _.
    IsClash-here c.args.kind c.args.inputs c.args.sets.now c.loop-output.output c.index-sets-output.result c.loop-output.specs.items c.and.result c.in-Some.assign c.loop-output-test.true c.index-sets-output.is c.loop-output.invariant c.and.ensures c.in-Some.ensures.some

made : (c : goal.After-new) → c.new.result ≡ Some (function_of_sets c.args.kind c.args.inputs c.index-sets-output.result)
made c =
    let below : AreBelow c.args.inputs c.index-sets-output.result = subst (AreBelow c.args.inputs) (sym c.index-sets-output.is) (c.requires.below c.loop-output.output c.index-sets-output.result c.loop-output-test.true) in
    let clear : AreDisjoint c.index-sets-output.result.on c.index-sets-output.result.off = clear_from_empty _ _ c.and.result c.and.ensures (c.in_default.ensures.none.0 refl) in
    spec_made c.args.kind c.args.inputs c.index-sets-output.result _ _ c.new.result c.requires.some_inputs c.requires.few_inputs below clear c.minus-on.ensures c.off_set-off.ensures c.new.ensures

pub unwrap-requires : goal.unwrap-requires
unwrap-requires c = rw (made c) refl

pub loop-output-preserved : goal.loop-output-preserved
loop-output-preserved c =
    let one = made c.before.before.before.before in
    let other = c.unwrap.ensures in
    let same : c.unwrap.result ≡ function_of_sets c.args.kind c.args.inputs c.index-sets-output.result = cc in
    let clear : AreDisjoint c.index-sets-output.result.on c.index-sets-output.result.off = clear_from_empty _ _ c.and.result c.and.ensures (c.in_default.ensures.none.0 refl) in
    AreFunctions-push c.args.kind c.args.inputs c.args.sets.now c.loop-output.output c.index-sets-output.result c.loop-output.specs.items _ c.loop-output-test.true c.index-sets-output.is clear c.loop-output.invariant
    (c.in_ok-push.ensures.items ∙ ap (λ f. c.loop-output.specs.items ++ f ∷ []) same)

pub returns-clause-found : goal.returns-clause-found
returns-clause-found c = λ rows are.
    let end : c.loop-output.output ≡ length c.args.sets.now = omega arith in
    subst (λ n. AreFunctions c.args.kind c.args.inputs n rows c.loop-output.specs.items) end (c.loop-output.invariant rows are)
