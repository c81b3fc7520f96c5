use Rattle.std.proofs.Common.{◌^◌, ◌<◌, length, get_or, ap, sym, ◌∙◌, arith}
use Rattle.pla_reader.specs.Marking.{sets_after}
use Rattle.std.proofs.lemmas.List.{get_or-drop}
use Rattle.cube_core.specs.Members.{passing_below}
use Rattle.pla_reader.specs.Meaning.{allows}
use Rattle.pla_reader.proofs.SetsLaws.{IsAddedBelow-more, members_of_cube-allows}
use Rattle.pla_reader.proofs.marked.add_row.Goals as goal

pub loop-output-preserved : goal.loop-output-preserved
loop-output-preserved c =
    let within : c.loop-output.output < length c.args.sets.now = omega arith in
    IsAddedBelow-more c.args.kind c.args.inputs c.args.digits.now c.loop-output.output c.args.sets.now c.loop-output.sets c.index-sets-output.result c.add_marked.new.marked c.of_cube-covered.result _ within c.loop-output.invariant c.index-sets-output.is
    (c.of_cube-covered.ensures ∙ members_of_cube-allows _ _ _ c.cube_of.ensures ∙ ap (λ w. passing_below (allows w) (2 ^ c.args.inputs)) c.split_at.ensures.front)
    (ap (λ w. get_or w c.loop-output.output 0) c.split_at.ensures.back ∙ get_or-drop c.args.inputs c.args.digits.now c.loop-output.output 0)
    (c.add_marked.ensures ∙ ap (sets_after c.args.kind (get_or c.split_at.result.1.now c.loop-output.output 0) c.of_cube-covered.result) (sym c.index-sets-output.is))
