use Rattle.std.proofs.Common.{◌≡◌, refl, ap, ◌∙◌}
use Rattle.cube_core.specs.Function.{Function}
use Rattle.cube_core.specs.Members.{complement_of}
use Rattle.dual_product.proofs.Tools.{same_function}
use Rattle.finder_set.specs.declared.split.Side.TheVariants.{On, Off}
use Rattle.finder_set.specs.Splitting.{part_of}
use Rattle.finder_set.proofs.SplitLaws.{part_of-IsFunction, some_from}
use Rattle.finder_set.proofs.split.part.Goals as goal

pub unwrap-requires : goal.unwrap-requires
unwrap-requires c =
    let f : Function = part_of On c.args.inputs c.args.cubes.now in
    let rest : c.complement-rest.result ≡ f.off = c.complement-rest.ensures ∙ ap (complement_of c.args.inputs) c.table_of-table.ensures in
    some_from c.new.result _ f (same_function f c.args.inputs _ _ refl c.table_of-table.ensures rest) (part_of-IsFunction On c.args.inputs c.args.cubes.now c.requires.some c.requires.few) c.new.ensures

pub unwrap-requires-in-Off : goal.unwrap-requires-in-Off
unwrap-requires-in-Off c =
    let f : Function = part_of Off c.args.inputs c.args.cubes.now in
    let rest : c.complement-rest.result ≡ f.on = c.complement-rest.ensures ∙ ap (complement_of c.args.inputs) c.table_of-table.ensures in
    some_from c.new-in-Off.result _ f (same_function f c.args.inputs _ _ refl rest c.table_of-table.ensures) (part_of-IsFunction Off c.args.inputs c.args.cubes.now c.requires.some c.requires.few) c.new-in-Off.ensures
