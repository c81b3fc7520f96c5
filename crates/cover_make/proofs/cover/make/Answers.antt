use Rattle.std.proofs.Common.{◌≡◌, ap, ◌∙◌, List}
use Rattle.cube_core.specs.Cube.{Product}
use Rattle.cover_make.specs.Cubes.{Products}
use Rattle.cover_make.specs.Cover.{cover_of}
use Rattle.cover_make.proofs.CoverLaws.{cover_of-found, cover_of-AreProducts}
use Rattle.cover_make.proofs.cover.make.Goals as goal

pub new-requires : goal.new-requires
new-requires c =
    let cubes_are : c.in_ok-cubes.cubes.items ≡ cover_of c.args.inputs c.args.need.now c.args.room.now =
    cover_of-found c.args.inputs c.args.need.now c.args.room.now _ _ _ c.in_ok-all.ensures c.deref-2.ensures.value c.in_ok-cubes.ensures in
    rw cubes_are (cover_of-AreProducts c.args.inputs c.args.need.now c.args.room.now c.requires.some c.requires.few)

pub returns : goal.returns
returns c =
    let cubes_are : c.in_ok-cubes.cubes.items ≡ cover_of c.args.inputs c.args.need.now c.args.room.now =
    cover_of-found c.args.inputs c.args.need.now c.args.room.now _ _ _ c.in_ok-all.ensures c.deref-2.ensures.value c.in_ok-cubes.ensures in
    c.new.ensures ∙ ap (λ (cubes : List Product). let list : Products = record { inputs = c.args.inputs; cubes = cubes } in list) cubes_are
