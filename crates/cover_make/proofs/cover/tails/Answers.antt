use Rattle.std.proofs.Common.{◌≡◌, ◌<◌, ◌+◌, ◌-◌, length, ap, ◌∙◌, sym, refl, arith}
use Rattle.cover_make.specs.Cubes.{table_of}
use Rattle.cover_make.specs.Tails.{tails_of}
use Rattle.cover_make.proofs.CubesLaws.{table_of-nil}
use Rattle.cover_make.proofs.TailsLaws.{tails_of-grown, behind-grown, drop-whole}
use Rattle.cover_make.proofs.cover.tails.Goals as goal

pub loop-place-init : goal.loop-place-init
loop-place-init c = record {
  tails_are = c.new-tails.ensures.items ∙ sym (ap (tails_of c.args.inputs) (drop-whole c.args.cubes.now _ refl));
  behind_is = c.empty-behind.ensures ∙ sym (table_of-nil c.args.inputs) ∙ sym (ap (table_of c.args.inputs) (drop-whole c.args.cubes.now _ refl));
}

pub loop-place-preserved : goal.loop-place-preserved
loop-place-preserved c =
    let next : c.loop-place.place ≡ c.loop-place.place - 1 + 1 = omega arith in
    let within : c.loop-place.place - 1 < length c.args.cubes.now = omega arith in
    record {
      tails_are = tails_of-grown c.args.inputs c.args.cubes.now (c.loop-place.place - 1) c.loop-place.place c.index-cubes-place.result _ _ c.loop-place.behind _ next within
          c.index-cubes-place.is c.loop-place.invariant.tails_are c.loop-place.invariant.behind_is
          c.copy.ensures c.in_ok-push.ensures.items;
      behind_is = behind-grown c.args.inputs c.args.cubes.now (c.loop-place.place - 1) c.loop-place.place c.index-cubes-place.result _ _ next within
          c.index-cubes-place.is c.loop-place.invariant.behind_is c.add_cube.ensures;
    }
