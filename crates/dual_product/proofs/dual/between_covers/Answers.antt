use Rattle.std.proofs.Common.{◌≡◌, ◌≤◌, ap, ◌∙◌, sym, subst, List, length}
use Rattle.cube_core.specs.Cube.{Product}
use Rattle.cube_core.specs.Function.{Function}
use Rattle.cover_make.specs.Cubes.{Products}
use Rattle.cover_make.specs.Cover.{off_cover_of}
use Rattle.cube_core.proofs.Tools.{complement_of-AllBelow}
use Rattle.dual_product.specs.Dual.{on_cover_of}
use Rattle.dual_product.proofs.DualLaws.{on-IsWithin, on_cover-read, off_cover-read, AreApart-read, some_ons, some_offs}
use Rattle.dual_product.proofs.dual.between_covers.Goals as goal

pub cover-requires-clause-within : goal.cover-requires-clause-within
cover-requires-clause-within c =
    let f : Function = record { inputs = c.args.inputs; on = c.args.on.now; off = c.args.off.now } in
    rw c.complement-room.ensures (on-IsWithin f c.requires.function)

pub cover-requires-clause-below : goal.cover-requires-clause-below
cover-requires-clause-below c = rw c.complement-room.ensures (complement_of-AllBelow c.args.inputs c.args.off.now)

pub cells_between-requires-clause-apart : goal.cells_between-requires-clause-apart
cells_between-requires-clause-apart c =
    let f : Function = record { inputs = c.args.inputs; on = c.args.on.now; off = c.args.off.now } in
    let ons_is : c.in_ok-ons.ons ≡ on_cover_of f = on_cover-read f _ c.in_ok-ons.ons c.complement-room.ensures c.in_ok-ons.ensures.list in
    AreApart-read f c.requires.function c.cubes.result.now c.cubes-2.result.now (c.cubes.ensures ∙ ap (λ (l : Products). l.cubes) ons_is)
    (c.cubes-2.ensures ∙ off_cover-read f c.in_ok-ons.ons c.in_ok-offs.offs ons_is c.in_ok-offs.ensures.list)

pub cells_between-requires-clause-some_ons : goal.cells_between-requires-clause-some_ons
cells_between-requires-clause-some_ons c =
    let f : Function = record { inputs = c.args.inputs; on = c.args.on.now; off = c.args.off.now } in
    let ons_is : c.in_ok-ons.ons ≡ on_cover_of f = on_cover-read f _ c.in_ok-ons.ons c.complement-room.ensures c.in_ok-ons.ensures.list in
    let cubes_are : c.cubes.result.now ≡ (on_cover_of f).cubes = c.cubes.ensures ∙ ap (λ (l : Products). l.cubes) ons_is in
    subst (λ (cubes : List Product). 1 ≤ length cubes) (sym cubes_are) (some_ons f c.requires.function c.requires.some_on)

pub cells_between-requires-clause-some_offs : goal.cells_between-requires-clause-some_offs
cells_between-requires-clause-some_offs c =
    let f : Function = record { inputs = c.args.inputs; on = c.args.on.now; off = c.args.off.now } in
    let ons_is : c.in_ok-ons.ons ≡ on_cover_of f = on_cover-read f _ c.in_ok-ons.ons c.complement-room.ensures c.in_ok-ons.ensures.list in
    let cubes_are : c.cubes-2.result.now ≡ off_cover_of (on_cover_of f) = c.cubes-2.ensures ∙ off_cover-read f c.in_ok-ons.ons c.in_ok-offs.offs ons_is c.in_ok-offs.ensures.list in
    subst (λ (cubes : List Product). 1 ≤ length cubes) (sym cubes_are) (some_offs f c.requires.function c.requires.some_off)
