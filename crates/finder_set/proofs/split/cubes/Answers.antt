use Rattle.cube_core.proofs.Tools.{complement_of-AllBelow}
use Rattle.dual_product.proofs.Tools.{on-IsWithin}
use Rattle.finder_set.proofs.split.cubes.Goals as goal

pub cover-requires-clause-within : goal.cover-requires-clause-within
cover-requires-clause-within c = rw (c.on.ensures, c.complement-room.ensures, c.inputs.ensures.same, c.off.ensures) (on-IsWithin c.args.spec.now c.inputs.ensures.kept)

pub cover-requires-clause-below : goal.cover-requires-clause-below
cover-requires-clause-below c = rw (c.complement-room.ensures, c.inputs.ensures.same, c.inputs-2.ensures.same) (complement_of-AllBelow _ _)
