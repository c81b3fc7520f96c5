use Rattle.cover_make.proofs.TailsLaws.{IsKeptBelow}
use Rattle.cover_make.proofs.cover.irredundant.Given as goal

abbrev pub invariant-loop-cube : goal.invariant-loop-cube
invariant-loop-cube l = IsKeptBelow l.inputs l.need l.cubes l.kept.items l.before l.tails.items l.cube-index
