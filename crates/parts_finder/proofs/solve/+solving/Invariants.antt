use Rattle.std.proofs.Common.{◌+◌, ◌*◌}
use Rattle.parts_finder.proofs.solve.+solving.Given as goal

abbrev pub decreases-add_parted : goal.decreases-add_parted
decreases-add_parted l = 5 * l.depth + 4

abbrev pub decreases-of_terms : goal.decreases-of_terms
decreases-of_terms l = 5 * l.depth + 3

abbrev pub decreases-of_term : goal.decreases-of_term
decreases-of_term l = 5 * l.depth + 2

abbrev pub decreases-solve : goal.decreases-solve
decreases-solve l = 5 * l.depth + 1

abbrev pub decreases-of_needed : goal.decreases-of_needed
decreases-of_needed l = 5 * l.depth
