use Rattle.std.proofs.Common.{◌+◌, ◌≤◌, length}
use Rattle.four_lattice.proofs.CheckLaws.{IsReadTo}
use Rattle.four_lattice.proofs.check.read_on.Given as goal

abbrev pub invariant-loop-line : goal.invariant-loop-line
invariant-loop-line l = record { read : IsReadTo l.number l.text l.next l.rest; counted : l.next + length l.rest ≤ l.number + length l.text }

abbrev pub decreases-loop-line : goal.decreases-loop-line
decreases-loop-line l = length l.rest
