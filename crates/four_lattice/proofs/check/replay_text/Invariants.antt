use Rattle.std.proofs.Common.{◌+◌, ◌≤◌, length}
use Rattle.four_lattice.proofs.CheckLaws.{IsReplayedTo}
use Rattle.four_lattice.proofs.check.replay_text.Given as goal

abbrev pub invariant-loop-line : goal.invariant-loop-line
invariant-loop-line l = record { read : IsReplayedTo l.initial.replay l.replay l.text l.next l.rest; counted : l.next + length l.rest ≤ 1 + length l.text }

abbrev pub decreases-loop-line : goal.decreases-loop-line
decreases-loop-line l = length l.rest
