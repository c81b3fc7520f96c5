use Rattle.std.proofs.Common.{◌≡◌, ◌+◌, ◌≤◌, length}
use Rattle.clause_core.specs.Text.{rows_in}
use Rattle.lrat_replay.specs.LratRead.{lines_say}
use Rattle.lrat_replay.proofs.ReadLaws.{behind_lines}
use Rattle.lrat_replay.proofs.read.read_lrat.Given as goal

abbrev pub invariant-loop-row : goal.invariant-loop-row
invariant-loop-row l = record {
  read : lines_say (rows_in 1 l.bytes) ≡ behind_lines l.lines.items (lines_say (rows_in l.next l.rest));
  counted : l.next + length l.rest ≤ 1 + length l.bytes;
}

abbrev pub decreases-loop-row : goal.decreases-loop-row
decreases-loop-row l = length l.rest
