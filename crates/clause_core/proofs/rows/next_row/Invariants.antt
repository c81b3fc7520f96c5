use Rattle.std.proofs.Common.{◌≡◌, ◌+◌, ◌≤◌, length}
use Rattle.clause_core.specs.Text.{lines_of, rows_in}
use Rattle.clause_core.proofs.rows.next_row.Given as goal

abbrev pub invariant-loop-rest : goal.invariant-loop-rest
invariant-loop-rest l = record {
  rows : rows_in l.next l.rest ≡ rows_in l.number l.text;
  last : l.next + length (lines_of l.rest) ≡ l.number + length (lines_of l.text);
  counted : l.next + length l.rest ≤ l.number + length l.text;
  within : length l.rest ≤ length l.text;
}

abbrev pub decreases-loop-rest : goal.decreases-loop-rest
decreases-loop-rest l = length l.rest
