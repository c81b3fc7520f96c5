use Rattle.std.proofs.Common.{◌≡◌, ◌+◌, ◌≤◌, ℕ, length}
use Rattle.clause_core.specs.Text.{lines_of, rows_in}
use Rattle.clause_core.specs.CnfRead.{body_of}
use Rattle.clause_core.proofs.ReadLaws.{rest_of}
use Rattle.clause_core.proofs.read.read_body.Given as goal

abbrev pub invariant-loop-row : goal.invariant-loop-row
invariant-loop-row l = record {
  vars : l.draft.formula.vars ≡ l.fn.head.vars;
  rest : (end : ℕ) → rest_of end l.fn.head l.draft.formula.clauses l.draft.begun.items (rows_in l.next l.rest) ≡ body_of end l.fn.head (rows_in l.fn.number l.fn.text);
  last : l.next + length (lines_of l.rest) ≡ l.fn.number + length (lines_of l.fn.text);
  counted : l.next + length l.rest ≤ l.fn.number + length l.fn.text;
  within : length l.draft.formula.clauses + length l.rest ≤ length l.fn.text;
}

abbrev pub decreases-loop-row : goal.decreases-loop-row
decreases-loop-row l = length l.rest
