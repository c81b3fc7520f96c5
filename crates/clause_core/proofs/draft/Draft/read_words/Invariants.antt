use Rattle.std.proofs.Common.{◌≡◌, ◌+◌, ◌≤◌, ◌++◌, List, length}
use Rattle.std.specs.List.{list_all}
use Rattle.clause_core.specs.declared.number.Number.{Number}
use Rattle.clause_core.specs.Text.{words_of}
use Rattle.clause_core.specs.CnfRead.{is_in_range, numbers_of, pieces_of, joined}
use Rattle.clause_core.proofs.draft.Draft.read_words.Given as goal

abbrev pub invariant-loop-word : goal.invariant-loop-word
invariant-loop-word l = record {
  good : list_all (is_in_range l.initial.self.formula.vars) (words_of l.rest) ≡ list_all (is_in_range l.initial.self.formula.vars) (words_of l.bytes);
  taken : (later : List Number) → joined l.self.formula.clauses l.self.begun.items (pieces_of (numbers_of (words_of l.rest) ++ later)) ≡ joined l.initial.self.formula.clauses l.initial.self.begun.items (pieces_of (numbers_of (words_of l.bytes) ++ later));
  vars : l.self.formula.vars ≡ l.initial.self.formula.vars;
  count : length l.self.formula.clauses + length l.rest ≤ length l.initial.self.formula.clauses + length l.bytes;
}

abbrev pub decreases-loop-word : goal.decreases-loop-word
decreases-loop-word l = length l.rest
