use Rattle.std.proofs.Common.{◌≡◌, ◌≤◌, ◌*◌}
use Rattle.cube_core.specs.Members.{in_words}
use Rattle.cube_core.proofs.CountLaws.{count_below}
use Rattle.cube_core.proofs.table.Table.count.Given as goal

abbrev pub invariant-loop-word : goal.invariant-loop-word
invariant-loop-word l = record {
  counted : l.total ≡ count_below (in_words l.word-items) (64 * l.word-index);
  few : l.total ≤ 64 * l.word-index;
}
