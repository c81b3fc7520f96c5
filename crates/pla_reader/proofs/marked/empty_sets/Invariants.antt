use Rattle.std.proofs.Common.{◌≡◌, length}
use Rattle.std.specs.Prelude.{All}
use Rattle.pla_reader.specs.Marking.{are_empty}
use Rattle.pla_reader.proofs.marked.empty_sets.Given as goal

abbrev pub invariant-loop-made : goal.invariant-loop-made
invariant-loop-made l = record {
  many : length l.sets.items ≡ l._made;
  empty : All are_empty l.sets.items;
}
