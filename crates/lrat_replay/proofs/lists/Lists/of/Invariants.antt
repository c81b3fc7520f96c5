use Rattle.std.proofs.Common.{◌≡◌, ◌+◌, ◌*◌, take, length}
use Rattle.lrat_replay.specs.Lists.{AreListed}
use Rattle.lrat_replay.proofs.lists.Lists.of.Given as goal

abbrev pub invariant-loop-index : goal.invariant-loop-index
invariant-loop-index l = record {
  listed : AreListed (take l.index l.formula.clauses) l.lists.first.items l.lists.next.items;
  width : length l.lists.first.items ≡ 2 * l.formula.vars + 2;
}
