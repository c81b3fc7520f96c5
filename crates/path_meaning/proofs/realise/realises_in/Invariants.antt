use Rattle.std.proofs.Common.{◌≡◌, ℕ, ◌<◌}
use Rattle.std.specs.Option.{option_copied}
use Rattle.path_meaning.specs.Failing.{MeetsIn}
use Rattle.path_meaning.proofs.realise.realises_in.Given as goal

abbrev pub invariant-loop-number : goal.invariant-loop-number
invariant-loop-number l = record {
  met : (y : ℕ) → y < l.number → MeetsIn l.grid (option_copied l.array) l.spec y;
  cells : l.marks ≡ l.initial.marks;
}
