use Rattle.std.proofs.Common.{◌≡◌, map}
use Rattle.reach_encoding.specs.Encoding.{below, choice, yes}
use Rattle.reach_encoding.proofs.encode.fill_choice.Given as goal

abbrev pub invariant-loop-control : goal.invariant-loop-control
invariant-loop-control l = l.clause.items ≡ map (λ c. yes (choice l.task l.cell c)) (below l.control)
