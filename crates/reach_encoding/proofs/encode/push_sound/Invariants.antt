use Rattle.std.proofs.Common.{map}
use Rattle.std.specs.List.{flat_map}
use Rattle.reach_encoding.specs.Encoding.{below, many_asked}
use Rattle.reach_encoding.specs.EncodeParts.{Adds, value_clause}
use Rattle.reach_encoding.proofs.encode.push_sound.Given as goal

abbrev pub invariant-loop-control : goal.invariant-loop-control
invariant-loop-control l = Adds l.initial.formula l.formula (flat_map (λ c. map (value_clause l.task l.cell c) (below (many_asked l.task))) (below l.control))
