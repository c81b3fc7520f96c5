use Rattle.std.proofs.Common.{◌≡◌, ◌++◌, take}
use Rattle.reach_encoding.specs.ModelOf.{control_row}
use Rattle.reach_encoding.proofs.model.push_control.Given as goal

abbrev pub invariant-loop-control : goal.invariant-loop-control
invariant-loop-control l = l.values.items ≡ l.initial.values.items ++ control_row (take l.control-index l.controls) l.stands
