use Rattle.std.proofs.Common.{◌≡◌, ◌++◌, map, take}
use Rattle.defect_array.specs.Taking.{defect_of}
use Rattle.defect_array.proofs.rows.push_switches.Given as goal

abbrev pub invariant-loop-byte : goal.invariant-loop-byte
invariant-loop-byte l = l.cells.items ≡ l.initial.cells.items ++ map defect_of (take l.byte-index l.row)
