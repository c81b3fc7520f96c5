use Rattle.std.proofs.Common.{◌≡◌, take}
use Rattle.std.specs.List.{filter}
use Rattle.defect_array.specs.Rows.{is_counted}
use Rattle.defect_array.proofs.line.collect_counted.Given as goal

abbrev pub invariant-loop-byte : goal.invariant-loop-byte
invariant-loop-byte l = l.row.items ≡ filter is_counted (take l.byte-index l.text)
