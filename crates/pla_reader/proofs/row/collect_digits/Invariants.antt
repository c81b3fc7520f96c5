use Rattle.std.proofs.Common.{◌≡◌, take}
use Rattle.pla_reader.specs.Lines.{digits_of}
use Rattle.pla_reader.proofs.row.collect_digits.Given as goal

abbrev pub invariant-loop-b : goal.invariant-loop-b
invariant-loop-b l = l.digits.items ≡ digits_of (take l.b-index l.text)
