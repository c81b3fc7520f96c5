-- A line that was read into a buffer, and what the lines of a text say from a number on.
use Rattle.std.specs.Prelude.{ℕ, List, Some, None, Result}
use Rattle.std.specs.declared.option.Option.{Option}
use Rattle.clause_core.specs.Text.{rows_in}
use Rattle.lrat_replay.specs.declared.line.Line.{Line}
use Rattle.lrat_replay.specs.declared.line.LineKind.{LineKind}
use Rattle.lrat_replay.specs.declared.line.LineKind.TheVariants as kinds
use Rattle.lrat_replay.specs.declared.read.Entry.{Entry}
use Rattle.lrat_replay.specs.declared.read.Entry.TheVariants.{Add, Delete}
use Rattle.lrat_replay.specs.declared.read.LineBuffer.{LineBuffer}
use Rattle.lrat_replay.specs.declared.refusal.LratRefusal.{LratRefusal}
use Rattle.lrat_replay.specs.LratRead.{lines_say}

-- an addition of the literals with the numbers as hints, or a deletion of the numbers
abbrev pub kind_in : LineBuffer → Entry → LineKind
kind_in buffer (Add id) = kinds.Add (record { id = id; clause = buffer.lits.items; hints = buffer.numbers.items })
kind_in buffer Delete = kinds.Delete buffer.numbers.items

abbrev pub kind_if : LineBuffer → Option Entry → Option LineKind
kind_if buffer None = None
kind_if buffer (Some entry) = Some (kind_in buffer entry)

abbrev pub line_in : ℕ → LineBuffer → Entry → Line
line_in number buffer entry = record { number = number; what = kind_in buffer entry }

-- the lines of a text whose first line has this number, or the first refusal
abbrev pub lines_from : ℕ → List ℕ → Result (List Line) LratRefusal
lines_from number text = lines_say (rows_in number text)
