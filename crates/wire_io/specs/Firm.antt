-- What a firm source has left and what a firm sink kept, and what a call does to them.
use Rattle.std.specs.Prelude.{◌≡◌, ℕ, ◌+◌, ◌-◌, ◌^◌, List, ◌++◌, length, drop, take, min, nat_le, if◌then◌else◌, Some, None}
use Rattle.std.specs.declared.option.Option.{Option}
use Rattle.wire_io.specs.declared.firm.FirmSource.{FirmSource}
use Rattle.wire_io.specs.declared.firm.FirmSink.{FirmSink}

abbrev pub left_of : FirmSource → List ℕ
left_of source = drop source.taken source.bytes.items

-- how many bytes a call gives at most
abbrev pub source_step : FirmSource → ℕ
source_step source = source.step

abbrev pub room_of : FirmSink → ℕ
room_of sink = sink.room

-- how many bytes a call takes at most
abbrev pub sink_step : FirmSink → ℕ
sink_step sink = sink.step

-- the first bytes that came, as many as there is room for
abbrev pub kept_of : FirmSink → List ℕ
kept_of sink = sink.kept.items

-- how many bytes came, up to the greatest `u64`
abbrev pub total_of : FirmSink → ℕ
total_of sink = sink.total

-- It tells the bytes as long as no more came than it has room for.
abbrev pub got_of : FirmSink → Option (List ℕ)
got_of sink = if nat_le sink.total sink.room then Some sink.kept.items else None

-- A call takes this front of a piece: what there is room for is kept, and all of it is counted.
pub record Keeps (old new : FirmSink) (front : List ℕ) : Type 0 where
  pub kept : kept_of new ≡ take (room_of old) (kept_of old ++ front)
  pub total : total_of new ≡ min (total_of old + length front) (2 ^ 64 - 1)
  pub room : room_of new ≡ room_of old
  pub step : sink_step new ≡ sink_step old
