-- What a source in memory has left and what a sink in memory got, and which of their calls fail.
use Rattle.std.specs.Prelude.{◌≡◌, ℕ, ◌+◌, ◌-◌, ◌^◌, min, List}
use Rattle.wire_io.specs.declared.memory.MemorySource.{MemorySource}
use Rattle.wire_io.specs.declared.memory.MemorySink.{MemorySink}
use Rattle.wire_io.specs.Firm.{left_of as firm_left, source_step as firm_step}

abbrev pub left_of : MemorySource → List ℕ
left_of source = firm_left source.inner

abbrev pub source_step : MemorySource → ℕ
source_step source = firm_step source.inner

-- how many calls there were, up to the greatest `u64`
abbrev pub source_calls : MemorySource → ℕ
source_calls source = source.calls

-- the numbers of the calls that fail
abbrev pub source_fails : MemorySource → List ℕ
source_fails source = source.fails.items

-- A call counts itself, and changes nothing of how the next ones go.
pub record CountsRead (old new : MemorySource) : Type 0 where
  pub calls : source_calls new ≡ min (source_calls old + 1) (2 ^ 64 - 1)
  pub fails : source_fails new ≡ source_fails old
  pub step : source_step new ≡ source_step old

abbrev pub got_of : MemorySink → List ℕ
got_of sink = sink.kept.items

abbrev pub room_of : MemorySink → ℕ
room_of sink = sink.room

abbrev pub sink_step : MemorySink → ℕ
sink_step sink = sink.step

-- how many calls there were, up to the greatest `u64`
abbrev pub sink_calls : MemorySink → ℕ
sink_calls sink = sink.calls

-- the numbers of the calls that fail
abbrev pub sink_fails : MemorySink → List ℕ
sink_fails sink = sink.fails.items

-- A call counts itself, and changes nothing of how the next ones go.
pub record CountsWrite (old new : MemorySink) : Type 0 where
  pub calls : sink_calls new ≡ min (sink_calls old + 1) (2 ^ 64 - 1)
  pub fails : sink_fails new ≡ sink_fails old
  pub room : room_of new ≡ room_of old
  pub step : sink_step new ≡ sink_step old
