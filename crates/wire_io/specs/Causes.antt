-- When an answer has a cause: a count of faults that never falls, and that stops at the greatest `u64`.
use Rattle.std.specs.Prelude.{◌≡◌, ℕ, ◌+◌, ◌-◌, ◌^◌, ◌≤◌, min, List, OnOk, OnErr, Result}
use Rattle.std.specs.declared.option.Option.{Option}
use Rattle.wire_io.specs.Told.{LosesCount, LosesUpTo}
use Rattle.wire_io.specs.declared.fault.ReadFault.{ReadFault}
use Rattle.wire_io.specs.declared.fault.ReadFault.TheVariants.{Fault, TooLong, NoMemory}

-- what is known of a device: the bytes that it tells, if it does, and how often it failed
pub record Device : Type 0 where
  pub told : Option (List ℕ)
  pub faults : ℕ

-- The count rose, or stands at its last value.
abbrev pub Rose : ℕ → ℕ → Type 0
Rose before now = min (before + 1) (2 ^ 64 - 1) ≤ now

-- The count has not fallen; where the call failed it rose, and where it did not fail it stands.
pub record HasCause {T E : Type 0} (before now : ℕ) (result : Result T E) : Type 0 where
  pub later : before ≤ now
  pub failed : OnErr result (Rose before now)
  pub still : OnOk result (now ≡ before)

-- What a refusal to read all says of the source: whether it failed, and how many bytes were taken.
abbrev pub IsReadRefusal : ℕ → Device → Device → ReadFault → Type 0
IsReadRefusal limit old new Fault = Rose old.faults new.faults × LosesUpTo old.told new.told limit
IsReadRefusal limit old new TooLong = (new.faults ≡ old.faults) × LosesCount old.told new.told (limit + 1)
IsReadRefusal limit old new NoMemory = (new.faults ≡ old.faults) × LosesUpTo old.told new.told limit
