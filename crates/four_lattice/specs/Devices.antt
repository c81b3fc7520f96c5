-- Devices before and after a run, and what reading a text comes to.
use Rattle.std.specs.Prelude.{◌≡◌, ◌⊎◌, ℕ, ◌+◌, List, None, Some, IfSome}
use Rattle.std.specs.declared.option.Option.{Option}
use Rattle.wire_io.specs.Causes.{Device, Rose}
use Rattle.wire_io.specs.Told.{Gains, IsSpent, LosesCount, LosesUpTo}
use Rattle.wire_io.specs.declared.fault.ReadFault.{ReadFault}
use Rattle.wire_io.specs.declared.fault.ReadFault.TheVariants as read
use Rattle.four_lattice.specs.declared.ending.Refusal.{Refusal}
use Rattle.four_lattice.specs.declared.ending.Ending.{Ending}
use Rattle.four_lattice.specs.declared.ending.Ending.TheVariants as ending

-- a device before and after the run
pub record Change : Type 0 where
  pub old : Device
  pub new : Device

-- what is known of a device, by what it tells and how often it failed, before and after
abbrev pub change : Option (List ℕ) → ℕ → Option (List ℕ) → ℕ → Change
change told faults told' faults' = record { old = record { told = told; faults = faults }; new = record { told = told'; faults = faults' } }

-- a device that is not called
abbrev pub still : Device → Change
still device = record { old = device; new = device }

-- The sink gained these bytes; or none are named, and it does not tell.
abbrev pub GainsTold : Option (List ℕ) → Option (List ℕ) → Option (List ℕ) → Type 0
GainsTold old new None = new ≡ None
GainsTold old new (Some bytes) = Gains old new bytes

-- The count of a device rose.
abbrev pub Failed : Change → Type 0
Failed c = Rose c.old.faults c.new.faults

-- A text was read to one byte past its limit, where it is too long, or to its end.
abbrev pub IsReadFor : Type 0 → ℕ → Change → Type 0
IsReadFor IsLong most c =
    (IsLong × LosesCount c.old.told c.new.told (most + 1)) ⊎ (IsSpent c.new.told × LosesUpTo c.old.told c.new.told most)

-- how a run ends whose source could not be read, where too many bytes are refused so
abbrev pub unread : Refusal → ReadFault → Ending
unread long read.Fault = ending.ReadFault
unread long read.TooLong = ending.Refused long
unread long read.NoMemory = ending.NoMemory

-- Why a text gives no value: it is refused, its source failed, or memory was wanting; and how far it was read.
abbrev pub EndsText : {R : Type 0} → (R → Refusal) → (R → Type 0) → (List ℕ → R → Type 0) → ℕ → Ending → Change → Type 0
EndsText {R} at IsLong IsRefusedText most e c =
    ((r : R) × (e ≡ ending.Refused (at r)) × IfSome c.old.told (λ bytes. IsRefusedText bytes r) × IsReadFor (IsLong r) most c)
    ⊎ (((e ≡ ending.ReadFault) × Failed c × LosesUpTo c.old.told c.new.told most) ⊎ ((e ≡ ending.NoMemory) × LosesUpTo c.old.told c.new.told most))

-- A test of what was read stops the run: it is refused, or memory was wanting.
abbrev pub EndsTest : (Refusal → Type 0) → Ending → Type 0
EndsTest Refuses e = ((r : Refusal) × Refuses r × (e ≡ ending.Refused r)) ⊎ (e ≡ ending.NoMemory)
