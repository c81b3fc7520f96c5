-- Products of literals of the ten inputs, and the assignments that they hold.
use Rattle.std.specs.Prelude.{◌≡◌, ℕ, suc, zero, ◌<◌, ◌^◌, Bool, true, false, not, ◌&&◌, if◌then◌else◌, nat_lt, Some, None, bit_and}
use Rattle.std.specs.declared.option.Option.{Option}
use Rattle.std.specs.FinSet as set
use Rattle.cube_core.specs.Assignment.{bit}
use Rattle.cube_core.specs.Members.{Assignments, passing_below}

-- the inputs that a cube cares for, and their values, each as the bits of a number
pub record Product : Type 0 where
  pub care : ℕ
  pub value : ℕ

-- what a cube keeps: it cares for some of ten inputs, and has no value of another
pub record IsProduct (c : Product) : Type 0 where
  pub care : c.care < 1024
  pub within : bit_and c.value c.care ≡ c.value

-- the literal of an input: the value that the cube wants of it, where the cube cares for it
abbrev pub literal_of : Product → ℕ → Option Bool
literal_of c i = if bit c.care i then Some (bit c.value i) else None

-- whether the value of an input is the one that a literal wants
abbrev pub agrees : Option Bool → Bool → Bool
agrees None b = true
agrees (Some true) b = b
agrees (Some false) b = not b

-- whether a test passes at each number below n
abbrev pub each_below : (ℕ → Bool) → ℕ → Bool
each_below test zero = true
each_below test (suc n) = test n && each_below test n

-- whether the assignment is in the cube: each of the ten inputs has the value that its literal wants
unfoldable pub in_cube : Product → ℕ → Bool
in_cube c x = each_below (λ i. agrees (literal_of c i) (bit x i)) 10

-- the assignments of so many inputs that are in the cube
unfoldable pub members_of_cube : ℕ → Product → Assignments
members_of_cube inputs c = passing_below (in_cube c) (2 ^ inputs)

-- Each of the 1,024 assignments that is in the second cube is in the first.
abbrev pub ContainsCube : Product → Product → Type 0
ContainsCube c d = (x : ℕ) → x < 1024 → in_cube d x ≡ true → in_cube c x ≡ true

-- Some assignment is in both.
abbrev pub Meet : Product → Product → Type 0
Meet c d = (x : ℕ) × (x < 1024) × (in_cube c x ≡ true) × (in_cube d x ≡ true)

-- Both care for the input, and want opposite values of it.
abbrev pub ClashAt : Product → Product → ℕ → Type 0
ClashAt c d i = (wanted : Bool) × (literal_of c i ≡ Some wanted) × (literal_of d i ≡ Some (not wanted))

-- The least input at which two cubes clash.
pub record IsLeastClash (c d : Product) (i : ℕ) : Type 0 where
  pub few : i < 10
  pub here : ClashAt c d i
  pub least : (j : ℕ) → j < i → ClashAt c d j → ⊥

-- Each assignment of so many inputs that is in the cube is in the set.
abbrev pub IsInside : ℕ → Product → Assignments → Type 0
IsInside inputs c s = (x : ℕ) → x < 2 ^ inputs → in_cube c x ≡ true → set.contains s x ≡ true

-- Below n the cube has the literals that are wanted, and from n on it has none.
pub record HasLiterals (wanted : ℕ → Option Bool) (n : ℕ) (c : Product) : Type 0 where
  pub each : (i : ℕ) → literal_of c i ≡ (if nat_lt i n then wanted i else None)
