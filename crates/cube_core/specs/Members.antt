-- A table of bits as the set of assignments whose bit is set.
use Rattle.std.specs.Prelude.{◌≡◌, ℕ, suc, zero, ◌/◌, ◌%◌, ◌<◌, ◌^◌, not, Bool, true, false, List, slice_index, ◌==◌, if◌then◌else◌}
use Rattle.std.specs.Int.{bit_at}
use Rattle.std.specs.Ordering.{nat_cmp}
use Rattle.std.specs.FinSet as set

-- a set of assignments
abbrev pub Assignments : Type 0
Assignments = set.FinSet nat_cmp

-- whether the bit of x is set in words of 64 bits
abbrev pub in_words : List ℕ → ℕ → Bool
in_words words x = bit_at (slice_index words (x / 64)) (x % 64) == 1

-- the numbers below n that pass a test
abbrev pub passing_below : (ℕ → Bool) → ℕ → Assignments
passing_below test zero = set.empty
passing_below test (suc n) = if test n then set.insert (passing_below test n) n else passing_below test n

-- the assignments whose bits are set
unfoldable pub members_of : List ℕ → Assignments
members_of words = passing_below (in_words words) 1024

-- the assignments of so many inputs that are not in the set
unfoldable pub complement_of : ℕ → Assignments → Assignments
complement_of inputs s = passing_below (λ x. not (set.contains s x)) (2 ^ inputs)

-- Each member is below n.
abbrev pub AllBelow : ℕ → Assignments → Type 0
AllBelow n s = (x : ℕ) → set.contains s x ≡ true → x < n

-- No assignment is in both.
abbrev pub AreDisjoint : Assignments → Assignments → Type 0
AreDisjoint s t = (x : ℕ) → set.contains s x ≡ true → set.contains t x ≡ true → ⊥

-- all assignments of so many inputs
unfoldable pub all_of : ℕ → Assignments
all_of inputs = passing_below (λ _. true) (2 ^ inputs)

-- Each assignment of the first set is in the second.
abbrev pub IsWithin : Assignments → Assignments → Type 0
IsWithin s t = (x : ℕ) → set.contains s x ≡ true → set.contains t x ≡ true

-- x is the least member.
pub record IsLeast (s : Assignments) (x : ℕ) : Type 0 where
  pub member : set.contains s x ≡ true
  pub least : (y : ℕ) → y < x → set.contains s y ≡ false
