-- Numbers of texts.
use Rattle.std.specs.Prelude.{ℕ, ◌+◌, ◌-◌, ◌*◌, ◌==◌, nat_le, Bool, true, false, cond, ◌&&◌, List, [], ◌∷◌, length, Some, None}
use Rattle.std.specs.declared.option.Option.{Option}
use Rattle.std.specs.Option.{option_map}
use Rattle.std.specs.Str.{all_ascii_digits}
use Rattle.clause_core.specs.declared.number.Number.{Number}

-- digits behind a number
abbrev pub value_after : ℕ → List ℕ → ℕ
value_after n [] = n
value_after n (digit ∷ digits) = value_after (n * 10 + (digit - 48)) digits

-- the value of a word of 1 to 10 digits
abbrev pub digits_of : List ℕ → Option ℕ
digits_of word = cond (nat_le 1 (length word) && (nat_le (length word) 10 && all_ascii_digits word)) (Some (value_after 0 word)) None

abbrev pub positive : ℕ → Number
positive n = record { negative = false; magnitude = n }

abbrev pub negative : ℕ → Number
negative n = record { negative = true; magnitude = n }

-- a signed number: 1 to 10 digits, with one - before them or none
abbrev pub number_of : List ℕ → Option Number
number_of [] = None
number_of (first ∷ rest) = cond (first == 45) (option_map negative (digits_of rest)) (option_map positive (digits_of (first ∷ rest)))

abbrev pub is_zero : Number → Bool
is_zero n = n.magnitude == 0
