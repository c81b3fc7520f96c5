-- Numbers in digits.
use Rattle.std.proofs.Common.{◌≡◌, ◌≢◌, ℕ, suc, zero, ◌^◌, ◌<◌, ◌≤◌, ◌⊎◌, List, [], ◌∷◌, length, get_or, refl, sym, ap, ◌∙◌, subst, arith, Result, Ok, Err}
use Rattle.std.specs.List.{AllByRecursion}
use Rattle.std.specs.Fmt.{decimal}
use Rattle.std.specs.Str.Parse.{AllDigits, digits_value, ParsesUnsigned}
use Rattle.std.specs.Prelude.{MatchOption}
use Rattle.std.specs.Result.{result_ok}
use Rattle.std.specs.Str.{IsUtf8}
use Rattle.std.proofs.lemmas.Str.{IsUtf8-from_ascii}
use Rattle.std.proofs.lemmas.Fmt.{parse-decimal, decimal-digits_value, IsAscii-decimal, decimal_injective, decimal_is_IsNumeral, decimal_digit, first_decimal, decimal_nonempty}
use Rattle.std.proofs.lemmas.Str.Parse.{parse_plain, digit_from_value, IsNumeralModel, numerals_by_value, tells_digits}
use Rattle.report_text.specs.Pieces.{Without}
use Rattle.report_text.proofs.PiecesLaws.{Without-between}

pub own : IsNumeralModel (AllDigits 10) (digits_value 10)
own = numerals_by_value (AllDigits 10) tells_digits

digits_between : (ds : List ℕ) → AllDigits 10 ds → AllByRecursion (λ b. (48 ≤ b) × (b ≤ 57)) ds
digits_between [] h = tt
digits_between (d ∷ ds) h = let range = digit_from_value d h.0 in ((omega (arith, range), omega (arith, range)), digits_between ds h.1)

pub decimal-digits : (n : ℕ) → n < 2 ^ 64 → AllByRecursion (λ b. (48 ≤ b) × (b ≤ 57)) (decimal n)
decimal-digits n small = digits_between (decimal n) (decimal_is_IsNumeral n small).0.1

-- a separator that is no digit is not in a number
pub Without-decimal : (at n : ℕ) → n < 2 ^ 32 → (at < 48) ⊎ (57 < at) → Without at (decimal n)
Without-decimal at n small apart = Without-between at 48 57 (decimal n) apart (decimal-digits n (omega arith))

pub same_number : (m n : ℕ) → m < 2 ^ 32 → n < 2 ^ 32 → decimal m ≡ decimal n → m ≡ n
same_number m n p q e = decimal_injective m n (omega arith) (omega arith) e

-- what a word that the parser takes is
pub parsed_number : {E : Type 0} (word : List ℕ) (r : Result ℕ E) → ParsesUnsigned 32 10 word r → get_or word 0 0 ≢ 43 → (get_or word 0 0 ≡ 48 → length word ≡ 1)
    → MatchOption (result_ok r) ((n : ℕ) → n < 2 ^ 32 → word ≢ decimal n) (λ n. word ≡ decimal n)
parsed_number {E} word (Err d) h sign lead = λ n small e. some_error n (parse-decimal {E = E} 32 n word (Err d) small (omega arith) e h) where
  some_error : (n : ℕ) → ◌≡◌ {A = Result ℕ E} (Err d) (Ok n) → ⊥
  some_error n e = cc
parsed_number {E} word (Ok x) h sign lead =
    let p = parse_plain own {E = E} 32 word (Ok x) h sign in
    let small : digits_value 10 word < 2 ^ 64 = let below = p.0.2 in omega (arith, below) in
    sym (decimal-digits_value own word p.0.0 p.0.1 lead small) ∙ ap decimal (sym p.1)

-- a number's digits are text
pub digits_are_text : (word : List ℕ) → ¬ (IsUtf8 word) → (n : ℕ) → n < 2 ^ 32 → word ≢ decimal n
digits_are_text word none n small e = none (subst IsUtf8 (sym e) (IsUtf8-from_ascii (decimal n) (IsAscii-decimal n (omega arith))))

-- a number begins with a digit, and that is 0 in 0 alone
pub first_digit : (n : ℕ) → n < 2 ^ 32 → (0 < length (decimal n)) × (48 ≤ get_or (decimal n) 0 0) × (get_or (decimal n) 0 0 ≡ 48 → length (decimal n) ≡ 1)
first_digit zero small = rw (decimal_digit 0 (omega arith)) (omega arith, omega arith, λ _. refl)
first_digit (suc n) small =
    let above = first_decimal (suc n) (omega arith) (omega arith) in
    (decimal_nonempty (suc n) (omega arith), omega (arith, above), λ e. absurd (omega (arith, above, e)))

pub no_number-sign : (word : List ℕ) → get_or word 0 0 ≡ 43 → (n : ℕ) → n < 2 ^ 32 → word ≢ decimal n
no_number-sign word e n small same = let first = (first_digit n small).1 in let head : get_or (decimal n) 0 0 ≡ 43 = ap (λ w. get_or w 0 0) (sym same) ∙ e in omega (arith, first, head)

pub no_number-empty : (word : List ℕ) → length word ≡ 0 → (n : ℕ) → n < 2 ^ 32 → word ≢ decimal n
no_number-empty word e n small same = let some = (first_digit n small).0 in let none = ap length same in omega (arith, some, none, e)

pub no_number-zeros : (word : List ℕ) → get_or word 0 0 ≡ 48 → 1 < length word → (n : ℕ) → n < 2 ^ 32 → word ≢ decimal n
no_number-zeros word e long n small same =
    let one = (first_digit n small).2 (ap (λ w. get_or w 0 0) (sym same) ∙ e) in let many = ap length same in omega (arith, one, many, long)
