-- Written numbers are read as they are.
use Rattle.std.proofs.Common.{◌≡◌, ℕ, suc, ◌^◌, ◌==◌, ◌<◌, ◌≤◌, Bool, true, false, ◌&&◌, ◌||◌, List, [], ◌∷◌, length, refl, ap, ◌∙◌, arith, rules, inl, inr, ◌⊎◌, Some, ℤ, pos, negsuc}
use Rattle.std.specs.Prelude.{nat_le, nat_abs}
use Rattle.std.specs.List.{list_all}
use Rattle.std.specs.Option.{option_map}
use Rattle.std.specs.Str.{all_ascii_digits}
use Rattle.std.specs.Char.{is_ascii_digit}
use Rattle.std.specs.Fmt.{decimal, signed_decimal}
use Rattle.std.proofs.lemmas.Bool.{cond-true, cond-false, ne_eqb, eqb-true, and_parts, and_from, or_cases, or_right}
use Rattle.std.proofs.lemmas.Bool.Decides.{nat_tests}
use Rattle.std.proofs.lemmas.Fmt.{length-decimal-le, decimal_nonempty, digits_decimal, digits_value-decimal}
use Rattle.std.proofs.lemmas.Str.Parse.{IsNumeralModel, numerals_by_fold}
use Rattle.clause_core.specs.declared.number.Number.{Number}
use Rattle.clause_core.specs.Number.{value_after, digits_of, number_of, positive, negative}
use Rattle.clause_core.specs.Text.{is_blank}

own : IsNumeralModel (λ ds. all_ascii_digits ds ≡ true) (value_after 0)
own = numerals_by_fold _ (search rules) value_after (search rules)

fits : (n : ℕ) → n < 10000000000 → n < 2 ^ 64
fits n h = omega arith

pub digits_of-decimal : (n : ℕ) → n < 10000000000 → digits_of (decimal n) ≡ Some n
digits_of-decimal n h =
    let short : length (decimal n) ≤ 10 = length-decimal-le 10 n (omega arith) (omega arith) (fits n h) in
    let some : 1 ≤ length (decimal n) = (let a = decimal_nonempty n (fits n h) in omega arith) in
    let good : (nat_le 1 (length (decimal n)) && (nat_le (length (decimal n)) 10 && all_ascii_digits (decimal n))) ≡ true =
    and_from _ _ (grind (arith, nat_tests)) (and_from _ _ (grind (arith, nat_tests)) (digits_decimal own n (fits n h))) in
    cond-true (nat_le 1 (length (decimal n)) && (nat_le (length (decimal n)) 10 && all_ascii_digits (decimal n))) _ _ good ∙ ap Some (digits_value-decimal own n (fits n h))

-- a sign or a digit
abbrev pub prints : ℕ → Bool
prints b = b == 45 || is_ascii_digit b

pub printed_cases : (b : ℕ) → prints b ≡ true → (b ≡ 45) ⊎ ((48 ≤ b) × (b ≤ 57))
printed_cases b h = elim (or_cases (b == 45) (is_ascii_digit b) h) [
  | inl e ↦ inl (eqb-true b 45 e)
  | inr e ↦ inr (digit b e)
] where
  digit : (b : ℕ) → is_ascii_digit b ≡ true → (48 ≤ b) × (b ≤ 57)
  digit b e = (grind (arith, nat_tests), grind (arith, nat_tests))

pub prints-apart : (b c : ℕ) → prints b ≡ true → (c < 45) ⊎ (57 < c) → (b == c) ≡ false
prints-apart b c h far = ne_eqb b c (λ e. elim (printed_cases b h) [ inl x ↦ elim far [ inl f ↦ omega arith | inr f ↦ omega arith ] | inr x ↦ elim far [ inl f ↦ (let a = x.0 in omega arith) | inr f ↦ (let a = x.1 in omega arith) ] ])

pub prints-blank : (b : ℕ) → prints b ≡ true → is_blank b ≡ false
prints-blank b h = four (b == 32) (b == 9) (b == 13) (b == 10) (prints-apart b 32 h (inl (omega arith))) (prints-apart b 9 h (inl (omega arith))) (prints-apart b 13 h (inl (omega arith))) (prints-apart b 10 h (inl (omega arith))) where
  four : (p q r s : Bool) → p ≡ false → q ≡ false → r ≡ false → s ≡ false → (p || q || r || s) ≡ false
  four p q r s a b c d = grind arith

-- a word of signs and digits
pub record IsPrinted (word : List ℕ) : Type 0 where
  pub some : 0 < length word
  pub plain : list_all prints word ≡ true

digits_print : (ds : List ℕ) → all_ascii_digits ds ≡ true → list_all prints ds ≡ true
digits_print [] h = refl
digits_print (d ∷ ds) h = let p = and_parts (is_ascii_digit d) (all_ascii_digits ds) h in and_from (prints d) (list_all prints ds) (or_right (d == 45) (is_ascii_digit d) p.0) (digits_print ds p.1)

pub decimal_printed : (n : ℕ) → n < 10000000000 → IsPrinted (decimal n)
decimal_printed n h = record { some = decimal_nonempty n (fits n h); plain = digits_print (decimal n) (digits_decimal own n (fits n h)) }

abbrev pub number_from : ℤ → Number
number_from (pos n) = positive n
number_from (negsuc n) = negative (suc n)

pub signed_printed : (z : ℤ) → nat_abs z < 10000000000 → IsPrinted (signed_decimal z)
signed_printed (pos n) h = decimal_printed n h
signed_printed (negsuc n) h = let d = decimal_printed (suc n) h in record { some = omega arith; plain = d.plain }

digits_first : (ds : List ℕ) (n : ℕ) → all_ascii_digits ds ≡ true → 0 < length ds → digits_of ds ≡ Some n → number_of ds ≡ Some (positive n)
digits_first [] n h k e = absurd (omega arith)
digits_first (d ∷ ds) n h k e =
    let p = and_parts (is_ascii_digit d) (all_ascii_digits ds) h in
    let other : (d == 45) ≡ false = digit_apart d p.0 in
    cond-false (d == 45) (option_map negative (digits_of ds)) (option_map positive (digits_of (d ∷ ds))) other ∙ ap (option_map positive) e where
      digit_apart : (b : ℕ) → is_ascii_digit b ≡ true → (b == 45) ≡ false
      digit_apart b e = grind (arith, nat_tests)

pub number_of-signed : (z : ℤ) → nat_abs z < 10000000000 → number_of (signed_decimal z) ≡ Some (number_from z)
number_of-signed (pos n) h = digits_first (decimal n) n (digits_decimal own n (fits n h)) (decimal_nonempty n (fits n h)) (digits_of-decimal n h)
number_of-signed (negsuc n) h = ap (option_map negative) (digits_of-decimal (suc n) h)
