-- Words that are numbers, and words that are options.
use Rattle.std.proofs.Common.{◌≡◌, ◌∙◌, ℕ, ◌-◌, ◌<◌, ◌≤◌, ◌^◌, ◌&&◌, ◌||◌, ◌==◌, Bool, true, false, not, refl, subst, ap, ap₂, arith, List, [], ◌∷◌, ◌++◌, length, Some, None, codes, pos}
use Rattle.std.specs.Prelude.{if◌then◌else◌, nat_lt, nat_le}
use Rattle.std.specs.Char.{is_ascii_digit, digit_value}
use Rattle.std.specs.Str.{bytes_eq}
use Rattle.std.specs.Str.Parse.{AllDigits, digits_value, without_leading_plus}
use Rattle.std.specs.List.{after_first, before_first, list_all, list_any}
use Rattle.std.proofs.lemmas.Bool.{and_parts, lt-ltb, ne_eqb, not-true}
use Rattle.std.proofs.lemmas.Bool.Decides.{nat_tests}
use Rattle.std.proofs.lemmas.Slice.Eq.{bytes_eq-Decides}
use Rattle.clap.specs.Lexer.{has_byte, long_of, without_minus}
use Rattle.clap.specs.ValueTests.{is_numeral, is_signed_in}
use Rattle.four_lattice.specs.Words.{is_number}
use Rattle.four_lattice.specs.WordsParts.{is_option, option_names}

digit_within : (b : ℕ) → is_ascii_digit b ≡ true → (48 ≤ b) × (b ≤ 57)
digit_within b e = (grind (arith, nat_tests), grind (arith, nat_tests))

digit_is : (b : ℕ) → is_ascii_digit b ≡ true → digit_value b ≡ b - 48
digit_is b e = let w = digit_within b e in grind (arith, nat_tests)

digit_below : (b : ℕ) → is_ascii_digit b ≡ true → digit_value b < 10
digit_below b e =
    let w = digit_within b e in
    let v = digit_is b e in omega arith

-- a number is a numeral, of one digit or more
pub number_digits : (b : ℕ) (bytes : List ℕ) → is_number (b ∷ bytes) ≡ true → list_all is_ascii_digit (b ∷ bytes) ≡ true
number_digits b bytes e = (and_parts _ _ (and_parts _ _ e).0).0

pub number_minus : (b : ℕ) (bytes : List ℕ) → is_number (b ∷ bytes) ≡ true → (b == 45) ≡ false
number_minus b bytes e =
    let w = digit_within b (and_parts _ _ (number_digits b bytes e)).0 in
    ne_eqb b 45 (λ is. omega arith)

number_plus : (b : ℕ) (bytes : List ℕ) → is_number (b ∷ bytes) ≡ true → (b == 43) ≡ false
number_plus b bytes e =
    let w = digit_within b (and_parts _ _ (number_digits b bytes e)).0 in
    ne_eqb b 43 (λ is. omega arith)

all_numeral : (ds : List ℕ) → list_all is_ascii_digit ds ≡ true → list_all (λ d. nat_lt (digit_value d) 10) ds ≡ true
all_numeral [] e = refl
all_numeral (d ∷ ds) e =
    let p = and_parts _ _ e in
    ap₂ (λ x y. x && y) (lt-ltb _ _ (digit_below d p.0)) (all_numeral ds p.1)

pub all_digits : (ds : List ℕ) → list_all is_ascii_digit ds ≡ true → AllDigits 10 ds
all_digits [] e = tt
all_digits (d ∷ ds) e =
    let p = and_parts _ _ e in
    (digit_below d p.0, all_digits ds p.1)

pub number_plain_sign : (b : ℕ) (bytes : List ℕ) → is_number (b ∷ bytes) ≡ true → without_leading_plus (b ∷ bytes) ≡ b ∷ bytes
number_plain_sign b bytes e = rw (number_plus b bytes e) refl

pub number_without_minus : (b : ℕ) (bytes : List ℕ) → is_number (b ∷ bytes) ≡ true → without_minus (b ∷ bytes) ≡ b ∷ bytes
number_without_minus b bytes e = rw (number_minus b bytes e) refl

within : (n least most : ℕ) → most < 2 ^ 32 → (nat_lt n (2 ^ 63) && (nat_le least n && nat_le n most)) ≡ (nat_le least n && nat_le n most)
within n least most fits = grind (arith, nat_tests)

-- the parser of numbers in a range takes those in it
pub is_signed_in-number : (b : ℕ) (bytes : List ℕ) (least most : ℕ) → most < 2 ^ 32 → is_number (b ∷ bytes) ≡ true
    → is_signed_in (pos least) (pos most) (b ∷ bytes) ≡ (nat_le least (digits_value 10 (b ∷ bytes)) && nat_le (digits_value 10 (b ∷ bytes)) most)
is_signed_in-number b bytes least most fits e =
    let numeral : is_numeral (b ∷ bytes) ≡ true = ap₂ (λ x y. x && y) (lt-ltb 0 (length (b ∷ bytes)) (omega arith)) (all_numeral (b ∷ bytes) (number_digits b bytes e)) in
    rw (number_minus b bytes e, number_plus b bytes e) (ap (λ t. t && (nat_lt (digits_value 10 (b ∷ bytes)) (2 ^ 63) && (nat_le least (digits_value 10 (b ∷ bytes)) && nat_le (digits_value 10 (b ∷ bytes)) most))) numeral
    ∙ within (digits_value 10 (b ∷ bytes)) least most fits)

-- ---- options

-- A word that is `--` and a name, as `clap` sees it.
pub record IsOptionWord (word : List ℕ) : Type 0 where
  pub name : List ℕ
  pub is : word ≡ 45 ∷ 45 ∷ name
  pub some : bytes_eq (45 ∷ 45 ∷ name) (45 ∷ 45 ∷ []) ≡ false
  pub long : long_of (45 ∷ 45 ∷ name) ≡ Some (name, None)

-- `clap` reads a name as a whole where it is not empty and has no `=` (61)
abbrev is_whole : List ℕ → Bool
is_whole name = not (bytes_eq name []) && (bytes_eq (before_first (λ x. x == 61) name) name && not (has_byte 61 name))

whole_word : (name : List ℕ) → is_whole name ≡ true → IsOptionWord (45 ∷ 45 ∷ name)
whole_word [] e = cc
whole_word (b ∷ bytes) e =
    let front : before_first (λ x. x == 61) (b ∷ bytes) ≡ b ∷ bytes = (bytes_eq-Decides _ (b ∷ bytes)).0 (and_parts _ _ e).0 in
    let none : has_byte 61 (b ∷ bytes) ≡ false = not-true _ (and_parts _ _ e).1 in
    record { name = b ∷ bytes; is = refl; some = refl; long = ap₂ (λ (x : List ℕ) y. Some (x, if y then Some (after_first (λ x. x == 61) (b ∷ bytes)) else None)) front none }

option_among : (names : List (List ℕ)) (word : List ℕ) → list_all is_whole names ≡ true → list_any (λ name. bytes_eq (codes "--" ++ name) word) names ≡ true → IsOptionWord word
option_among [] word whole e = cc
option_among (name ∷ names) word whole e = go (bytes_eq (codes "--" ++ name) word) refl e (option_among names word (and_parts _ _ whole).1)
  where
    go : (b : Bool) → bytes_eq (codes "--" ++ name) word ≡ b → (b || list_any (λ n. bytes_eq (codes "--" ++ n) word) names) ≡ true
        → (list_any (λ n. bytes_eq (codes "--" ++ n) word) names ≡ true → IsOptionWord word) → IsOptionWord word
    go true is any later = subst IsOptionWord ((bytes_eq-Decides (codes "--" ++ name) word).0 is) (whole_word name (and_parts _ _ whole).0)
    go false is any later = later any

pub option_word : (word : List ℕ) → is_option word ≡ true → IsOptionWord word
option_word word e = option_among option_names word refl e
