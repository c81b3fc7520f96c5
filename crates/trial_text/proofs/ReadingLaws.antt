-- A made text is a plain text, and so it is read.
use Rattle.std.proofs.Common.{◌≡◌, ℕ, zero, suc, ◌*◌, ◌%◌, ◌≤◌, List, [], ◌∷◌, ◌++◌, length, map, drop, refl, sym, ap, ◌∙◌, arith, append-nil, codes, decimal, inl, inr, length-append}
use Rattle.std.specs.Prelude.{All}
use Rattle.std.specs.List.{AllByRecursion}
use Rattle.std.proofs.lemmas.Fmt.{decimal_digit, decimal-digits_of}
use Rattle.std.proofs.lemmas.List.Elements.{All-from_recursion}
use Rattle.rand_core.specs.Stream.{Stream, next_u32}
use Rattle.pla_reader.specs.Plain.{IsDigit, IsRow, IsPlain, rows_text, spelling}
use Rattle.pla_reader.specs.Answers.{IsPlainRead}
use Rattle.trial_text.specs.Made.{drawn, left_after, input_digit, output_digit, digit_of, width_of, digits_of, row_of, rows_of, words_of, made}
use Rattle.trial_text.specs.Reading.{rows_drawn, plain_of, parts_made, IsMadeRead}
use Rattle.trial_text.specs.declared.plane.Plane.{Plane}
use Rattle.trial_text.specs.declared.plane.Plane.TheVariants.{Inputs, Outputs}

-- ---- the digits of a row

length-drawn : (n : ℕ) (s : Stream) → length (drawn n s) ≡ n
unfolding drawn
length-drawn zero s = refl
length-drawn (suc n) s = ap suc (length-drawn n (next_u32 s).1)

length-map : {X Y : Type 0} (f : X → Y) (xs : List X) → length (map f xs) ≡ length xs
length-map f [] = refl
length-map f (x ∷ xs) = ap suc (length-map f xs)

length-digits : (plane : Plane) (s : Stream) → length (digits_of plane s) ≡ width_of plane
length-digits plane s = length-map (digit_of plane) (drawn (width_of plane) s) ∙ length-drawn (width_of plane) s

input_digit-is : (n : ℕ) → IsDigit (input_digit n)
input_digit-is zero = inl refl
input_digit-is (suc zero) = inr (inl refl)
input_digit-is (suc (suc n)) = inr (inr refl)

output_digit-is : (n : ℕ) → IsDigit (output_digit n)
output_digit-is zero = inr (inl refl)
output_digit-is (suc zero) = inr (inr refl)
output_digit-is (suc (suc n)) = inl refl

all-mapped : (P : ℕ → Type 0) (f : ℕ → ℕ) → ((n : ℕ) → P (f n)) → (xs : List ℕ) → AllByRecursion P (map f xs)
all-mapped P f each [] = tt
all-mapped P f each (x ∷ xs) = (each x, all-mapped P f each xs)

all-digits : (plane : Plane) (s : Stream) → All IsDigit (digits_of plane s)
all-digits Inputs s = All-from_recursion IsDigit _ (all-mapped IsDigit (digit_of Inputs) (λ n. input_digit-is (n % 3)) (drawn 6 s))
all-digits Outputs s = All-from_recursion IsDigit _ (all-mapped IsDigit (digit_of Outputs) (λ n. output_digit-is (n % 4)) (drawn 16 s))

-- ---- the rows

rows_are : (n : ℕ) (s : Stream) → AllByRecursion (IsRow 6 16) (rows_drawn n s)
unfolding rows_drawn
rows_are zero s = tt
rows_are (suc n) s = (
  record { digits = length-digits Inputs s; marks = length-digits Outputs (left_after 6 s); all_digits = all-digits Inputs s; all_marks = all-digits Outputs (left_after 6 s) },
  rows_are n (left_after 22 s),
)

length-rows : (n : ℕ) (s : Stream) → length (rows_drawn n s) ≡ n
unfolding rows_drawn
length-rows zero s = refl
length-rows (suc n) s = ap suc (length-rows n (left_after 22 s))

rows_text-is : (n : ℕ) (s : Stream) → rows_of n s ≡ rows_text (rows_drawn n s)
unfolding rows_of rows_drawn drawn
rows_text-is zero s = refl
rows_text-is (suc n) s = ap (λ t. row_of s ++ t) (rows_text-is n (left_after 22 s)) ∙ refl

row_length : (s : Stream) → length (row_of s) ≡ 24
row_length s =
    let ins = length-digits Inputs s in
    let outs = length-digits Outputs (left_after 6 s) in
    let whole = length-append (digits_of Inputs s) (codes " " ++ (digits_of Outputs (left_after 6 s) ++ codes "\n")) in
    let rest = length-append (digits_of Outputs (left_after 6 s)) (codes "\n") in
    omega (arith, ins, outs, whole, rest)

rows_length : (n : ℕ) (s : Stream) → length (rows_of n s) ≡ 24 * n
unfolding rows_of
rows_length zero s = refl
rows_length (suc n) s =
    let here = row_length s in
    let later = rows_length n (left_after 22 s) in
    let whole = length-append (row_of s) (rows_of n (left_after 22 s)) in
    omega (arith, here, later, whole)

-- ---- the text

plain-is : (number : ℕ) → IsPlain (plain_of number)
plain-is number = record {
  some_inputs = omega arith;
  few_inputs = omega arith;
  some_outputs = omega arith;
  few_outputs = omega arith;
  few_rows = let many = length-rows 24 (words_of number) in omega (arith, many);
  rows = All-from_recursion (IsRow 6 16) _ (rows_are 24 (words_of number));
}

-- the numbers of the first two lines
six : decimal 6 ≡ 54 ∷ []
six = decimal_digit 6 (omega arith)

sixteen : decimal 16 ≡ 49 ∷ 54 ∷ []
sixteen = decimal-digits_of 16 (omega arith) (omega arith)

spelled : (number : ℕ) → made number ≡ spelling (plain_of number)
unfolding made
spelled number =
    ap (λ rows. codes ".i 6\n.o 16\n" ++ (rows ++ codes ".e\n")) (rows_text-is 24 (words_of number))
    ∙ sym (ap (λ d. number_line_of (codes ".i ") d ++ (number_line_of (codes ".o ") (decimal 16) ++ (rows_text (rows_drawn 24 (words_of number)) ++ codes ".e\n"))) six
    ∙ ap (λ d. number_line_of (codes ".i ") (54 ∷ []) ++ (number_line_of (codes ".o ") d ++ (rows_text (rows_drawn 24 (words_of number)) ++ codes ".e\n"))) sixteen)
  where
    number_line_of : List ℕ → List ℕ → List ℕ
    number_line_of word d = word ++ d ++ 10 ∷ []

short : (number : ℕ) → length (made number) ≤ 4194304
unfolding made
short number =
    let rows = rows_length 24 (words_of number) in
    let whole = length-append (codes ".i 6\n.o 16\n") (rows_of 24 (words_of number) ++ codes ".e\n") in
    let rest = length-append (rows_of 24 (words_of number)) (codes ".e\n") in
    omega (arith, rows, whole, rest)

drop_all : (xs : List ℕ) → drop (length xs) xs ≡ []
drop_all [] = refl
drop_all (x ∷ xs) = drop_all xs

pub made_is_read : IsPlainRead → IsMadeRead
made_is_read plain number = plain (made number) (parts_made number) (short number) (record {
  plain = plain_of number;
  spelled = record {
    is_plain = plain-is number;
    text = spelled number ∙ (sym (append-nil (spelling (plain_of number))) ∙ ap (λ rest. spelling (plain_of number) ++ rest) (sym (drop_all (made number))));
    within = omega arith;
  };
  inputs = refl;
  outputs = refl;
  input_names = refl;
  output_names = refl;
  functions = refl;
})
