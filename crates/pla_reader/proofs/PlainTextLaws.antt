-- What the lines of a plain text say.
use Rattle.std.proofs.Common.{◌≡◌, ℕ, suc, ◌+◌, ◌≤◌, ◌<◌, true, false, List, [], ◌∷◌, ◌++◌, length, refl, sym, ap, ◌∙◌, arith, codes, Some, None, decimal, ◌%◌, ◌-◌, ◌&&◌, not, cond, take, drop, get_or, subst, inl, inr, length-append, append_assoc, map, ◌^◌, Option}
use Rattle.std.specs.Prelude.{filter, All, ◌==◌, nat_le}
use Rattle.std.specs.List.{AllByRecursion, list_all, before_first, position_or_len, slice_split, cons_option}
use Rattle.std.proofs.lemmas.List.{take_at, drop_at}
use Rattle.std.proofs.lemmas.List.Elements.{All-from_recursion, recursion_from_All}
use Rattle.pla_reader.specs.Plain.{IsDigit, RowText, IsRow, Plain, IsPlain, row_text, rows_text, number_line}
use Rattle.std.proofs.lemmas.Fmt.{decimal_by_steps, decimal_is_IsNumeral, decimal_nonempty, length-decimal-le}
use Rattle.std.proofs.lemmas.Bool.Decides.{nat_tests, leb_tells, Decides-eqb}
use Rattle.std.specs.Str.Parse.{digits_value}
use Rattle.pla_reader.specs.Says.{is_decimal, number_written, Said, said_by, said_by_text, said_by_words, said_by_word, is_foreign}
use Rattle.std.proofs.lemmas.List.Splits.{slice_split_at, length-slice_split}
use Rattle.pla_reader.specs.Lines.{Line, lines_of, lines_of_parts, visible, words_of, is_place, is_gap, is_printed, digits_of}
use Rattle.pla_reader.specs.Says.Said.{Spoiled, GivesInputs, GivesOutputs, GivesRow, Ends}
use Rattle.pla_reader.specs.Reading.{is_end, through_end, lines_read, said_in}
use Rattle.pla_reader.specs.declared.fault.LineFault.{LineFault}
use Rattle.pla_reader.specs.declared.fault.LineFault.TheVariants.{RowLength, BadDigit, TooManyRows}
use Rattle.pla_reader.specs.Given.{first_said, either_of, rows_of, row_said}
use Rattle.pla_reader.specs.Faults.{first_of, is_within, number_fault, row_fault, are_digits, is_input_digit, is_output_digit}
use Rattle.pla_reader.proofs.LinesLaws.{parts_some, take_all, drop_all, words_of-word, words_of-gap, words_of-none}

-- a line with its line feed at the front
pub lines_of-front : (text rest : List ℕ) → All (λ b. (b == 10) ≡ false) text → lines_of (text ++ 10 ∷ rest) ≡ record { text = text; ended = true } ∷ lines_of rest
unfolding lines_of
lines_of-front text rest none =
    ap lines_of_parts (slice_split_at (λ b. b == 10) text 10 rest none refl) ∙ parts_some text (slice_split (λ b. b == 10) rest) (let many = length-slice_split (λ b. b == 10) rest in omega (arith, many))

-- the line that ends a plain text
pub said_by-end : said_by (record { text = codes ".e"; ended = true }) ≡ Ends
unfolding visible words_of said_by_word is_foreign
said_by-end = refl

-- a byte that a line keeps as it is
record IsLineByte (b : ℕ) : Type 0 where
  printed : is_printed b ≡ true
  no_comment : (b == 35) ≡ false
  no_return : (b == 13) ≡ false
  no_feed : (b == 10) ≡ false

-- a digit of a row or of a number: such a byte that is no gap, no `|` and no dot
record IsSolid (b : ℕ) : Type 0 where
  place : is_place b ≡ true
  no_gap : is_gap b ≡ false
  no_dot : (b == 46) ≡ false
  byte : IsLineByte b

solid_digit : (b : ℕ) → IsDigit b → IsSolid b
solid_digit b (inl e) = subst IsSolid (sym e) (record { place = refl; no_gap = refl; no_dot = refl; byte = record { printed = refl; no_comment = refl; no_return = refl; no_feed = refl } })
solid_digit b (inr (inl e)) = subst IsSolid (sym e) (record { place = refl; no_gap = refl; no_dot = refl; byte = record { printed = refl; no_comment = refl; no_return = refl; no_feed = refl } })
solid_digit b (inr (inr e)) = subst IsSolid (sym e) (record { place = refl; no_gap = refl; no_dot = refl; byte = record { printed = refl; no_comment = refl; no_return = refl; no_feed = refl } })

each_then : (P Q : ℕ → Type 0) (then : (b : ℕ) → P b → Q b) (xs : List ℕ) → AllByRecursion P xs → AllByRecursion Q xs
each_then P Q then [] h = tt
each_then P Q then (x ∷ xs) h = (then x h.0, each_then P Q then xs h.1)

blank_byte : IsLineByte 32
blank_byte = record { printed = refl; no_comment = refl; no_return = refl; no_feed = refl }

bytes_of_row : (digits marks : List ℕ) → AllByRecursion IsSolid digits → AllByRecursion IsSolid marks → AllByRecursion IsLineByte (digits ++ 32 ∷ marks)
bytes_of_row [] marks h k = (blank_byte, each_then IsSolid IsLineByte (λ b s. s.byte) marks k)
bytes_of_row (d ∷ digits) marks h k = (h.0.byte, bytes_of_row digits marks h.1 k)

solid_filter : (xs ys : List ℕ) → AllByRecursion IsSolid xs → filter is_place (xs ++ ys) ≡ xs ++ filter is_place ys
solid_filter [] ys h = refl
solid_filter (x ∷ xs) ys h = ap (λ b. cond b (x ∷ filter is_place (xs ++ ys)) (filter is_place (xs ++ ys))) h.0.place ∙ ap (λ w. x ∷ w) (solid_filter xs ys h.1)

solid_filter_all : (xs : List ℕ) → AllByRecursion IsSolid xs → filter is_place xs ≡ xs
solid_filter_all [] h = refl
solid_filter_all (x ∷ xs) h = ap (λ b. cond b (x ∷ filter is_place xs) (filter is_place xs)) h.0.place ∙ ap (λ w. x ∷ w) (solid_filter_all xs h.1)

all_printed : (xs : List ℕ) → AllByRecursion IsLineByte xs → list_all is_printed xs ≡ true
all_printed [] h = refl
all_printed (x ∷ xs) h = ap (λ b. b && list_all is_printed xs) h.0.printed ∙ all_printed xs h.1

no_comment_at : (xs : List ℕ) → AllByRecursion IsLineByte xs → position_or_len (λ b. b == 35) xs ≡ length xs
no_comment_at [] h = refl
no_comment_at (x ∷ xs) h = ap (λ b. cond (not b) (1 + position_or_len (λ b. b == 35) xs) 0) h.0.no_comment ∙ (let later = no_comment_at xs h.1 in omega arith)

gap_at : (digits marks : List ℕ) → AllByRecursion IsSolid digits → position_or_len is_gap (digits ++ 32 ∷ marks) ≡ length digits
gap_at [] marks h = refl
gap_at (x ∷ xs) marks h = ap (λ b. cond (not b) (1 + position_or_len is_gap (xs ++ 32 ∷ marks)) 0) h.0.no_gap ∙ (let later = gap_at xs marks h.1 in omega arith)

row_text_of : List ℕ → List ℕ → List ℕ
row_text_of digits marks = digits ++ 32 ∷ marks

no_return_last : (xs : List ℕ) → 0 < length xs → AllByRecursion IsLineByte xs → (get_or xs (length xs - 1) 0 == 13) ≡ false
no_return_last xs some h = (All-from_recursion IsLineByte xs h (length xs - 1) 0 (omega arith)).no_return

visible_whole : (xs : List ℕ) → 0 < length xs → AllByRecursion IsLineByte xs → visible (record { text = xs; ended = true }) ≡ xs
unfolding visible
visible_whole xs some h =
    ap (λ b. before_first (λ c. c == 35) (cond b (take (length xs - 1) xs) xs)) (no_return_last xs some h) ∙ ap (λ n. take n xs) (no_comment_at xs h) ∙ take_all xs

-- a row of a plain text
pub said_by-row : (digits marks : List ℕ) → 0 < length digits → All IsDigit digits → All IsDigit marks → said_by (record { text = digits ++ 32 ∷ marks; ended = true }) ≡ GivesRow (digits ++ marks)
said_by-row digits marks some ds ms =
    let d : AllByRecursion IsSolid digits = each_then IsDigit IsSolid solid_digit digits (recursion_from_All IsDigit digits ds) in
    let m : AllByRecursion IsSolid marks = each_then IsDigit IsSolid solid_digit marks (recursion_from_All IsDigit marks ms) in
    let t : List ℕ = digits ++ 32 ∷ marks in
    let bytes : AllByRecursion IsLineByte t = bytes_of_row digits marks d m in
    let long : 0 < length t = omega (arith, length-append digits (32 ∷ marks)) in
    let few : length digits ≤ length t = omega (arith, length-append digits (32 ∷ marks)) in
    let words = words_of-word t (length digits) (sym (gap_at digits marks d)) some few in
    let first : take (length digits) t ≡ digits = take_at digits (32 ∷ marks) (length digits) refl in
    let dot : (get_or digits 0 0 == 46) ≡ false = (All-from_recursion IsSolid digits d 0 0 some).no_dot in
    ap said_by_text (visible_whole t long bytes) ∙ ap (λ b. cond b (said_by_words t (words_of t)) Spoiled) (all_printed t bytes)
    ∙ ap (said_by_words t) words
    ∙ ap (λ w. said_by_words t (w ∷ words_of (drop (length digits) t))) first
    ∙ ap (λ b. cond b (said_by_word digits (words_of (drop (length digits) t))) (GivesRow (digits_of t))) dot
    ∙ ap GivesRow (solid_filter digits (32 ∷ marks) d ∙ ap (λ w. digits ++ w) (solid_filter_all marks m))

dot_byte : IsLineByte 46
dot_byte = record { printed = refl; no_comment = refl; no_return = refl; no_feed = refl }

-- the letters of the words `.i` and `.o`
inputs_letter : IsLineByte 105
inputs_letter = record { printed = refl; no_comment = refl; no_return = refl; no_feed = refl }

outputs_letter : IsLineByte 111
outputs_letter = record { printed = refl; no_comment = refl; no_return = refl; no_feed = refl }

-- a decimal digit
abbrev pub IsDecimal : ℕ → Type 0
IsDecimal b = (48 ≤ b) × (b ≤ 57)

solid_decimal : (b : ℕ) → IsDecimal b → IsSolid b
solid_decimal b h =
    let low : 48 ≤ b = h.0 in
    let high : b ≤ 57 = h.1 in
    record {
      place = grind (arith, nat_tests);
      no_gap = grind (arith, nat_tests);
      no_dot = grind (arith, nat_tests);
      byte = record { printed = grind (arith, nat_tests); no_comment = grind (arith, nat_tests); no_return = grind (arith, nat_tests); no_feed = grind (arith, nat_tests) };
    }

is_decimal-yes : (b : ℕ) → IsDecimal b → is_decimal b ≡ true
is_decimal-yes b h = let low : 48 ≤ b = h.0 in let high : b ≤ 57 = h.1 in grind (arith, nat_tests)

one_more_digit : (ds : List ℕ) (b : ℕ) → AllByRecursion IsDecimal ds → IsDecimal b → AllByRecursion IsDecimal (ds ++ b ∷ [])
one_more_digit [] b h is = (is, tt)
one_more_digit (d ∷ ds) b h is = (h.0, one_more_digit ds b h.1 is)

all_decimal : (n : ℕ) → n < 2 ^ 64 → AllByRecursion IsDecimal (decimal n)
all_decimal n few = decimal_by_steps (λ n ds. AllByRecursion IsDecimal ds) (λ m small. ((omega arith, omega arith), tt)) (λ m ds big h. one_more_digit ds (48 + m % 10) h (omega arith, omega arith)) n few

all_yes : (ds : List ℕ) → AllByRecursion IsDecimal ds → list_all is_decimal ds ≡ true
all_yes [] h = refl
all_yes (d ∷ ds) h = ap (λ b. b && list_all is_decimal ds) (is_decimal-yes d h.0) ∙ all_yes ds h.1

-- the number that a decimal writes
number_written-decimal : (n : ℕ) → n < 10 ^ 9 → number_written (Some (decimal n)) ≡ Some n
number_written-decimal n few =
    let wide : n < 2 ^ 64 = omega arith in
    let short : nat_le (length (decimal n)) 9 ≡ true = let most = length-decimal-le 9 n (omega arith) few wide in elim (leb_tells (length (decimal n)) 9) [ inl t ↦ t.0 | inr f ↦ let long = f.1 in absurd (omega arith) ] in
    ap (λ b. cond (b && list_all is_decimal (decimal n)) (Some (digits_value 10 (decimal n))) None) short
    ∙ ap (λ b. cond b (Some (digits_value 10 (decimal n))) None) (all_yes (decimal n) (all_decimal n wide)) ∙ ap Some (decimal_is_IsNumeral n wide).1

no_gap_at : (xs : List ℕ) → AllByRecursion IsSolid xs → position_or_len is_gap xs ≡ length xs
no_gap_at [] h = refl
no_gap_at (x ∷ xs) h = ap (λ b. cond (not b) (1 + position_or_len is_gap xs) 0) h.0.no_gap ∙ (let later = no_gap_at xs h.1 in omega arith)

-- a text without gaps is one word
one_word : (xs : List ℕ) → 0 < length xs → AllByRecursion IsSolid xs → words_of xs ≡ xs ∷ []
one_word xs some h =
    words_of-word xs (length xs) (sym (no_gap_at xs h)) some (omega arith) ∙ ap (λ w. w ∷ words_of (drop (length xs) xs)) (take_all xs) ∙ ap (λ w. xs ∷ words_of w) (drop_all xs) ∙ ap (λ ws. xs ∷ ws) words_of-none

-- the bytes of a line with a word of two bytes and a number
head_bytes : (c n : ℕ) → IsLineByte c → n < 2 ^ 64 → AllByRecursion IsLineByte (46 ∷ c ∷ 32 ∷ decimal n)
head_bytes c n is few = (dot_byte, (is, (blank_byte, each_then IsDecimal IsLineByte (λ b d. (solid_decimal b d).byte) (decimal n) (all_decimal n few))))

-- what such a line says, where the first gap stands behind the word
said_by-head : (c n : ℕ) → IsLineByte c → n < 2 ^ 64 → 2 ≡ position_or_len is_gap (46 ∷ c ∷ 32 ∷ decimal n) → said_by (record { text = 46 ∷ c ∷ 32 ∷ decimal n; ended = true }) ≡ said_by_word (46 ∷ c ∷ []) (decimal n ∷ [])
said_by-head c n is few gap =
    let t : List ℕ = 46 ∷ c ∷ 32 ∷ decimal n in
    let bytes : AllByRecursion IsLineByte t = head_bytes c n is few in
    let solid : AllByRecursion IsSolid (decimal n) = each_then IsDecimal IsSolid solid_decimal (decimal n) (all_decimal n few) in
    ap said_by_text (visible_whole t (omega arith) bytes) ∙ ap (λ b. cond b (said_by_words t (words_of t)) Spoiled) (all_printed t bytes)
    ∙ ap (said_by_words t) (words_of-word t 2 gap (omega arith) (omega arith))
    ∙ ap (said_by_word (46 ∷ c ∷ [])) (words_of-gap 32 (decimal n) refl ∙ one_word (decimal n) (decimal_nonempty n few) solid)

-- the line that gives the inputs
pub said_by-inputs : (n : ℕ) → n < 10 ^ 9 → said_by (record { text = codes ".i " ++ decimal n; ended = true }) ≡ GivesInputs (Some n)
unfolding said_by_word
said_by-inputs n few = said_by-head 105 n inputs_letter (omega arith) refl ∙ ap GivesInputs (number_written-decimal n few)

-- the line that gives the outputs
pub said_by-outputs : (n : ℕ) → n < 10 ^ 9 → said_by (record { text = codes ".o " ++ decimal n; ended = true }) ≡ GivesOutputs (Some n)
unfolding said_by_word
said_by-outputs n few = said_by-head 111 n outputs_letter (omega arith) refl ∙ ap GivesOutputs (number_written-decimal n few)

-- no line feed stands in such a line
no_feed-head : (c n : ℕ) → IsLineByte c → n < 2 ^ 64 → All (λ b. (b == 10) ≡ false) (46 ∷ c ∷ 32 ∷ decimal n)
no_feed-head c n is few =
    All-from_recursion (λ b. (b == 10) ≡ false) (46 ∷ c ∷ 32 ∷ decimal n) (each_then IsLineByte (λ b. (b == 10) ≡ false) (λ b r. r.no_feed) (46 ∷ c ∷ 32 ∷ decimal n) (head_bytes c n is few))

no_feed-inputs : (n : ℕ) → n < 10 ^ 9 → All (λ b. (b == 10) ≡ false) (codes ".i " ++ decimal n)
no_feed-inputs n few = no_feed-head 105 n inputs_letter (omega arith)

no_feed-outputs : (n : ℕ) → n < 10 ^ 9 → All (λ b. (b == 10) ≡ false) (codes ".o " ++ decimal n)
no_feed-outputs n few = no_feed-head 111 n outputs_letter (omega arith)

abbrev pub head_line : List ℕ → ℕ → Line
head_line word n = record { text = word ++ decimal n; ended = true }

abbrev pub row_line : RowText → Line
row_line row = record { text = row.digits ++ 32 ∷ row.marks; ended = true }

abbrev pub end_line : Line
end_line = record { text = codes ".e"; ended = true }

no_feed-row : (inputs outputs : ℕ) (row : RowText) → IsRow inputs outputs row → All (λ b. (b == 10) ≡ false) (row.digits ++ 32 ∷ row.marks)
no_feed-row inputs outputs row h =
    All-from_recursion (λ b. (b == 10) ≡ false) (row.digits ++ 32 ∷ row.marks)
    (each_then IsLineByte (λ b. (b == 10) ≡ false) (λ b r. r.no_feed) (row.digits ++ 32 ∷ row.marks)
    (bytes_of_row row.digits row.marks (each_then IsDigit IsSolid solid_digit row.digits (recursion_from_All IsDigit row.digits h.all_digits)) (each_then IsDigit IsSolid solid_digit row.marks (recursion_from_All IsDigit row.marks h.all_marks))))

-- the lines of rows at the front
lines_of-rows : (inputs outputs : ℕ) (rows : List RowText) (rest : List ℕ) → AllByRecursion (IsRow inputs outputs) rows → lines_of (rows_text rows ++ rest) ≡ map row_line rows ++ lines_of rest
lines_of-rows inputs outputs [] rest h = refl
lines_of-rows inputs outputs (row ∷ rows) rest h =
    ap lines_of (append_assoc (row_text row) (rows_text rows) rest ∙ append_assoc (row.digits ++ 32 ∷ row.marks) (10 ∷ []) (rows_text rows ++ rest))
    ∙ lines_of-front (row.digits ++ 32 ∷ row.marks) (rows_text rows ++ rest) (no_feed-row inputs outputs row h.0) ∙ ap (λ ls. row_line row ∷ ls) (lines_of-rows inputs outputs rows rest h.1)

few_inputs : (plain : Plain) → IsPlain plain → plain.inputs < 10 ^ 9
few_inputs plain p = let few = p.few_inputs in omega arith

few_outputs : (plain : Plain) → IsPlain plain → plain.outputs < 10 ^ 9
few_outputs plain p = let few = p.few_outputs in omega arith

-- the lines of a plain text
pub lines_of-plain : (plain : Plain) (rest : List ℕ) → IsPlain plain
    → lines_of (number_line (codes ".i ") plain.inputs ++ (number_line (codes ".o ") plain.outputs ++ (rows_text plain.rows ++ (codes ".e\n" ++ rest))))
    ≡ head_line (codes ".i ") plain.inputs ∷ head_line (codes ".o ") plain.outputs ∷ (map row_line plain.rows ++ end_line ∷ lines_of rest)
lines_of-plain plain rest p =
    let after : List ℕ = rows_text plain.rows ++ (codes ".e\n" ++ rest) in
    ap lines_of (append_assoc (codes ".i " ++ decimal plain.inputs) (10 ∷ []) (number_line (codes ".o ") plain.outputs ++ after))
    ∙ lines_of-front (codes ".i " ++ decimal plain.inputs) (number_line (codes ".o ") plain.outputs ++ after) (no_feed-inputs plain.inputs (few_inputs plain p))
    ∙ ap (λ ls. head_line (codes ".i ") plain.inputs ∷ ls)
    (ap lines_of (append_assoc (codes ".o " ++ decimal plain.outputs) (10 ∷ []) after) ∙ lines_of-front (codes ".o " ++ decimal plain.outputs) after (no_feed-outputs plain.outputs (few_outputs plain p))
    ∙ ap (λ ls. head_line (codes ".o ") plain.outputs ∷ ls)
    (lines_of-rows plain.inputs plain.outputs plain.rows (codes ".e\n" ++ rest) (recursion_from_All (IsRow plain.inputs plain.outputs) plain.rows p.rows)
    ∙ ap (λ ls. map row_line plain.rows ++ ls) (lines_of-front (codes ".e") rest (All-from_recursion (λ b. (b == 10) ≡ false) (codes ".e") (refl, (refl, tt))))))

-- what a row of a plain text says
abbrev pub row_digits : RowText → List ℕ
row_digits row = row.digits ++ row.marks

abbrev pub rows_say : List RowText → List Said
rows_say rows = map (λ row. GivesRow (row_digits row)) rows

row_says : (inputs outputs : ℕ) (row : RowText) → 1 ≤ inputs → IsRow inputs outputs row → said_by (row_line row) ≡ GivesRow (row_digits row)
row_says inputs outputs row some h = said_by-row row.digits row.marks (let many = h.digits in omega arith) h.all_digits h.all_marks

through_rows : (inputs outputs : ℕ) (rows : List RowText) (more : List Line) → 1 ≤ inputs → AllByRecursion (IsRow inputs outputs) rows → through_end (map row_line rows ++ end_line ∷ more) ≡ map row_line rows ++ end_line ∷ []
through_rows inputs outputs [] more some h = ap (λ s. end_line ∷ cond (is_end s) [] (through_end more)) said_by-end
through_rows inputs outputs (row ∷ rows) more some h =
    ap (λ s. row_line row ∷ cond (is_end s) [] (through_end (map row_line rows ++ end_line ∷ more))) (row_says inputs outputs row some h.0) ∙ ap (λ ls. row_line row ∷ ls) (through_rows inputs outputs rows more some h.1)

rows_said : (inputs outputs : ℕ) (rows : List RowText) → 1 ≤ inputs → AllByRecursion (IsRow inputs outputs) rows → map said_by (map row_line rows ++ end_line ∷ []) ≡ rows_say rows ++ Ends ∷ []
rows_said inputs outputs [] some h = ap (λ s. s ∷ []) said_by-end
rows_said inputs outputs (row ∷ rows) some h = ap (λ s. s ∷ map said_by (map row_line rows ++ end_line ∷ [])) (row_says inputs outputs row some h.0) ∙ ap (λ ss. GivesRow (row_digits row) ∷ ss) (rows_said inputs outputs rows some h.1)

-- the lines of a plain text that are looked at
abbrev pub plain_lines : Plain → List Line
plain_lines plain = head_line (codes ".i ") plain.inputs ∷ head_line (codes ".o ") plain.outputs ∷ (map row_line plain.rows ++ end_line ∷ [])

abbrev pub plain_said : Plain → List Said
plain_said plain = GivesInputs (Some plain.inputs) ∷ GivesOutputs (Some plain.outputs) ∷ (rows_say plain.rows ++ Ends ∷ [])

pub lines_read-plain : (plain : Plain) (bytes more : List ℕ) → IsPlain plain → lines_of bytes ≡ head_line (codes ".i ") plain.inputs ∷ head_line (codes ".o ") plain.outputs ∷ (map row_line plain.rows ++ end_line ∷ lines_of more) → lines_read bytes ≡ plain_lines plain
lines_read-plain plain bytes more p e =
    ap through_end e
    ∙ ap (λ s. head_line (codes ".i ") plain.inputs ∷ cond (is_end s) [] (through_end (head_line (codes ".o ") plain.outputs ∷ (map row_line plain.rows ++ end_line ∷ lines_of more)))) (said_by-inputs plain.inputs (few_inputs plain p))
    ∙ ap (λ s. head_line (codes ".i ") plain.inputs ∷ head_line (codes ".o ") plain.outputs ∷ cond (is_end s) [] (through_end (map row_line plain.rows ++ end_line ∷ lines_of more))) (said_by-outputs plain.outputs (few_outputs plain p))
    ∙ ap (λ ls. head_line (codes ".i ") plain.inputs ∷ head_line (codes ".o ") plain.outputs ∷ ls) (through_rows plain.inputs plain.outputs plain.rows (lines_of more) p.some_inputs (recursion_from_All (IsRow plain.inputs plain.outputs) plain.rows p.rows))

pub said_in-plain : (plain : Plain) (bytes : List ℕ) → IsPlain plain → lines_read bytes ≡ plain_lines plain → said_in bytes ≡ plain_said plain
said_in-plain plain bytes p e =
    ap (map said_by) e
    ∙ ap (λ s. s ∷ said_by (head_line (codes ".o ") plain.outputs) ∷ map said_by (map row_line plain.rows ++ end_line ∷ [])) (said_by-inputs plain.inputs (few_inputs plain p))
    ∙ ap (λ s. GivesInputs (Some plain.inputs) ∷ s ∷ map said_by (map row_line plain.rows ++ end_line ∷ [])) (said_by-outputs plain.outputs (few_outputs plain p))
    ∙ ap (λ ss. GivesInputs (Some plain.inputs) ∷ GivesOutputs (Some plain.outputs) ∷ ss) (rows_said plain.inputs plain.outputs plain.rows p.some_inputs (recursion_from_All (IsRow plain.inputs plain.outputs) plain.rows p.rows))

-- what is given by the lines of a plain text
pub first_none : {X : Type 0} (says : Said → Option X) → ((digits : List ℕ) → says (GivesRow digits) ≡ None) → says Ends ≡ None → (rows : List RowText) → first_said says (rows_say rows ++ Ends ∷ []) ≡ None
first_none says row end [] = ap (λ o. either_of o None) end
first_none says row end (r ∷ rows) = ap (λ o. either_of o (first_said says (rows_say rows ++ Ends ∷ []))) (row (row_digits r)) ∙ first_none says row end rows

pub rows_of-plain : (rows : List RowText) → rows_of (rows_say rows ++ Ends ∷ []) ≡ map row_digits rows
rows_of-plain [] = refl
rows_of-plain (r ∷ rows) = ap (λ w. row_digits r ∷ w) (rows_of-plain rows)

one_more : (o : Option (List ℕ)) (rows : List (List ℕ)) (n : ℕ) → length rows ≤ n → length (cons_option o rows) ≤ suc n
one_more None rows n h = omega arith
one_more (Some d) rows n h = omega arith

pub rows_few : (ss : List Said) → length (rows_of ss) ≤ length ss
rows_few [] = omega arith
rows_few (s ∷ ss) = one_more (row_said s) (rows_of ss) (length ss) (rows_few ss)

in_range : (most n : ℕ) → 1 ≤ n → n ≤ most → is_within most (Some n) ≡ true
in_range most n some few = ap (λ b. b && nat_le n most) (yes 1 n some) ∙ yes n most few where
  yes : (a b : ℕ) → a ≤ b → nat_le a b ≡ true
  yes a b h = elim (leb_tells a b) [ inl t ↦ t.0 | inr f ↦ let gt = f.1 in absurd (omega arith) ]

pub number_clear : (most n : ℕ) (beyond : LineFault) → 1 ≤ n → n ≤ most → number_fault false false (Some n) most beyond ≡ None
number_clear most n beyond some few = ap (λ b. first_of ((not b, beyond) ∷ [])) (in_range most n some few)

digits_pass : (digits : List ℕ) → AllByRecursion IsDigit digits → list_all is_input_digit digits ≡ true
digits_pass [] h = refl
digits_pass (d ∷ ds) h = ap (λ b. b && list_all is_input_digit ds) (one d h.0) ∙ digits_pass ds h.1 where
  one : (d : ℕ) → IsDigit d → is_input_digit d ≡ true
  one d (inl e) = ap is_input_digit e
  one d (inr (inl e)) = ap is_input_digit e
  one d (inr (inr e)) = ap is_input_digit e

marks_pass : (marks : List ℕ) → AllByRecursion IsDigit marks → list_all is_output_digit marks ≡ true
marks_pass [] h = refl
marks_pass (d ∷ ds) h = ap (λ b. b && list_all is_output_digit ds) (one d h.0) ∙ marks_pass ds h.1 where
  one : (d : ℕ) → IsDigit d → is_output_digit d ≡ true
  one d (inl e) = ap is_output_digit e
  one d (inr (inl e)) = ap is_output_digit e
  one d (inr (inr e)) = ap is_output_digit e

pub row_clear : (inputs outputs before : ℕ) (row : RowText) → IsRow inputs outputs row → before < 65536 → row_fault true inputs outputs before (row_digits row) ≡ None
row_clear inputs outputs before row h few =
    let many : (length (row_digits row) == inputs + outputs) ≡ true = (Decides-eqb _ _).1 (let a = h.digits in let b = h.marks in omega (arith, length-append row.digits row.marks)) in
    let good : are_digits inputs (row_digits row) ≡ true =
    ap (λ w. list_all is_input_digit w && list_all is_output_digit (drop inputs (row_digits row))) (take_at row.digits row.marks inputs h.digits)
    ∙ ap (λ w. list_all is_input_digit row.digits && list_all is_output_digit w) (drop_at row.digits row.marks inputs h.digits)
    ∙ ap (λ b. b && list_all is_output_digit row.marks) (digits_pass row.digits (recursion_from_All IsDigit row.digits h.all_digits)) ∙ marks_pass row.marks (recursion_from_All IsDigit row.marks h.all_marks) in
    ap (λ b. first_of ((not b, RowLength) ∷ (not (are_digits inputs (row_digits row)), BadDigit) ∷ (nat_le 65536 before, TooManyRows) ∷ [])) many
    ∙ ap (λ b. first_of ((not b, BadDigit) ∷ (nat_le 65536 before, TooManyRows) ∷ [])) good
    ∙ elim (leb_tells 65536 before) [ inl t ↦ let ge = t.1 in absurd (omega arith) | inr f ↦ ap (λ b. first_of ((b, TooManyRows) ∷ [])) f.0 ]
