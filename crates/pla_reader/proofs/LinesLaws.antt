-- The first line of a text, and the first word of a line.
use Rattle.std.proofs.Common.{◌≡◌, ℕ, suc, zero, ◌+◌, ◌≤◌, ◌<◌, Bool, true, false, not, cond, List, [], ◌∷◌, length, take, drop, get_or, nat_lt, refl, sym, ap, ◌∙◌, arith, subst, add-one, drop-cons, length-take, length-drop, ◌-◌, Some, None}
use Rattle.std.specs.Prelude.{All, ◌==◌, filter, unwrap_or}
use Rattle.std.specs.List.{slice_split, after_first, position, position_or_len}
use Rattle.std.proofs.lemmas.List.Splits.{slice_split-cons_yes, slice_split_none, slice_split_first, length-slice_split}
use Rattle.std.proofs.lemmas.List.Sums.{prefix_len_passes, prefix_len_stops, prefix_len-le-length}
use Rattle.std.proofs.lemmas.Bool.Decides.{Decides-ltb}
use Rattle.pla_reader.specs.Lines.{lines_of, lines_of_parts, is_gap, words_of, is_some_word}

true_false : true ≡ false → ⊥
true_false e = cc

pub not_true : (b : Bool) → not b ≡ true → b ≡ false
not_true true e = sym e
not_true false e = refl

pub not_false : (b : Bool) → not b ≡ false → b ≡ true
not_false true e = refl
not_false false e = sym e

pub position_or_len-le : {X : Type 0} (p : X → Bool) (xs : List X) → position_or_len p xs ≤ length xs
position_or_len-le p xs = prefix_len-le-length (λ x. not (p x)) xs

-- the first place, or the length
pub unwrap_position : {X : Type 0} (p : X → Bool) (xs : List X) → unwrap_or (position p xs) (length xs) ≡ position_or_len p xs
unwrap_position p xs = go (nat_lt (position_or_len p xs) (length xs)) refl where
  go : (b : Bool) → nat_lt (position_or_len p xs) (length xs) ≡ b → unwrap_or (cond b (Some (position_or_len p xs)) None) (length xs) ≡ position_or_len p xs
  go true e = refl
  go false e =
      let at_most = position_or_len-le p xs in
      let not_less : position_or_len p xs < length xs → ⊥ = λ h. true_false (sym ((Decides-ltb (position_or_len p xs) (length xs)).1 h) ∙ e) in
      omega (arith, at_most, not_less)

pub take_all : (xs : List ℕ) → take (length xs) xs ≡ xs
take_all [] = refl
take_all (x ∷ xs) = ap (λ w. x ∷ w) (take_all xs)

pub drop_all : (xs : List ℕ) → drop (length xs) xs ≡ []
drop_all [] = refl
drop_all (x ∷ xs) = drop_all xs

-- the slice from a place on
pub rest_of : (xs : List ℕ) (k : ℕ) → take (length xs - k) (drop k xs) ≡ drop k xs
rest_of xs k = ap (λ n. take n (drop k xs)) (sym (length-drop k xs)) ∙ take_all (drop k xs)

-- no element passes before the first place
pub none_passes : {X : Type 0} (p : X → Bool) (xs : List X) → position_or_len p xs ≡ length xs → All (λ x. p x ≡ false) xs
none_passes p xs e = λ k d within. not_true _ (prefix_len_passes (λ x. not (p x)) xs k d (omega arith))

pub parts_some : (text : List ℕ) (parts : List (List ℕ)) → 0 < length parts → lines_of_parts (text ∷ parts) ≡ record { text = text; ended = true } ∷ lines_of_parts parts
parts_some text [] some = absurd (omega arith)
parts_some text (part ∷ parts) some = refl

-- the first line, where a line feed ends it
pub lines_of-ended : (bytes : List ℕ) (place : ℕ) → place ≡ position_or_len (λ b. b == 10) bytes → place < length bytes
    → lines_of bytes ≡ record { text = take place bytes; ended = true } ∷ lines_of (drop (place + 1) bytes)
unfolding lines_of
lines_of-ended bytes place e within =
    let first = slice_split_first (λ b. b == 10) bytes 0 (subst (λ n. n < length bytes) e within) in
    ap lines_of_parts first ∙ parts_some _ (slice_split (λ b. b == 10) (after_first (λ b. b == 10) bytes)) (let many = length-slice_split (λ b. b == 10) (after_first (λ b. b == 10) bytes) in omega (arith, many))
    ∙ ap (λ n. record { text = take n bytes; ended = true } ∷ lines_of_parts (slice_split (λ b. b == 10) (drop (n + 1) bytes))) (sym e)

-- the only line, where there is no line feed
pub lines_of-rest : (bytes : List ℕ) → position_or_len (λ b. b == 10) bytes ≡ length bytes → lines_of bytes ≡ record { text = bytes; ended = false } ∷ []
unfolding lines_of
lines_of-rest bytes e = ap lines_of_parts (slice_split_none (λ b. b == 10) bytes (none_passes (λ b. b == 10) bytes e))

-- a gap at the front goes
pub words_of-gap : (b : ℕ) (text : List ℕ) → is_gap b ≡ true → words_of (b ∷ text) ≡ words_of text
unfolding words_of
words_of-gap b text e = ap (filter is_some_word) (slice_split-cons_yes is_gap b text e)

pub words_of-gaps : (text : List ℕ) (k : ℕ) → k ≤ length text → ((i : ℕ) → i < k → is_gap (get_or text i 0) ≡ true) → words_of (drop k text) ≡ words_of text
words_of-gaps [] zero few gaps = refl
words_of-gaps [] (suc k) few gaps = absurd (omega arith)
words_of-gaps (b ∷ text) zero few gaps = refl
words_of-gaps (b ∷ text) (suc k) few gaps = words_of-gaps text k (omega arith) (λ i h. gaps (suc i) (omega arith)) ∙ sym (words_of-gap b text (gaps zero (omega arith)))

pub words_of-none : words_of [] ≡ []
unfolding words_of
words_of-none = refl

some_word : (word : List ℕ) (words : List (List ℕ)) → 0 < length word → filter is_some_word (word ∷ words) ≡ word ∷ filter is_some_word words
some_word word words some = ap (λ b. cond b (word ∷ filter is_some_word words) (filter is_some_word words)) ((Decides-ltb 0 (length word)).1 some)

-- the first word of a text that begins with one
pub words_of-word : (text : List ℕ) (place : ℕ) → place ≡ position_or_len is_gap text → 0 < place → place ≤ length text → words_of text ≡ take place text ∷ words_of (drop place text)
unfolding words_of
words_of-word text place e some within = go (nat_lt place (length text)) refl where
  go : (b : Bool) → nat_lt place (length text) ≡ b → words_of text ≡ take place text ∷ words_of (drop place text)
  go true is =
      let here : place < length text = (Decides-ltb place (length text)).0 is in
      let first = slice_split_first is_gap text 0 (subst (λ n. n < length text) e here) in
      let gap : is_gap (get_or text place 0) ≡ true = ap (λ n. is_gap (get_or text n 0)) e ∙ not_false _ (prefix_len_stops (λ b. not (is_gap b)) text 0 (subst (λ n. n < length text) e here)) in
      let front : 0 < length (take place text) = omega (arith, length-take place text) in
      let seam : drop place text ≡ get_or text place 0 ∷ drop (place + 1) text = rw add-one (drop-cons text place 0 here) in
      ap (filter is_some_word) (first ∙ ap (λ n. take n text ∷ slice_split is_gap (drop (n + 1) text)) (sym e))
      ∙ some_word (take place text) (slice_split is_gap (drop (place + 1) text)) front
      ∙ ap (λ w. take place text ∷ w) (sym (words_of-gap (get_or text place 0) (drop (place + 1) text) gap) ∙ ap words_of (sym seam))
  go false is =
      let not_less : place < length text → ⊥ = λ h. true_false (sym ((Decides-ltb place (length text)).1 h) ∙ is) in
      let whole : place ≡ length text = omega (arith, not_less) in
      ap (filter is_some_word) (slice_split_none is_gap text (none_passes is_gap text (sym e ∙ whole)))
      ∙ some_word text [] (omega arith)
      ∙ sym (ap (λ n. take n text ∷ words_of (drop n text)) whole ∙ ap (λ w. w ∷ words_of (drop (length text) text)) (take_all text) ∙ ap (λ w. text ∷ words_of w) (drop_all text))

-- a text that begins with no gap begins with a word
pub first_word-some : (text : List ℕ) → 0 < length text → is_gap (get_or text 0 0) ≡ false → 0 < position_or_len is_gap text
first_word-some [] some solid = absurd (omega arith)
first_word-some (b ∷ text) some solid = rw (ap (λ g. cond (not g) (1 + position_or_len is_gap text) 0) solid) (omega arith)

words_of-solid : (text : List ℕ) (k : ℕ) → k ≡ position_or_len (λ b. not (is_gap b)) text → words_of text ≡ words_of (drop k text)
words_of-solid text k e =
    let few = position_or_len-le (λ b. not (is_gap b)) text in
    sym (words_of-gaps text k (omega (arith, e, few)) (λ i h. not_false _ (not_true _ (prefix_len_passes (λ b. not (not (is_gap b))) text i 0 (omega (arith, e, h))))))

pub next_word-none : (text : List ℕ) (k : ℕ) (rest : List ℕ) → k ≡ position_or_len (λ b. not (is_gap b)) text → rest ≡ drop k text → length rest ≡ 0 → words_of text ≡ []
next_word-none text k [] e same empty = words_of-solid text k e ∙ ap words_of (sym same) ∙ words_of-none
next_word-none text k (b ∷ rest) e same empty = absurd (omega arith)

pub next_word-some : (text : List ℕ) (k : ℕ) (rest : List ℕ) (place : ℕ) → k ≡ position_or_len (λ b. not (is_gap b)) text → rest ≡ drop k text → 0 < length rest
    → place ≡ position_or_len is_gap rest → (0 < length (take place rest)) × (words_of text ≡ take place rest ∷ words_of (drop place rest))
next_word-some text k rest place e same some is =
    let many : length rest ≡ length text - k = ap length same ∙ length-drop k text in
    let here : k < length text = omega arith in
    let solid : is_gap (get_or text k 0) ≡ false = ap (λ n. is_gap (get_or text n 0)) e ∙ not_true _ (not_false _ (prefix_len_stops (λ b. not (not (is_gap b))) text 0 (subst (λ n. n < length text) e here))) in
    let first : get_or rest 0 0 ≡ get_or text k 0 = ap (λ w. get_or w 0 0) same ∙ ap (λ w. get_or w 0 0) (drop-cons text k 0 here) in
    let few : place ≤ length rest = subst (λ n. n ≤ length rest) (sym is) (position_or_len-le is_gap rest) in
    let long : 0 < place = subst (λ n. 0 < n) (sym is) (first_word-some rest some (ap is_gap first ∙ solid)) in
    (omega (arith, length-take place rest), words_of-solid text k e ∙ ap words_of (sym same) ∙ words_of-word rest place is long few)
