-- Printed lines and words are cut where they were joined.
use Rattle.std.proofs.Common.{◌≡◌, ℕ, zero, suc, ◌==◌, ◌<◌, ◌≤◌, Bool, true, false, not, cond, ◌||◌, List, [], ◌∷◌, ◌++◌, length, map, refl, sym, ap, ◌∙◌, arith, append_assoc, Some, pos}
use Rattle.std.specs.Prelude.{neg_ℤ, nat_abs, slice_index, option_to_list}
use Rattle.std.specs.List.{list_all, slice_split, onto_first, filter, AllByRecursion}
use Rattle.std.proofs.lemmas.Bool.{ne_eqb, and_parts, and_from, not-true}
use Rattle.std.proofs.lemmas.List.Folds.{list_all-append}
use Rattle.std.proofs.lemmas.List.Splits.{slice_split-cons_yes, slice_split-cons_no}
use Rattle.clause_core.specs.Literal.{Literal, signed}
use Rattle.clause_core.specs.declared.number.Number.{Number}
use Rattle.clause_core.specs.Number.{number_of, positive, is_zero}
use Rattle.clause_core.specs.Text.{lines_of, words_of, is_blank, is_some_bytes}
use Rattle.clause_core.specs.Cnf.{literal_text, literals_text}
use Rattle.clause_core.specs.CnfRead.{numbers_of, literal_from}
use Rattle.clause_core.proofs.NumberLaws.{prints, prints-blank, IsPrinted, number_from, signed_printed, number_of-signed}

abbrev pub solid : ℕ → Bool
solid b = not (is_blank b)

-- a word: it is not empty, and nothing in it separates words
pub record IsWord (word : List ℕ) : Type 0 where
  pub some : 0 < length word
  pub solid : list_all solid word ≡ true

all_weaker : (p q : ℕ → Bool) → ((b : ℕ) → p b ≡ true → q b ≡ true) → (xs : List ℕ) → list_all p xs ≡ true → list_all q xs ≡ true
all_weaker p q f [] h = refl
all_weaker p q f (x ∷ xs) h = let a = and_parts (p x) (list_all p xs) h in and_from (q x) (list_all q xs) (f x a.0) (all_weaker p q f xs a.1)

pub printed-word : (word : List ℕ) → IsPrinted word → IsWord word
printed-word word h = record { some = h.some; solid = all_weaker prints solid (λ b p. ap not (prints-blank b p)) word h.plain }

-- a word, and a separator behind it
split-word : (word : List ℕ) (b : ℕ) (rest : List ℕ) → list_all solid word ≡ true → is_blank b ≡ true → slice_split is_blank (word ++ b ∷ rest) ≡ word ∷ slice_split is_blank rest
split-word [] b rest h e = slice_split-cons_yes is_blank b rest e
split-word (x ∷ xs) b rest h e =
    let p = and_parts (solid x) (list_all solid xs) h in
    slice_split-cons_no is_blank x (xs ++ b ∷ rest) (not-true (is_blank x) p.0) ∙ ap (onto_first x) (split-word xs b rest p.1 e)

split-last : (word : List ℕ) → list_all solid word ≡ true → slice_split is_blank word ≡ word ∷ []
split-last [] h = refl
split-last (x ∷ xs) h = let p = and_parts (solid x) (list_all solid xs) h in slice_split-cons_no is_blank x xs (not-true (is_blank x) p.0) ∙ ap (onto_first x) (split-last xs p.1)

kept : (word : List ℕ) (words : List (List ℕ)) → 0 < length word → filter is_some_bytes (word ∷ words) ≡ word ∷ filter is_some_bytes words
kept [] words h = absurd (omega arith)
kept (x ∷ xs) words h = refl

pub words-next : (word rest : List ℕ) → IsWord word → words_of (word ++ 32 ∷ rest) ≡ word ∷ words_of rest
words-next word rest h = ap (filter is_some_bytes) (split-word word 32 rest h.solid refl) ∙ kept word (slice_split is_blank rest) h.some

pub words-last : (word : List ℕ) → IsWord word → words_of word ≡ word ∷ []
words-last word h = ap (filter is_some_bytes) (split-last word h.solid) ∙ kept word [] h.some

-- a line, and a line feed behind it
abbrev pub no_feed : ℕ → Bool
no_feed b = not (b == 10)

pub lines-next : (line rest : List ℕ) → list_all no_feed line ≡ true → lines_of (line ++ 10 ∷ rest) ≡ line ∷ lines_of rest
lines-next [] rest h = slice_split-cons_yes (λ b. b == 10) 10 rest refl
lines-next (x ∷ xs) rest h =
    let p = and_parts (no_feed x) (list_all no_feed xs) h in
    slice_split-cons_no (λ b. b == 10) x (xs ++ 10 ∷ rest) (not-true (x == 10) p.0) ∙ ap (onto_first x) (lines-next xs rest p.1)

pub lines-last : (line : List ℕ) → list_all no_feed line ≡ true → lines_of line ≡ line ∷ []
lines-last [] h = refl
lines-last (x ∷ xs) h = let p = and_parts (no_feed x) (list_all no_feed xs) h in slice_split-cons_no (λ b. b == 10) x xs (not-true (x == 10) p.0) ∙ ap (onto_first x) (lines-last xs p.1)

-- signs, digits and blanks
abbrev pub shows : ℕ → Bool
shows b = prints b || b == 32

pub shows-feed : (line : List ℕ) → list_all shows line ≡ true → list_all no_feed line ≡ true
shows-feed line h = all_weaker shows no_feed feed line h where
  feed : (b : ℕ) → shows b ≡ true → no_feed b ≡ true
  feed b e = ap not (ne_eqb b 10 (λ q. no (ap shows (sym q) ∙ e))) where
    no : shows 10 ≡ true → ⊥
    no h = cc

pub shows-first : (line : List ℕ) (c : ℕ) → list_all shows line ≡ true → shows c ≡ false → (0 == c) ≡ false → (slice_index line 0 == c) ≡ false
shows-first [] c h e f = f
shows-first (x ∷ xs) c h e f = ne_eqb x c (λ q. let p = and_parts (shows x) (list_all shows xs) h in no (shows c) e (ap shows (sym q) ∙ p.0)) where
  no : (b : Bool) → b ≡ false → b ≡ true → ⊥
  no b e f = cc

pub printed-shows : (word : List ℕ) → IsPrinted word → list_all shows word ≡ true
printed-shows word h = all_weaker prints shows (λ b p. left (prints b) (b == 32) p) word h.plain where
  left : (a b : Bool) → a ≡ true → (a || b) ≡ true
  left a b e = grind arith

pub shows-append : (a b : List ℕ) → list_all shows a ≡ true → list_all shows b ≡ true → list_all shows (a ++ b) ≡ true
shows-append a b h k = list_all-append shows a b ∙ and_from (list_all shows a) (list_all shows b) h k

-- literals
pub nat_abs-signed : (l : Literal) → nat_abs (signed l) ≡ l.var
nat_abs-signed l = by l.negated l.var where
  by : (b : Bool) (n : ℕ) → nat_abs (cond b (neg_ℤ (pos n)) (pos n)) ≡ n
  by true zero = refl
  by true (suc n) = refl
  by false n = refl

-- a literal of a variable from 1 to one below 2 ^ 31
abbrev pub IsSmall : Literal → Type 0
IsSmall l = (1 ≤ l.var) × (l.var < 2147483648)

pub number_from-signed : (l : Literal) → 1 ≤ l.var → number_from (signed l) ≡ record { negative = l.negated; magnitude = l.var }
number_from-signed l = by l.negated l.var where
  by : (b : Bool) (n : ℕ) → 1 ≤ n → number_from (cond b (neg_ℤ (pos n)) (pos n)) ≡ record { negative = b; magnitude = n }
  by true zero h = absurd (omega arith)
  by true (suc n) h = refl
  by false n h = refl

abbrev pub number_of_literal : Literal → Number
number_of_literal l = record { negative = l.negated; magnitude = l.var }

literal_size : (l : Literal) → IsSmall l → nat_abs (signed l) < 10000000000
literal_size l h = let e = nat_abs-signed l in let a = h.1 in omega arith

pub literal_printed : (l : Literal) → IsSmall l → IsPrinted (literal_text l)
literal_printed l h = signed_printed (signed l) (literal_size l h)

pub number_of-literal : (l : Literal) → IsSmall l → number_of (literal_text l) ≡ Some (number_of_literal l)
number_of-literal l h = number_of-signed (signed l) (literal_size l h) ∙ ap Some (number_from-signed l h.0)

pub words-literals : (clause : List Literal) (rest : List ℕ) → AllByRecursion IsSmall clause → words_of (literals_text clause ++ rest) ≡ map literal_text clause ++ words_of rest
words-literals [] rest h = refl
words-literals (l ∷ ls) rest h =
    ap words_of (append_assoc (literal_text l ++ 32 ∷ []) (literals_text ls) rest ∙ append_assoc (literal_text l) (32 ∷ []) (literals_text ls ++ rest))
    ∙ words-next (literal_text l) (literals_text ls ++ rest) (printed-word (literal_text l) (literal_printed l h.0))
    ∙ ap (λ r. literal_text l ∷ r) (words-literals ls rest h.1)

pub literals-show : (clause : List Literal) → AllByRecursion IsSmall clause → list_all shows (literals_text clause) ≡ true
literals-show [] h = refl
literals-show (l ∷ ls) h = shows-append (literal_text l ++ 32 ∷ []) (literals_text ls) (shows-append (literal_text l) (32 ∷ []) (printed-shows (literal_text l) (literal_printed l h.0)) refl) (literals-show ls h.1)

pub numbers-literals : (clause : List Literal) (words : List (List ℕ)) → AllByRecursion IsSmall clause → numbers_of (map literal_text clause ++ words) ≡ map number_of_literal clause ++ numbers_of words
numbers-literals [] words h = refl
numbers-literals (l ∷ ls) words h =
    ap (λ o. option_to_list o ++ numbers_of (map literal_text ls ++ words)) (number_of-literal l h.0) ∙ ap (λ r. number_of_literal l ∷ r) (numbers-literals ls words h.1)

-- a 0 behind literals
abbrev pub zero_number : Number
zero_number = positive 0

pub split-literals : (clause : List Literal) (later : List Number) → AllByRecursion IsSmall clause → slice_split is_zero (map number_of_literal clause ++ zero_number ∷ later) ≡ map number_of_literal clause ∷ slice_split is_zero later
split-literals [] later h = slice_split-cons_yes is_zero zero_number later refl
split-literals (l ∷ ls) later h =
    let some : is_zero (number_of_literal l) ≡ false = ne_eqb l.var 0 (λ e. let a = h.0.0 in omega arith) in
    slice_split-cons_no is_zero (number_of_literal l) (map number_of_literal ls ++ zero_number ∷ later) some ∙ ap (onto_first (number_of_literal l)) (split-literals ls later h.1)

pub literals-back : (clause : List Literal) → map literal_from (map number_of_literal clause) ≡ clause
literals-back [] = refl
literals-back (l ∷ ls) = ap (λ r. l ∷ r) (literals-back ls)
