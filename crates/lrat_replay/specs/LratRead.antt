-- What an LRAT text says.
use Rattle.std.specs.Prelude.{ℕ, nat_lt, Bool, not, cond, ◌&&◌, ◌||◌, List, [], ◌∷◌, ◌++◌, codes, map, Some, None, Result, Ok, Err, ℤ, pos, neg_ℤ}
use Rattle.std.specs.declared.option.Option.{Option}
use Rattle.std.specs.Option.{option_map, is_some}
use Rattle.std.specs.List.{slice_split, list_all}
use Rattle.std.specs.Str.{bytes_eq}
use Rattle.clause_core.specs.declared.number.Number.{Number}
use Rattle.clause_core.specs.Number.{number_of, is_zero}
use Rattle.clause_core.specs.Text.{Row, rows_in, words_of}
use Rattle.clause_core.specs.CnfRead.{literal_from}
use Rattle.lrat_replay.specs.declared.refusal.LratRefusal.{LratRefusal}
use Rattle.lrat_replay.specs.declared.refusal.LratRefusal.TheVariants.{Word, Form}
use Rattle.lrat_replay.specs.declared.line.Line.{Line}
use Rattle.lrat_replay.specs.declared.line.LineKind.{LineKind}
use Rattle.lrat_replay.specs.declared.line.LineKind.TheVariants.{Add, Delete}

abbrev pub if_small : Option Number → Option Number
if_small None = None
if_small (Some n) = cond (nat_lt n.magnitude 2147483648) (Some n) None

-- a signed number whose magnitude is below 2 ^ 31
abbrev pub small_number : List ℕ → Option Number
small_number word = if_small (number_of word)

abbrev pub value_of : Number → ℤ
value_of n = cond n.negative (neg_ℤ (pos n.magnitude)) (pos n.magnitude)

-- the mark of a deletion
abbrev pub is_mark : List ℕ → Bool
is_mark word = bytes_eq word (codes "d")

abbrev pub is_lrat_word : List ℕ → Bool
is_lrat_word word = is_mark word || is_some (small_number word)

abbrev pub both : Option Number → Option (List Number) → Option (List Number)
both None numbers = None
both (Some n) None = None
both (Some n) (Some numbers) = Some (n ∷ numbers)

-- the numbers that the words are, where each is one
abbrev pub numbers_in : List (List ℕ) → Option (List Number)
numbers_in [] = Some []
numbers_in (word ∷ words) = both (small_number word) (numbers_in words)

-- the numbers, cut at each 0
abbrev pub cut_in : List (List ℕ) → Option (List (List Number))
cut_in words = option_map (slice_split is_zero) (numbers_in words)

-- literals, a 0, hints, a 0, and nothing more
abbrev pub addition_from : ℕ → Option (List (List Number)) → Option LineKind
addition_from id None = None
addition_from id (Some []) = None
addition_from id (Some (lits ∷ [])) = None
addition_from id (Some (lits ∷ hints ∷ [])) = None
addition_from id (Some (lits ∷ hints ∷ [] ∷ [])) = Some (Add (record { id = id; clause = map literal_from lits; hints = map value_of hints }))
addition_from id (Some (lits ∷ hints ∷ [] ∷ more ∷ pieces)) = None
addition_from id (Some (lits ∷ hints ∷ (n ∷ ns) ∷ pieces)) = None

-- identifiers, a 0, and nothing more
abbrev pub deletion_from : Option (List (List Number)) → Option LineKind
deletion_from None = None
deletion_from (Some []) = None
deletion_from (Some (ids ∷ [])) = None
deletion_from (Some (ids ∷ [] ∷ [])) = Some (Delete (map value_of ids))
deletion_from (Some (ids ∷ [] ∷ more ∷ pieces)) = None
deletion_from (Some (ids ∷ (n ∷ ns) ∷ pieces)) = None

-- behind the first number: a deletion where the mark is next
abbrev pub behind : ℕ → List (List ℕ) → Option LineKind
behind id [] = None
behind id (word ∷ words) = cond (is_mark word) (deletion_from (cut_in words)) (addition_from id (cut_in (word ∷ words)))

-- the identifier at the front is at least 1
abbrev pub front_of : Option Number → Option ℕ
front_of None = None
front_of (Some n) = cond (not n.negative && not (is_zero n)) (Some n.magnitude) None

abbrev pub kind_from : Option ℕ → List (List ℕ) → Option LineKind
kind_from None words = None
kind_from (Some id) words = behind id words

-- the addition or the deletion that the words of a line are
abbrev pub kind_of : List (List ℕ) → Option LineKind
kind_of [] = None
kind_of (word ∷ words) = kind_from (front_of (small_number word)) words

-- a line that is neither has a word that no line has, or not the form
abbrev pub line_from : ℕ → List (List ℕ) → Option LineKind → Result Line LratRefusal
line_from number words None = cond (list_all is_lrat_word words) (Err (Form number)) (Err (Word number))
line_from number words (Some kind) = Ok (record { number = number; what = kind })

abbrev pub line_of : Row → Result Line LratRefusal
line_of row = line_from row.number (words_of row.bytes) (kind_of (words_of row.bytes))

abbrev pub before : Result Line LratRefusal → Result (List Line) LratRefusal → Result (List Line) LratRefusal
before (Err refusal) later = Err refusal
before (Ok line) (Err refusal) = Err refusal
before (Ok line) (Ok lines) = Ok (line ∷ lines)

-- the lines, or the first refusal
abbrev pub lines_say : List Row → Result (List Line) LratRefusal
lines_say [] = Ok []
lines_say (row ∷ rows) = before (line_of row) (lines_say rows)

abbrev pub lrat_of : List ℕ → Result (List Line) LratRefusal
lrat_of text = lines_say (rows_in 1 text)

-- these before those
abbrev pub onto : {X : Type 0} → List X → Option (List X × List (List ℕ)) → Option (List X × List (List ℕ))
onto xs None = None
onto xs (Some found) = Some (xs ++ found.0, found.1)

abbrev pub until_from : {X : Type 0} → (Number → X) → Option Number → List (List ℕ) → Option (List X × List (List ℕ)) → Option (List X × List (List ℕ))
until_from f None words later = None
until_from f (Some n) words later = cond (is_zero n) (Some ([], words)) (onto (f n ∷ []) later)

-- what the numbers before the first 0 are, and the words behind it
abbrev pub until : {X : Type 0} → (Number → X) → List (List ℕ) → Option (List X × List (List ℕ))
until f [] = None
until f (word ∷ words) = until_from f (small_number word) words (until f words)
