-- What a CNF text says.
use Rattle.std.specs.Prelude.{ℕ, ◌==◌, nat_lt, nat_le, Bool, false, cond, ◌&&◌, ◌||◌, List, [], ◌∷◌, ◌++◌, length, slice_index, codes, map, Some, None, Result, Ok, Err, option_to_list}
use Rattle.std.specs.declared.option.Option.{Option}
use Rattle.std.specs.Option.{option_map_or}
use Rattle.std.specs.List.{slice_split, flat_map, list_all}
use Rattle.std.specs.Str.{bytes_eq}
use Rattle.clause_core.specs.declared.refusal.CnfRefusal.{CnfRefusal}
use Rattle.clause_core.specs.declared.refusal.CnfRefusal.TheVariants.{Header, Literal, Count, Unended, TooLong, TooLarge}
use Rattle.clause_core.specs.declared.number.Number.{Number}
use Rattle.clause_core.specs.declared.read.Head.{Head}
use Rattle.clause_core.specs.Literal as literal
use Rattle.clause_core.specs.Formula.{Formula, most_clauses}
use Rattle.clause_core.specs.Number.{digits_of, number_of, is_zero}
use Rattle.clause_core.specs.Text.{Row, rows_in, words_of, last_line}

-- the value of 1 to 10 digits, where it is below 2 ^ 31
abbrev pub small : Option ℕ → Option ℕ
small None = None
small (Some n) = cond (nat_lt n 2147483648) (Some n) None

abbrev pub count_of : List ℕ → Option ℕ
count_of word = small (digits_of word)

abbrev pub head_from : Option ℕ → Option ℕ → Option Head
head_from None clauses = None
head_from (Some v) None = None
head_from (Some v) (Some c) = Some (record { vars = v; clauses = c })

-- the words of a header: p cnf, and two counts
abbrev pub header_of : List (List ℕ) → Option Head
header_of [] = None
header_of (p ∷ []) = None
header_of (p ∷ cnf ∷ []) = None
header_of (p ∷ cnf ∷ v ∷ []) = None
header_of (p ∷ cnf ∷ v ∷ c ∷ []) = cond (bytes_eq p (codes "p") && bytes_eq cnf (codes "cnf")) (head_from (count_of v) (count_of c)) None
header_of (p ∷ cnf ∷ v ∷ c ∷ more ∷ words) = None

abbrev pub is_too_large : Head → Bool
is_too_large head = nat_lt 16777216 head.vars || nat_lt most_clauses head.clauses

-- a word is a signed number whose magnitude is not above the variables
abbrev pub is_in_range : ℕ → List ℕ → Bool
is_in_range vars word = option_map_or (λ n. nat_le n.magnitude vars) (number_of word) false

-- what a line behind the header is refused for
abbrev pub row_fault : ℕ → Row → Option CnfRefusal
row_fault vars row = cond (slice_index row.bytes 0 == 112) (Some (Header row.number)) (cond (list_all (is_in_range vars) (words_of row.bytes)) None (Some (Literal row.number)))

abbrev pub or_else : Option CnfRefusal → Option CnfRefusal → Option CnfRefusal
or_else None later = later
or_else (Some refusal) later = Some refusal

-- the first of these refusals
abbrev pub first_fault : ℕ → List Row → Option CnfRefusal
first_fault vars [] = None
first_fault vars (row ∷ rows) = or_else (row_fault vars row) (first_fault vars rows)

abbrev pub numbers_of : List (List ℕ) → List Number
numbers_of words = flat_map (λ word. option_to_list (number_of word)) words

abbrev pub words_in : List Row → List (List ℕ)
words_in [] = []
words_in (row ∷ rows) = words_of row.bytes ++ words_in rows

abbrev pub literal_from : Number → literal.Literal
literal_from n = record { var = n.magnitude; negated = n.negative }

-- numbers cut at each 0, as literals: the clauses, and last what no 0 ends
abbrev pub pieces_of : List Number → List (List literal.Literal)
pieces_of numbers = map (λ piece. map literal_from piece) (slice_split is_zero numbers)

abbrev pub all_but_last : List (List literal.Literal) → List (List literal.Literal)
all_but_last [] = []
all_but_last (piece ∷ []) = []
all_but_last (piece ∷ next ∷ pieces) = piece ∷ all_but_last (next ∷ pieces)

abbrev pub last_piece : List (List literal.Literal) → List literal.Literal
last_piece [] = []
last_piece (piece ∷ []) = piece
last_piece (piece ∷ next ∷ pieces) = last_piece (next ∷ pieces)

-- the formula of the pieces: nothing stands behind the last 0, and there are as many clauses as the header tells
abbrev pub formula_of : ℕ → Head → List (List literal.Literal) → Result Formula CnfRefusal
formula_of end head pieces = cond (length (last_piece pieces) == 0)
    (cond (length (all_but_last pieces) == head.clauses) (Ok (record { vars = head.vars; clauses = all_but_last pieces })) (Err (Count end)))
    (Err (Unended end))

-- the first refusal, or else the formula
abbrev pub unless : Option CnfRefusal → Result Formula CnfRefusal → Result Formula CnfRefusal
unless (Some refusal) formula = Err refusal
unless None formula = formula

-- the lines behind the header
abbrev pub body_of : ℕ → Head → List Row → Result Formula CnfRefusal
body_of end head rows = unless (first_fault head.vars rows) (formula_of end head (pieces_of (numbers_of (words_in rows))))

abbrev pub after_header : ℕ → ℕ → Option Head → List Row → Result Formula CnfRefusal
after_header end number None rows = Err (Header number)
after_header end number (Some head) rows = cond (is_too_large head) (Err (TooLarge number)) (body_of end head rows)

-- the first line is the header
abbrev pub rows_say : ℕ → List Row → Result Formula CnfRefusal
rows_say end [] = Err (Header end)
rows_say end (row ∷ rows) = after_header end row.number (header_of (words_of row.bytes)) rows

-- the formula of a text, or its first refusal
unfoldable pub cnf_of : List ℕ → Result Formula CnfRefusal
cnf_of text = cond (nat_lt 67108864 (length text)) (Err TooLong) (rows_say (last_line text) (rows_in 1 text))

-- clauses that were read, and a piece that is begun, before more pieces
abbrev pub joined : List (List literal.Literal) → List literal.Literal → List (List literal.Literal) → List (List literal.Literal)
joined done begun [] = done ++ begun ∷ []
joined done begun (piece ∷ pieces) = done ++ ((begun ++ piece) ∷ pieces)
