-- What the words of the command line ask for. A word is its bytes.
use Rattle.std.specs.Prelude.{ℕ, ◌==◌, ◌&&◌, ◌||◌, ◌++◌, Bool, true, false, not, List, [], ◌∷◌, length, take, drop, codes, slice_index_or, Option, Some, None, is_none, find, option_and_then, option_map, unwrap_or, nat_le, nat_lt, ◌≤◌, ◌-◌, ◌^◌, if◌then◌else◌}
use Rattle.std.specs.List.{list_all}
use Rattle.std.specs.Option.{option_map_or}
use Rattle.std.specs.Char.{is_ascii_digit}
use Rattle.std.specs.Str.{bytes_eq}
use Rattle.lattice_grid.specs.Rectangle.{Size}
use Rattle.std.specs.Str.Parse.{digits_value}
use Rattle.four_lattice.specs.declared.words.Job.{Job}
use Rattle.four_lattice.specs.declared.words.Job.TheVariants as job
use Rattle.four_lattice.specs.declared.words.Verb.{Verb}
use Rattle.four_lattice.specs.declared.words.Verb.TheVariants.{Pairs, Dual, Cnf, Verify, Check, Audit, Synth, Map, Renew, Trial}

-- a plain word is not empty, and does not begin with `-`
abbrev pub is_plain : List ℕ → Bool
is_plain [] = false
is_plain (b ∷ bytes) = not (b == 45)

-- a number is at most ten decimal digits, the first of them no `0` but in `0` itself
abbrev pub is_number : List ℕ → Bool
is_number [] = false
is_number (b ∷ bytes) = list_all is_ascii_digit (b ∷ bytes) && nat_le (length (b ∷ bytes)) 10 && (not (b == 48) || length bytes == 0)

-- an option of a command: its name, and the least and the greatest number that it takes
pub record Setting : Type 0 where
  pub name : List ℕ
  pub least : ℕ
  pub most : ℕ

-- a row of the table of commands: the options, whether a number follows them, and whether a plain word is the last
pub record Row : Type 0 where
  pub options : List Setting
  pub wants_number : Bool
  pub wants_file : Bool

-- `--output`, of 0 to 63
abbrev pub output_setting : Setting
output_setting = record { name = codes "output"; least = 0; most = 63 }

-- `--rows` and `--cols`, of 1 to 16
abbrev pub rows_setting : Setting
rows_setting = record { name = codes "rows"; least = 1; most = 16 }

abbrev pub cols_setting : Setting
cols_setting = record { name = codes "cols"; least = 1; most = 16 }

-- `--conflicts`, of 0 to 200,000, and `--rails`, of 0 to 1,048,575
abbrev pub conflicts_setting : Setting
conflicts_setting = record { name = codes "conflicts"; least = 0; most = 200000 }

abbrev pub rails_setting : Setting
rails_setting = record { name = codes "rails"; least = 0; most = 1048575 }

-- the table of commands
abbrev pub row_of : Verb → Row
row_of Pairs = record { options = output_setting ∷ []; wants_number = false; wants_file = false }
row_of Dual = record { options = output_setting ∷ []; wants_number = false; wants_file = false }
row_of Cnf = record { options = rows_setting ∷ cols_setting ∷ output_setting ∷ []; wants_number = false; wants_file = false }
row_of Verify = record { options = []; wants_number = false; wants_file = true }
row_of Check = record { options = []; wants_number = false; wants_file = true }
row_of Audit = record { options = []; wants_number = false; wants_file = true }
row_of Renew = record { options = []; wants_number = false; wants_file = true }
row_of Synth = record { options = conflicts_setting ∷ output_setting ∷ rails_setting ∷ []; wants_number = false; wants_file = true }
row_of Map = record { options = conflicts_setting ∷ output_setting ∷ []; wants_number = false; wants_file = true }
row_of Trial = record { options = conflicts_setting ∷ []; wants_number = true; wants_file = true }

-- the command that a word names
abbrev pub verb_of : List ℕ → Option Verb
verb_of word =
    if bytes_eq word (codes "pairs") then Some Pairs
    else (if bytes_eq word (codes "dual") then Some Dual
    else (if bytes_eq word (codes "cnf") then Some Cnf
    else (if bytes_eq word (codes "verify") then Some Verify
    else (if bytes_eq word (codes "check") then Some Check
    else (if bytes_eq word (codes "audit") then Some Audit
    else (if bytes_eq word (codes "renew") then Some Renew
    else (if bytes_eq word (codes "synth") then Some Synth
    else (if bytes_eq word (codes "map") then Some Map
    else (if bytes_eq word (codes "trial") then Some Trial
    else None)))))))))

-- options that were given, each a name with its number
abbrev pub Given : Type 0
Given = List (List ℕ × ℕ)

-- the number that was given for a name
abbrev pub number_given : List ℕ → Given → Option ℕ
number_given name given = option_map (λ g. g.1) (find (λ g. bytes_eq g.0 name) given)

-- the number is one that the option takes
abbrev pub is_within : Setting → ℕ → Bool
is_within o n = nat_le o.least n && nat_le n o.most

-- the word is `--` and the name of an option of the row that is not given yet, and the word after it is a number that it takes
abbrev pub may_give : Row → Given → List ℕ → List ℕ → Bool
may_give row given word next =
    option_map_or (λ o. is_none (number_given o.name given) && is_number next && is_within o (digits_value 10 next))
    (find (λ o. bytes_eq (codes "--" ++ o.name) word) row.options) false

-- what is given once the words after the command are read, where those before gave this
abbrev pub given_of : Row → Given → List (List ℕ) → Option Given
given_of row given [] = if row.wants_file then None else Some given
given_of row given (word ∷ []) = if row.wants_file && is_plain word then Some given else None
given_of row given (word ∷ next ∷ rest) = if may_give row given word next then given_of row (given ++ (drop 2 word, digits_value 10 next) ∷ []) rest else None

-- the last of some words, and those before it
abbrev pub last_of : List (List ℕ) → List ℕ
last_of words = slice_index_or words (length words - 1) []

abbrev pub but_last : List (List ℕ) → List (List ℕ)
but_last words = take (length words - 1) words

-- a number that fits 32 bits
abbrev pub is_small : List ℕ → Bool
is_small word = is_number word && nat_lt (digits_value 10 word) (2 ^ 32)

-- what the words after a command give where a number stands before the file: the last word is plain, those before it are options and one more
-- word, and this is the number
abbrev pub numbered_of : Row → List (List ℕ) → Option (Option ℕ × Given)
numbered_of row words =
    if is_plain (last_of words) && is_small (last_of (but_last words))
    then option_map (λ given. (Some (digits_value 10 (last_of (but_last words))), given)) (given_of row [] (but_last words))
    else None

-- what the words after a command give: a number where the row wants one, and options
unfoldable pub asked_by : Row → List (List ℕ) → Option (Option ℕ × Given)
asked_by row words = if row.wants_number then numbered_of row words else option_map (λ given. (None, given)) (given_of row [] words)

-- a side of a shape has 1 to 16 cells
abbrev pub is_side : ℕ → Bool
is_side n = nat_le 1 n && nat_le n 16

-- the size of so many rows and columns, where both are given
abbrev pub size_given : Option ℕ → Option ℕ → Option Size
size_given None cols = None
size_given (Some rows) None = None
size_given (Some rows) (Some cols) = if is_side rows && is_side cols then Some (record { rows = rows; cols = cols }) else None

-- `synth` of so many conflicts for a question and of these rails, where both may be
abbrev pub synth_given : ℕ → Option ℕ → ℕ → Option Job
synth_given conflicts output rails = if nat_le conflicts 200000 && nat_le rails 1048575 then Some (job.Synth conflicts output rails) else None

-- `map` of so many conflicts, where these may be
abbrev pub map_given : ℕ → ℕ → Option Job
map_given conflicts output = if nat_le conflicts 200000 then Some (job.Map conflicts output) else None

-- `trial` of so many conflicts and of a number, where the conflicts may be
abbrev pub trial_given : ℕ → Option ℕ → Option Job
trial_given conflicts None = None
trial_given conflicts (Some number) = if nat_le conflicts 200000 then Some (job.Trial conflicts number) else None

-- the job of a command for which this number and these options are given; `cnf` needs rows and columns; `cnf` and `map` take output 0, `synth`, `map` and
-- `trial` 20,000 conflicts, and `synth` all literals where they are not given
abbrev pub job_from : Verb → Option ℕ → Given → Option Job
job_from Pairs number given = Some (job.Pairs (number_given (codes "output") given))
job_from Dual number given = Some (job.Dual (number_given (codes "output") given))
job_from Cnf number given =
    option_map (job.Cnf (unwrap_or (number_given (codes "output") given) 0)) (size_given (number_given (codes "rows") given) (number_given (codes "cols") given))
job_from Verify number given = Some job.Verify
job_from Check number given = Some job.Check
job_from Audit number given = Some job.Audit
job_from Renew number given = Some job.Renew
job_from Synth number given =
    synth_given (unwrap_or (number_given (codes "conflicts") given) 20000) (number_given (codes "output") given) (unwrap_or (number_given (codes "rails") given) 1048575)
job_from Map number given = map_given (unwrap_or (number_given (codes "conflicts") given) 20000) (unwrap_or (number_given (codes "output") given) 0)
job_from Trial number given = trial_given (unwrap_or (number_given (codes "conflicts") given) 20000) number

-- the job of a list of words, of which the first is the command
abbrev pub job_of : List (List ℕ) → Option Job
job_of [] = None
job_of (word ∷ words) = option_and_then (λ verb. option_and_then (λ found. job_from verb found.0 found.1) (asked_by (row_of verb) words)) (verb_of word)

-- A shape that a job has is of at most sixteen rows and columns, and conflicts are at most 200,000.
abbrev pub IsWithinBounds : Job → Type 0
IsWithinBounds (job.Pairs output) = Unit {0}
IsWithinBounds (job.Dual output) = Unit {0}
IsWithinBounds (job.Cnf output size) = (size.rows ≤ 16) × (size.cols ≤ 16)
IsWithinBounds job.Verify = Unit {0}
IsWithinBounds job.Check = Unit {0}
IsWithinBounds job.Audit = Unit {0}
IsWithinBounds job.Renew = Unit {0}
IsWithinBounds (job.Synth conflicts output rails) = conflicts ≤ 200000
IsWithinBounds (job.Map conflicts output) = conflicts ≤ 200000
IsWithinBounds (job.Trial conflicts number) = conflicts ≤ 200000
