-- What each word does to `clap`'s walk over the words of a row of the table.
use Rattle.std.proofs.Common.{◌≡◌, ◌∙◌, ℕ, ◌&&◌, ◌||◌, ◌==◌, Bool, cond, true, false, not, refl, ap, List, [], ◌∷◌, ◌++◌, map, Option, Some, None, codes, pos}
use Rattle.std.specs.Prelude.{fold}
use Rattle.std.specs.Str.{bytes_eq}
use Rattle.std.specs.List.{list_any}
use Rattle.clap.specs.Lexer.{long_of, short_of}
use Rattle.clap.specs.Kinds.{Kinds, check_kinds, or_else}
use Rattle.std.proofs.lemmas.List.{append-nil}
use Rattle.clap.specs.ValueTests.{is_signed_in}
use Rattle.clap.specs.Takes.{is_given}
use Rattle.clap.specs.declared.builder.value_parser.Reading.{Reading}
use Rattle.clap.specs.declared.builder.value_parser.Reading.TheVariants.{AsWritten, WithoutMinus}
use Rattle.clap.specs.declared.parser.matches.ValueSource.TheVariants.{CommandLine}
use Rattle.clap.specs.declared.error.kind.ErrorKind.TheVariants.{ArgumentConflict, ValueValidation}
use Rattle.clap.specs.Faults.{check_fault, defaults_fault, settle_fault, turn_fault, walk_fault}
use Rattle.clap.specs.Walk.{Held, Row, Rule, Text, Walk, arg_by_id, arg_by_index, arg_by_long, finished, idle, is_pending, option, settled, settled_rows, walked, at_row, has_row, more_values, pushed, with_default, with_values, without}
use Rattle.clap.specs.Simple.{Shape}
use Rattle.four_lattice.specs.Words.{Row as TableRow, Setting}
use Rattle.four_lattice.specs.WordsParts.{bare_app}
use Rattle.four_lattice.proofs.WordsRules.{file_built, files_built, option_built, rules_built}

-- a row's command as building leaves it
abbrev pub shape : Text → TableRow → Shape
shape name row = record (bare_app name).top { rules = rules_built row; disable_help_subcommand = true; is_built = true }

-- no kind of error
abbrev pub quiet : Kinds → Bool
quiet [] = true
quiet (k ∷ ks) = false

-- nothing is wrong at the end of the words
abbrev pub ends : Shape → Held → Bool
ends s h = quiet (settle_fault s.rules false h) && (quiet (defaults_fault (settled s.rules h).rows s.rules) && quiet (check_fault s (finished s.rules h) false))

-- nothing is wrong with the words, and at their end
abbrev pub passes : Shape → Walk → List Text → Bool
passes s w words = quiet (walk_fault s [] w words) && ends s (fold (walked s.rules []) w words).held

pub quiet-or_else : (a b : Kinds) → quiet (or_else a b) ≡ (quiet a && quiet b)
quiet-or_else [] b = refl
quiet-or_else (k ∷ ks) b = refl

and_assoc : (a b c : Bool) → ((a && b) && c) ≡ (a && (b && c))
and_assoc true b c = refl
and_assoc false b c = refl

pub passes-none : (s : Shape) (w : Walk) → passes s w [] ≡ ends s w.held
unfolding walk_fault
passes-none s w = refl

pub passes-word : (s : Shape) (w : Walk) (word : Text) (rest : List Text) → passes s w (word ∷ rest) ≡ (quiet (turn_fault s [] w word) && passes s (walked s.rules [] w word) rest)
unfolding walk_fault
passes-word s w word rest =
    ap (λ b. b && ends s (fold (walked s.rules []) w (word ∷ rest)).held) (quiet-or_else (turn_fault s [] w word) (walk_fault s [] (walked s.rules [] w word) rest))
    ∙ and_assoc (quiet (turn_fault s [] w word)) _ _

abbrev pub held : List Row → Option (Text × List Text) → Held
held rows pending = record { rows = rows; pending = pending; skip = 0 }

-- the walk between two words, at a position, and while an option waits for its number
abbrev pub stage : List Row → Option (Text × List Text) → ℕ → Walk
stage rows pending position = record { held = held rows pending; waiting = idle; position = position; is_trailing = false; stopped = None }

abbrev pub waits_for : List Row → Text → Walk
waits_for rows id = record { held = held rows (Some (id, [])); waiting = option id; position = 1; is_trailing = false; stopped = None }

-- ---- the name of an option

pub turn-unknown : (name : Text) (row : TableRow) (rows : List Row) (p : Option (Text × List Text)) (word id : Text) → bytes_eq word (45 ∷ 45 ∷ []) ≡ false → long_of word ≡ Some (id, None)
    → arg_by_long (rules_built row) id ≡ None → quiet (turn_fault (shape name row) [] (stage rows p 1) word) ≡ false
turn-unknown name row rows p word id some long known = rw (some, long, known) refl

pub turn-known : (name : Text) (row : TableRow) (rows : List Row) (p : Option (Text × List Text)) (word id : Text) (o : Setting) → bytes_eq word (45 ∷ 45 ∷ []) ≡ false → long_of word ≡ Some (id, None)
    → arg_by_long (rules_built row) id ≡ Some (option_built o)
    → quiet (turn_fault (shape name row) [] (stage rows p 1) word) ≡ quiet (settle_fault (rules_built row) false (held rows p))
turn-known name row rows p word id o some long known = rw (some, long, known) (quiet-or_else _ [] ∙ and_true _)
  where
    and_true : (b : Bool) → (b && true) ≡ b
    and_true true = refl
    and_true false = refl

pub walked-known : (row : TableRow) (rows : List Row) (p : Option (Text × List Text)) (word id : Text) (o : Setting) → bytes_eq word (45 ∷ 45 ∷ []) ≡ false → long_of word ≡ Some (id, None)
    → arg_by_long (rules_built row) id ≡ Some (option_built o)
    → walked (rules_built row) [] (stage rows p 1) word ≡ waits_for (settled_rows (rules_built row) p rows) o.name
unfolding walked
walked-known row rows p word id o some long known = rw (some, long, known) refl

-- ---- a word with no `-` in front

no_flags : (b : ℕ) (bytes : Text) → (b == 45) ≡ false → short_of (b ∷ bytes) ≡ None
no_flags b bytes minus = rw minus refl

-- the number of an option
pub turn-number : (name : Text) (row : TableRow) (rows : List Row) (o : Setting) (b : ℕ) (bytes : Text) → (b == 45) ≡ false
    → quiet (turn_fault (shape name row) [] (waits_for rows o.name) (b ∷ bytes)) ≡ true
turn-number name row rows o b bytes minus = rw (minus, no_flags b bytes minus) refl

pub walked-number : (row : TableRow) (rows : List Row) (o : Setting) (b : ℕ) (bytes : Text) → (b == 45) ≡ false
    → arg_by_id (rules_built row) o.name ≡ Some (option_built o) → bytes_eq o.name o.name ≡ true
    → walked (rules_built row) [] (waits_for rows o.name) (b ∷ bytes) ≡ stage rows (Some (o.name, (b ∷ bytes) ∷ [])) 1
unfolding walked
walked-number row rows o b bytes minus known same = rw (minus, no_flags b bytes minus, known, same) refl

-- a plain word that no file takes
pub turn-stray : (name : Text) (row : TableRow) (rows : List Row) (p : Option (Text × List Text)) (position b : ℕ) (bytes : Text) → (b == 45) ≡ false
    → arg_by_index (rules_built row) position ≡ None
    → quiet (turn_fault (shape name row) [] (stage rows p position) (b ∷ bytes)) ≡ false
turn-stray name row rows p position b bytes minus none = rw (minus, no_flags b bytes minus, none) refl

-- the file
pub turn-file : (name : Text) (row : TableRow) (rows : List Row) (p : Option (Text × List Text)) (b : ℕ) (bytes : Text) → (b == 45) ≡ false
    → arg_by_index (rules_built row) 1 ≡ Some file_built
    → quiet (turn_fault (shape name row) [] (stage rows p 1) (b ∷ bytes)) ≡ quiet (settle_fault (rules_built row) false (held rows p))
turn-file name row rows p b bytes minus file = rw (minus, no_flags b bytes minus, file) (never (is_pending file_built p) (settle_fault (rules_built row) false (held rows p)))
  where
    never : (t : Bool) (ks : Kinds) → quiet (cond (t && false) [] ks) ≡ quiet ks
    never true ks = refl
    never false ks = refl

pub walked-file : (row : TableRow) (rows : List Row) (p : Option (Text × List Text)) (b : ℕ) (bytes : Text) → (b == 45) ≡ false
    → arg_by_index (rules_built row) 1 ≡ Some file_built
    → walked (rules_built row) [] (stage rows p 1) (b ∷ bytes) ≡ stage (settled_rows (rules_built row) p rows) (Some (codes "FILE", (b ∷ bytes) ∷ [])) 2
unfolding walked
walked-file row rows p b bytes minus file =
    rw (minus, no_flags b bytes minus, file) (ap after (never (is_pending file_built p) (held rows p) (settled (rules_built row) (held rows p))))
  where
    after : Held → Walk
    after h = record { held = pushed (codes "FILE") (b ∷ bytes) h; waiting = idle; position = 2; is_trailing = false; stopped = None }

    never : (t : Bool) (h other : Held) → cond (t && false) h other ≡ other
    never true h other = refl
    never false h other = refl

-- ---- what is settled

-- the row of an option that was given its number as text
abbrev pub shown : Text × Text → Row
shown p = record { id = p.0; values = p.1 ∷ []; count = None; source = Some CommandLine; reading = WithoutMinus }

abbrev pub shown_file : Text → Row
shown_file text = record { id = codes "FILE"; values = text ∷ []; count = None; source = Some CommandLine; reading = AsWritten }

at_no_row : (id : Text) (change : Row → List Row) (missing rows : List Row) → has_row id rows ≡ false → at_row id change missing rows ≡ rows ++ missing
at_no_row id change missing [] none = refl
at_no_row id change missing (r ∷ rows) none = go (bytes_eq r.id id) (has_row id rows) none (at_no_row id change missing rows)
  where
    go : (b rest : Bool) → (b || rest) ≡ false → (rest ≡ false → at_row id change missing rows ≡ rows ++ missing)
        → cond b (change r ++ rows) (r ∷ at_row id change missing rows) ≡ r ∷ (rows ++ missing)
    go true rest e later = cc
    go false rest e later = ap (λ (l : List Row). r ∷ l) (later e)

added : (id : Text) (how : Reading) (text : Text) (rows : List Row) → has_row id rows ≡ false
    → with_values id how CommandLine (text ∷ []) (without id rows) ≡ rows ++ record { id = id; values = text ∷ []; count = None; source = Some CommandLine; reading = how } ∷ []
added id how text rows none =
    let same : without id rows ≡ rows = at_no_row id (λ _. []) [] rows none ∙ append-nil rows in
    ap (with_values id how CommandLine (text ∷ [])) same ∙ at_no_row id (more_values CommandLine (text ∷ [])) _ rows none

pub settled-option : (row : TableRow) (rows : List Row) (o : Setting) (text : Text) → arg_by_id (rules_built row) o.name ≡ Some (option_built o) → has_row o.name rows ≡ false
    → settled_rows (rules_built row) (Some (o.name, text ∷ [])) rows ≡ rows ++ shown (o.name, text) ∷ []
settled-option row rows o text known none = rw known (added o.name WithoutMinus text rows none)

pub settled-file : (row : TableRow) (rows : List Row) (text : Text) → arg_by_id (rules_built row) (codes "FILE") ≡ Some file_built → has_row (codes "FILE") rows ≡ false
    → settled_rows (rules_built row) (Some (codes "FILE", text ∷ [])) rows ≡ rows ++ shown_file text ∷ []
settled-file row rows text known none = rw known (added (codes "FILE") AsWritten text rows none)

-- an option may be given where it was not, and where its parser takes the text
pub settle_fault-option : (row : TableRow) (rows : List Row) (o : Setting) (text : Text) → arg_by_id (rules_built row) o.name ≡ Some (option_built o)
    → quiet (settle_fault (rules_built row) false (held rows (Some (o.name, text ∷ [])))) ≡ (not (has_row o.name rows) && is_signed_in (pos o.least) (pos o.most) text)
settle_fault-option row rows o text known = rw known (go (has_row o.name rows) (is_signed_in (pos o.least) (pos o.most) text))
  where
    go : (has good : Bool) → quiet (or_else (cond (has && true) (ArgumentConflict ∷ []) []) (or_else (cond good [] (ValueValidation ∷ [])) [])) ≡ (not has && good)
    go true good = refl
    go false true = refl
    go false false = refl

pub settle_fault-file : (row : TableRow) (rows : List Row) (text : Text) → arg_by_id (rules_built row) (codes "FILE") ≡ Some file_built → has_row (codes "FILE") rows ≡ false
    → quiet (settle_fault (rules_built row) false (held rows (Some (codes "FILE", text ∷ [])))) ≡ true
settle_fault-file row rows text known none = rw (known, none) refl

-- ---- the end of the words

-- no argument has a default
no_default : (b : Bool) (rows : List Row) → cond b rows rows ≡ rows
no_default true rows = refl
no_default false rows = refl

finished-files : (wants_file : Bool) (rows : List Row) → fold with_default rows (files_built wants_file) ≡ rows
finished-files true rows = no_default (has_row (codes "FILE") rows) rows
finished-files false rows = refl

finished-rules : (os : List Setting) (fs : List Rule) (rows : List Row) → fold with_default rows fs ≡ rows → fold with_default rows (map option_built os ++ fs) ≡ rows
finished-rules [] fs rows e = e
finished-rules (o ∷ os) fs rows e = ap (λ (r : List Row). fold with_default r (map option_built os ++ fs)) (no_default (has_row o.name rows) rows) ∙ finished-rules os fs rows e

pub finished-is : (row : TableRow) (h : Held) → finished (rules_built row) h ≡ (settled (rules_built row) h).rows
finished-is row h = finished-rules row.options _ _ (finished-files row.wants_file _)

or-true : (b : Bool) (ks : Kinds) → cond (b || true) [] ks ≡ []
or-true true ks = refl
or-true false ks = refl

defaults-files : (wants_file : Bool) (rows : List Row) → defaults_fault rows (files_built wants_file) ≡ []
unfolding defaults_fault
defaults-files true rows = rw (or-true (has_row (codes "FILE") rows)) refl
defaults-files false rows = refl

defaults-rules : (os : List Setting) (fs : List Rule) (rows : List Row) → defaults_fault rows fs ≡ [] → defaults_fault rows (map option_built os ++ fs) ≡ []
unfolding defaults_fault
defaults-rules [] fs rows e = e
defaults-rules (o ∷ os) fs rows e = rw (or-true (has_row o.name rows), no_default (has_row o.name rows)) (defaults-rules os fs rows e)

defaults-none : (row : TableRow) (rows : List Row) → defaults_fault rows (rules_built row) ≡ []
defaults-none row rows = defaults-rules row.options _ rows (defaults-files row.wants_file rows)

check-rules : (os : List Setting) (fs : List Rule) (rows : List Row)
    → list_any (λ a. a.required && not (is_given a.id rows)) (map option_built os ++ fs) ≡ list_any (λ (a : Rule). a.required && not (is_given a.id rows)) fs
check-rules [] fs rows = refl
check-rules (o ∷ os) fs rows = check-rules os fs rows

-- what is asked for at the end is the file
check_fault-is : (name : Text) (row : TableRow) (rows : List Row) → quiet (check_fault (shape name row) rows false) ≡ (not row.wants_file || is_given (codes "FILE") rows)
check_fault-is name row rows = rw (check-rules row.options (files_built row.wants_file) rows) (go row.wants_file)
  where
    test : (given : Bool) → quiet (check_kinds false false (not given || false)) ≡ given
    test true = refl
    test false = refl

    go : (wants_file : Bool) → quiet (check_kinds false false (list_any (λ (a : Rule). a.required && not (is_given a.id rows)) (files_built wants_file)))
        ≡ (not wants_file || is_given (codes "FILE") rows)
    go true = test (is_given (codes "FILE") rows)
    go false = refl

-- nothing is wrong at the end where what is pending may be settled, and the file is there where it is wanted
pub ends-is : (name : Text) (row : TableRow) (rows : List Row) (p : Option (Text × List Text))
    → ends (shape name row) (held rows p) ≡ (quiet (settle_fault (rules_built row) false (held rows p)) && (not row.wants_file || is_given (codes "FILE") (settled_rows (rules_built row) p rows)))
ends-is name row rows p = rw (defaults-none row (settled_rows (rules_built row) p rows), finished-is row (held rows p), check_fault-is name row (settled_rows (rules_built row) p rows)) refl
