-- What `clap` answers for a row of the table is what the table says.
use Rattle.std.proofs.Common.{◌≡◌, ◌∙◌, ℕ, ◌&&◌, Bool, cond, true, false, not, refl, sym, ap, ap₂, subst, List, [], ◌∷◌, ◌++◌, map, Some, None, is_some, option_map, codes, inl, inr}
use Rattle.std.specs.Prelude.{count_by, find, IsSomeAnd, option_and_then, if◌then◌else◌}
use Rattle.std.specs.Str.{bytes_eq}
use Rattle.std.specs.Str.Parse.{digits_value}
use Rattle.std.specs.List.{list_all, list_any}
use Rattle.std.proofs.lemmas.Bool.{and_parts}
use Rattle.clap.specs.Kinds.{HasKind, IsAmong, Kinds, or_else}
use Rattle.clap.specs.Values.{kind_of}
use Rattle.clap.specs.Matches.{found_of, one_text}
use Rattle.clap.specs.Faults.{check_fault, defaults_fault, fault_of, has_free_rules, is_simple_and_free, level_fault, settle_fault, walk_fault}
use Rattle.clap.specs.Simple.{App, HasMatchesOf, Shape, built, is_in_order, is_ready, is_simple}
use Rattle.clap.specs.Walk.{Row, Rule, Text, finished, is_early_multiple, nothing_held, one_of, row_text, rows_of, settled, walk, walk_from}
use Rattle.clap.specs.declared.error.Error.{Error}
use Rattle.clap.specs.declared.error.kind.ErrorKind.TheVariants.{OutOfMemory}
use Rattle.clap.specs.declared.parser.matches.ArgMatches.{ArgMatches}
use Rattle.clap.proofs.FaultLemmas.{leaf_fault}
use Rattle.clap.proofs.WalkLemmas.{one_text-rows}
use Rattle.four_lattice.specs.Words.{Row as TableRow, Setting, given_of, is_number, number_given, is_small}
use Rattle.four_lattice.specs.WordsParts.{Shows, bare_app, file_rule, is_spelled, is_table, number_rule, row_app}
use Rattle.four_lattice.proofs.WordsNumbers.{number_without_minus}
use Rattle.four_lattice.proofs.WordsRules.{file_built, files_built, filled_rules, option_built, rules_built}
use Rattle.four_lattice.proofs.WordsTurns.{passes, quiet, quiet-or_else, shape, shown, stage}
use Rattle.four_lattice.proofs.WordsTaken.{Outcome, agrees, are_good, given_by}

-- ---- the command is one of which `clap` says all

abbrev with_rules : Text → List Rule → Shape
with_rules name rules = record (bare_app name).top { rules = rules; disable_help_subcommand = true; is_built = true }

built-is : (name : Text) (row : TableRow) → (built (row_app name row)).top ≡ shape name row
built-is name row = ap (with_rules name) (filled_rules row)

all-options : (p : Rule → Bool) (os : List Setting) (fs : List Rule) → ((o : Setting) → p (number_rule o) ≡ true) → list_all p fs ≡ true → list_all p (map number_rule os ++ fs) ≡ true
all-options p [] fs each e = e
all-options p (o ∷ os) fs each e = ap₂ (λ x y. x && y) (each o) (all-options p os fs each e)

all-built : (p : Rule → Bool) (os : List Setting) (fs : List Rule) → ((o : Setting) → p (option_built o) ≡ true) → list_all p fs ≡ true → list_all p (map option_built os ++ fs) ≡ true
all-built p [] fs each e = e
all-built p (o ∷ os) fs each e = ap₂ (λ x y. x && y) (each o) (all-built p os fs each e)

none-early : (n : ℕ) (os : List Setting) (fs : List Rule) → list_any (is_early_multiple n) fs ≡ false → list_any (is_early_multiple n) (map option_built os ++ fs) ≡ false
none-early n [] fs e = e
none-early n (o ∷ os) fs e = none-early n os fs e

files-early : (n : ℕ) (wants_file : Bool) → list_any (is_early_multiple n) (files_built wants_file) ≡ false
files-early n true = refl
files-early n false = refl

in-order : (row : TableRow) → is_in_order (rules_built row) ≡ true
in-order row =
    let n = count_by (λ (a : Rule). is_some a.index) (rules_built row) in
    ap not (none-early n row.options (files_built row.wants_file) (files-early n row.wants_file))

both-files : (p : Rule → Bool) (wants_file : Bool) → p file_rule ≡ true → list_all p (if wants_file then file_rule ∷ [] else []) ≡ true
both-files p true e = ap (λ b. b && true) e
both-files p false e = refl

both-built : (p : Rule → Bool) (wants_file : Bool) → p file_built ≡ true → list_all p (files_built wants_file) ≡ true
both-built p true e = ap (λ b. b && true) e
both-built p false e = refl

simple-row : (name : Text) (row : TableRow) → is_simple (row_app name row) ≡ true
simple-row name row =
    let given = all-options (λ a. a.is_simple) row.options (if row.wants_file then file_rule ∷ [] else []) (λ o. refl) (both-files (λ a. a.is_simple) row.wants_file refl) in
    let made = all-built (λ a. a.is_simple) row.options (files_built row.wants_file) (λ o. refl) (both-built (λ a. a.is_simple) row.wants_file refl) in
    rw given (ap (λ (s : Shape). is_ready s && true) (built-is name row) ∙ ap₂ (λ x y. (x && y) && true) made (in-order row))

free-row : (name : Text) (row : TableRow) → is_simple_and_free (row_app name row) ≡ true
free-row name row =
    let made = all-built (λ a. a.is_free) row.options (files_built row.wants_file) (λ o. refl) (both-built (λ a. a.is_free) row.wants_file refl) in
    rw (simple-row name row) (ap (λ (s : Shape). has_free_rules s && true) (built-is name row) ∙ ap (λ b. b && true) made)

-- ---- its kinds of error

fault-is : (name : Text) (row : TableRow) (words : List Text) → fault_of (row_app name row) words ≡ level_fault (shape name row) [] nothing_held words false []
fault-is name row words = leaf_fault (built (row_app name row)) nothing_held words refl ∙ ap (λ (s : Shape). level_fault s [] nothing_held words false []) (built-is name row)

all-quiet : (a b c d : Kinds) → quiet (or_else a (or_else [] (or_else b (or_else c d)))) ≡ (quiet a && (quiet b && (quiet c && quiet d)))
all-quiet [] b c d = quiet-or_else b (or_else c d) ∙ ap (λ t. quiet b && t) (quiet-or_else c d)
all-quiet (k ∷ ks) b c d = refl

quiet-is : (name : Text) (row : TableRow) (words : List Text) → quiet (fault_of (row_app name row) words) ≡ passes (shape name row) (stage [] None 1) words
quiet-is name row words = ap quiet (fault-is name row words)
    ∙ all-quiet (walk_fault (shape name row) [] (walk_from nothing_held) words) (settle_fault (rules_built row) false (walk (rules_built row) [] nothing_held words).held)
    (defaults_fault (settled (rules_built row) (walk (rules_built row) [] nothing_held words).held).rows (rules_built row))
    (check_fault (shape name row) (finished (rules_built row) (walk (rules_built row) [] nothing_held words).held) false)

-- ---- what its matches show

-- a look-up in the rows of what was given
looks : (F : List (Text × Text)) (file : List Row) (id : Text) → are_good F ≡ true → find (λ r. bytes_eq r.id id) file ≡ None
    → one_of id (map shown F ++ file) ≡ option_map (λ (p : Text × Text). p.1) (find (λ p. bytes_eq p.0 id) F)
looks [] file id good none = rw none refl
looks (p ∷ F) file id good none = go (bytes_eq p.0 id) (text p.1 (and_parts _ _ (and_parts _ _ (and_parts _ _ good).0).1).0) (looks F file id (and_parts _ _ good).1 none)
  where
    text : (t : Text) → is_number t ≡ true → row_text (shown (p.0, t)) ≡ Some t
    text [] e = cc
    text (b ∷ bytes) e = ap (λ (u : Text). Some u) (number_without_minus b bytes e)

    go : (b : Bool) → row_text (shown p) ≡ Some p.1 → one_of id (map shown F ++ file) ≡ option_map (λ (q : Text × Text). q.1) (find (λ q. bytes_eq q.0 id) F)
        → option_and_then row_text (cond b (Some (shown p)) (find (λ r. bytes_eq r.id id) (map shown F ++ file))) ≡ option_map (λ (q : Text × Text). q.1) (cond b (Some p) (find (λ q. bytes_eq q.0 id) F))
    go true here later = here
    go false here later = later

-- the numbers are those of the texts
numbers : (F : List (Text × Text)) (id : Text) → option_map (digits_value 10) (option_map (λ (p : Text × Text). p.1) (find (λ p. bytes_eq p.0 id) F)) ≡ number_given id (given_by F)
numbers [] id = refl
numbers (p ∷ F) id = go (bytes_eq p.0 id) (numbers F id)
  where
    go : (b : Bool) → option_map (digits_value 10) (option_map (λ (q : Text × Text). q.1) (find (λ q. bytes_eq q.0 id) F)) ≡ number_given id (given_by F)
        → option_map (digits_value 10) (option_map (λ (q : Text × Text). q.1) (cond b (Some p) (find (λ q. bytes_eq q.0 id) F)))
        ≡ option_map (λ (g : List ℕ × ℕ). g.1) (cond b (Some (p.0, digits_value 10 p.1)) (find (λ g. bytes_eq g.0 id) (given_by F)))
    go true later = refl
    go false later = later

all-numbers : (F : List (Text × Text)) (id text : Text) → are_good F ≡ true → option_map (λ (p : Text × Text). p.1) (find (λ p. bytes_eq p.0 id) F) ≡ Some text → is_small text ≡ true
all-numbers [] id text good e = cc
all-numbers (p ∷ F) id text good e = go (bytes_eq p.0 id) e (all-numbers F id text (and_parts _ _ good).1)
  where
    go : (b : Bool) → option_map (λ (q : Text × Text). q.1) (cond b (Some p) (find (λ q. bytes_eq q.0 id) F)) ≡ Some text
        → (option_map (λ (q : Text × Text). q.1) (find (λ q. bytes_eq q.0 id) F) ≡ Some text → is_small text ≡ true) → is_small text ≡ true
    go true found later = let same : p.1 ≡ text = cc in rw (← same) (and_parts _ _ (and_parts _ _ good).0).1
    go false found later = later found

shows-given : (F : List (Text × Text)) (file : List Row) (m : ArgMatches) → are_good F ≡ true → ((id : Text) → bytes_eq (codes "FILE") id ≡ false → find (λ r. bytes_eq r.id id) file ≡ None)
    → rows_of (found_of m) ≡ map shown F ++ file → Shows (given_by F) m
shows-given F file m good other rows = record {
  text = λ id apart. ap (option_map (digits_value 10)) (text id apart) ∙ numbers F id;
  number = λ id t apart found. all-numbers F id t good (sym (text id apart) ∙ found);
}
  where
    text : (id : Text) → bytes_eq (codes "FILE") id ≡ false → one_text (found_of m) id ≡ option_map (λ (p : Text × Text). p.1) (find (λ p. bytes_eq p.0 id) F)
    text id apart = one_text-rows (found_of m) id ∙ (ap (one_of id) rows ∙ looks F file id good (other id apart))

-- ---- all of it

outcome : (name : Text) (row : TableRow) (words : List Text) → is_table row ≡ true → is_spelled words ≡ true → Outcome name row (stage [] None 1) words (given_of row [] words)
outcome name row words table spelled = agrees name row [] None [] words table (record { settles = refl; becomes = refl; good = refl }) spelled

row_shows : (name : Text) (row : TableRow) (words : List Text) (m : ArgMatches) → is_table row ≡ true → is_spelled words ≡ true → fault_of (row_app name row) words ≡ [] → HasMatchesOf (row_app name row) words m
    → IsSomeAnd (given_of row [] words) (λ given. Shows given m)
row_shows name row words m table spelled kinds has = go (outcome name row words table spelled)
  where
    pass : passes (shape name row) (stage [] None 1) words ≡ true
    pass = sym (quiet-is name row words) ∙ ap quiet kinds

    go : Outcome name row (stage [] None 1) words (given_of row [] words) → IsSomeAnd (given_of row [] words) (λ given. Shows given m)
    go (inl t) =
        let matches = (has (simple-row name row)).0 in
        let rules = ap (λ (s : Shape). finished s.rules (walk s.rules [] nothing_held words).held) (built-is name row) in
        rw t.gives (shows-given t.F t.file m t.good t.only_file (matches ∙ (rules ∙ t.rows)))
    go (inr t) = let bad : true ≡ false = sym pass ∙ t.untaken in cc

row_refuses : (name : Text) (row : TableRow) (words : List Text) (e : Error) → is_table row ≡ true → is_spelled words ≡ true → HasKind (fault_of (row_app name row) words) e → (kind_of e ≡ OutOfMemory → ⊥)
    → given_of row [] words ≡ None
row_refuses name row words e table spelled (inl memory) other = absurd (other memory)
row_refuses name row words e table spelled (inr among) other = go (outcome name row words table spelled)
  where
    loud : (kinds : Kinds) → IsAmong (kind_of e) kinds → quiet kinds ≡ false
    loud [] none = absurd none
    loud (k ∷ kinds) some = refl

    go : Outcome name row (stage [] None 1) words (given_of row [] words) → given_of row [] words ≡ None
    go (inl t) = let bad : true ≡ false = sym t.taken ∙ (sym (quiet-is name row words) ∙ loud (fault_of (row_app name row) words) among) in cc
    go (inr t) = t.gives

-- a command that is a row of the table gives matches that show what was given
pub matches_show : (a : App) (name : Text) (row : TableRow) (words : List Text) (m : ArgMatches) → a ≡ row_app name row → is_table row ≡ true → is_spelled words ≡ true
    → (is_simple_and_free a ≡ true → fault_of a words ≡ []) → HasMatchesOf a words m → IsSomeAnd (given_of row [] words) (λ given. Shows given m)
matches_show a name row words m is table spelled kinds has =
    row_shows name row words m table spelled (ap (λ (x : App). fault_of x words) (sym is) ∙ kinds (ap is_simple_and_free is ∙ free-row name row)) (subst (λ (x : App). HasMatchesOf x words m) is has)

-- and an error that is no want of memory only where nothing can be given
pub error_refuses : (a : App) (name : Text) (row : TableRow) (words : List Text) (e : Error) → a ≡ row_app name row → is_table row ≡ true → is_spelled words ≡ true
    → (is_simple_and_free a ≡ true → HasKind (fault_of a words) e) → (kind_of e ≡ OutOfMemory → ⊥) → given_of row [] words ≡ None
error_refuses a name row words e is table spelled kinds other =
    row_refuses name row words e table spelled (subst (λ (x : App). HasKind (fault_of x words) e) is (kinds (ap is_simple_and_free is ∙ free-row name row))) other
