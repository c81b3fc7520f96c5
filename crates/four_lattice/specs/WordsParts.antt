-- For the crate's own proofs: what the parts of the reading of words say.
use Rattle.std.specs.Prelude.{◌≡◌, ◌++◌, ◌&&◌, ℕ, Bool, true, not, List, [], ◌∷◌, codes, map, Some, option_map, if◌then◌else◌, pos, false, nat_lt, ◌^◌}
use Rattle.std.specs.List.{list_all, list_any}
use Rattle.std.specs.Str.{bytes_eq}
use Rattle.std.specs.Str.Parse.{digits_value}
use Rattle.clap.specs.Words.{App, Rule, new_app, new_rule, found_of, one_text}
use Rattle.clap.specs.declared.builder.value_parser.ValueParser.TheVariants as vp
use Rattle.clap.specs.declared.parser.matches.ArgMatches.{ArgMatches}
use Rattle.four_lattice.specs.declared.words.Verb.{Verb}
use Rattle.four_lattice.specs.declared.words.Verb.TheVariants.{Pairs, Dual, Cnf, Verify, Check, Audit, Synth, Map, Renew, Trial}
use Rattle.four_lattice.specs.Words.{Row, Setting, Given, is_number, is_small, is_plain, number_given}

-- the names of all options
abbrev pub option_names : List (List ℕ)
option_names = codes "output" ∷ codes "rows" ∷ codes "cols" ∷ codes "conflicts" ∷ codes "rails" ∷ []

-- the word is `--` and a name
abbrev pub is_option : List ℕ → Bool
is_option word = list_any (λ name. bytes_eq (codes "--" ++ name) word) option_names

-- the words are options, each before its number, and then plain words
abbrev pub is_spelled : List (List ℕ) → Bool
is_spelled (word ∷ next ∷ rest) = if is_option word then is_number next && is_spelled rest else list_all is_plain (word ∷ next ∷ rest)
is_spelled words = list_all is_plain words

-- an option, and a file, as `clap` is told of them
abbrev pub number_rule : Setting → Rule
number_rule o = record (new_rule o.name) { long = Some o.name; parser = Some (vp.Signed (pos o.least) (pos o.most)) }

abbrev pub file_rule : Rule
file_rule = record (new_rule (codes "FILE")) { required = true }

-- a command with no flags of its own, which reads words from the first on
abbrev pub bare_app : List ℕ → App
bare_app name = record (new_app name) { top = record (new_app name).top { no_binary_name = true; disable_help_flag = true; disable_version_flag = true } }

-- the name of a command
abbrev pub verb_name : Verb → List ℕ
verb_name Pairs = codes "pairs"
verb_name Dual = codes "dual"
verb_name Cnf = codes "cnf"
verb_name Verify = codes "verify"
verb_name Check = codes "check"
verb_name Audit = codes "audit"
verb_name Renew = codes "renew"
verb_name Synth = codes "synth"
verb_name Map = codes "map"
verb_name Trial = codes "trial"

-- a row of the table as `clap` is told of it
abbrev pub row_rules : Row → List Rule
row_rules row = map number_rule row.options ++ (if row.wants_file then file_rule ∷ [] else [])

abbrev pub row_app : List ℕ → Row → App
row_app name row = record (bare_app name) { top = record (bare_app name).top { rules = row_rules row } }

-- The matches show what was given: each name but the file's has the text of its number.
pub record Shows (given : Given) (m : ArgMatches) : Type 0 where
  pub text : (name : List ℕ) → bytes_eq (codes "FILE") name ≡ false → option_map (digits_value 10) (one_text (found_of m) name) ≡ number_given name given
  pub number : (name text : List ℕ) → bytes_eq (codes "FILE") name ≡ false → one_text (found_of m) name ≡ Some text → is_small text ≡ true

-- each option of the row is one of the options, is not named as the file is, and has a number that fits
abbrev pub is_table : Row → Bool
is_table row = list_all (λ o. list_any (λ name. bytes_eq (codes "--" ++ name) (codes "--" ++ o.name)) option_names && (not (bytes_eq o.name (codes "FILE")) && nat_lt o.most (2 ^ 32))) row.options
