-- What `clap` looks up in the rules of a row of the table.
use Rattle.std.proofs.Common.{◌≡◌, ◌∙◌, ℕ, ◌&&◌, ◌||◌, ◌==◌, Bool, cond, true, false, not, refl, ap, List, [], ◌∷◌, ◌++◌, map, Option, Some, None, is_some, option_map, codes}
use Rattle.std.specs.Prelude.{find, if◌then◌else◌}
use Rattle.std.specs.Str.{bytes_eq}
use Rattle.std.specs.Option.{option_map_or}
use Rattle.clap.specs.Walk.{Rule, arg_by_id, arg_by_index, arg_by_long, has_long}
use Rattle.clap.specs.Simple.{filled, filled_from, with_index}
use Rattle.four_lattice.specs.Words.{Row, Setting}
use Rattle.four_lattice.specs.WordsParts.{file_rule, number_rule, row_rules}

-- an option and a file as building leaves them
abbrev pub option_built : Setting → Rule
option_built o = filled (number_rule o)

abbrev pub file_built : Rule
file_built = with_index 1 (filled file_rule)

abbrev pub files_built : Bool → List Rule
files_built wants_file = if wants_file then file_built ∷ [] else []

abbrev pub rules_built : Row → List Rule
rules_built row = map option_built row.options ++ files_built row.wants_file

filled_options : (os : List Setting) (fs : List Rule) → filled_from 1 (map number_rule os ++ fs) ≡ map option_built os ++ filled_from 1 fs
filled_options [] fs = refl
filled_options (o ∷ os) fs = ap (λ (l : List Rule). option_built o ∷ l) (filled_options os fs)

filled_files : (wants_file : Bool) → filled_from 1 (if wants_file then file_rule ∷ [] else []) ≡ files_built wants_file
filled_files true = refl
filled_files false = refl

pub filled_rules : (row : Row) → filled_from 1 (row_rules row) ≡ rules_built row
filled_rules row = filled_options row.options _ ∙ ap (λ (l : List Rule). map option_built row.options ++ l) (filled_files row.wants_file)

-- the first option that fits is the first rule that does
find_option : (p : Rule → Bool) (q : Setting → Bool) (os : List Setting) (fs : List Rule) (o : Setting)
    → ((x : Setting) → p (option_built x) ≡ q x) → find q os ≡ Some o → find p (map option_built os ++ fs) ≡ Some (option_built o)
find_option p q [] fs o same e = cc
find_option p q (x ∷ os) fs o same e = rw (same x) (go (q x) (find q os) (find p (map option_built os ++ fs)) (find_option p q os fs o same) e)
  where
    go : (b : Bool) (rest : Option Setting) (left : Option Rule) → (rest ≡ Some o → left ≡ Some (option_built o))
        → cond b (Some x) rest ≡ Some o → cond b (Some (option_built x)) left ≡ Some (option_built o)
    go true rest left later found = ap (option_map option_built) found
    go false rest left later found = later found

-- where no option fits, the files are left
find_files : (p : Rule → Bool) (q : Setting → Bool) (os : List Setting) (fs : List Rule)
    → ((x : Setting) → p (option_built x) ≡ q x) → find q os ≡ None → find p (map option_built os ++ fs) ≡ find p fs
find_files p q [] fs same e = refl
find_files p q (x ∷ os) fs same e = rw (same x) (go (q x) (find q os) (find p (map option_built os ++ fs)) (find_files p q os fs same) e)
  where
    go : (b : Bool) (rest : Option Setting) (left : Option Rule) → (rest ≡ None → left ≡ find p fs)
        → cond b (Some x) rest ≡ None → cond b (Some (option_built x)) left ≡ find p fs
    go true rest left later found = cc
    go false rest left later found = later found

or-false : (b : Bool) → (b || false) ≡ b
or-false true = refl
or-false false = refl

no_long_file : (wants_file : Bool) (name : List ℕ) → arg_by_long (files_built wants_file) name ≡ None
no_long_file true name = refl
no_long_file false name = refl

pub long_known : (row : Row) (name : List ℕ) (o : Setting) → find (λ x. bytes_eq x.name name) row.options ≡ Some o → arg_by_long (rules_built row) name ≡ Some (option_built o)
long_known row name o e = find_option (λ a. not (is_some a.index) && has_long a name) (λ x. bytes_eq x.name name) row.options _ o (λ x. or-false (bytes_eq x.name name)) e

pub long_unknown : (row : Row) (name : List ℕ) → find (λ x. bytes_eq x.name name) row.options ≡ None → arg_by_long (rules_built row) name ≡ None
long_unknown row name e =
    find_files (λ a. not (is_some a.index) && has_long a name) (λ x. bytes_eq x.name name) row.options _ (λ x. or-false (bytes_eq x.name name)) e
    ∙ no_long_file row.wants_file name

pub id_known : (row : Row) (name : List ℕ) (o : Setting) → find (λ x. bytes_eq x.name name) row.options ≡ Some o → arg_by_id (rules_built row) name ≡ Some (option_built o)
id_known row name o e = find_option (λ a. bytes_eq a.id name) (λ x. bytes_eq x.name name) row.options _ o (λ x. refl) e

find_never : {X : Type 0} (xs : List X) → find (λ x. false) xs ≡ None
find_never [] = refl
find_never (x ∷ xs) = find_never xs

pub at_index : (row : Row) (i : ℕ) → arg_by_index (rules_built row) i ≡ arg_by_index (files_built row.wants_file) i
at_index row i = find_files (λ a. option_map_or (λ k. k == i) a.index false) (λ x. false) row.options _ (λ x. refl) (find_never row.options)

pub id_file : (row : Row) → find (λ x. bytes_eq x.name (codes "FILE")) row.options ≡ None → arg_by_id (rules_built row) (codes "FILE") ≡ arg_by_id (files_built row.wants_file) (codes "FILE")
id_file row e = find_files (λ a. bytes_eq a.id (codes "FILE")) (λ x. bytes_eq x.name (codes "FILE")) row.options _ (λ x. refl) e
