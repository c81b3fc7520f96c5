-- What the reading of words rests on beside `clap`.
use Rattle.std.proofs.Common.{option_and_then, ◌≡◌, ◌∙◌, ℕ, ◌<◌, ◌^◌, ◌&&◌, Bool, cond, true, false, not, refl, sym, ap, subst, arith, List, [], ◌∷◌, ◌++◌, length, map, Option, Some, None, Ok, Err, Result, option_map, codes}
use Rattle.std.specs.Prelude.{IfOk, find, is_none, nat_lt, drop, IsSomeAnd, if◌then◌else◌, option_map}
use Rattle.std.specs.Str.{bytes_eq}
use Rattle.std.specs.Str.Parse.{ParsesUnsigned, digits_value}
use Rattle.std.specs.List.{list_all, list_any}
use Rattle.std.specs.Option.{option_map_or}
use Rattle.std.proofs.lemmas.Bool.{and_left, and_parts, and_right, ltb-true, lt-ltb}
use Rattle.std.proofs.lemmas.Slice.Eq.{bytes_eq-Decides}
use Rattle.clap.specs.Matches.{ReadsOne, found_of, one_text}
use Rattle.clap.specs.declared.parser.matches.ArgMatches.{ArgMatches}
use Rattle.four_lattice.specs.declared.words.Verb.{Verb}
use Rattle.four_lattice.specs.declared.words.Verb.TheVariants.{Pairs, Dual, Cnf, Verify, Check, Audit, Synth, Map, Renew, Trial}
use Rattle.four_lattice.specs.Words.{Given, Row, Setting, is_within, given_of, row_of, is_number, is_plain, may_give, number_given, is_small, asked_by, numbered_of}
use Rattle.four_lattice.specs.WordsParts.{Shows, is_option, is_spelled, is_table, option_names}
use Rattle.four_lattice.proofs.WordsNumbers.{all_digits, number_digits, number_plain_sign}

-- ---- words that are not spelled as they are to be

-- a word that is no option gives none
no-option : (os : List Setting) (word : List ℕ) → list_all (λ o. list_any (λ name. bytes_eq (codes "--" ++ name) (codes "--" ++ o.name)) option_names && (not (bytes_eq o.name (codes "FILE")) && nat_lt o.most (2 ^ 32))) os ≡ true
    → is_option word ≡ false → find (λ o. bytes_eq (codes "--" ++ o.name) word) os ≡ None
no-option [] word table other = refl
no-option (o ∷ os) word table other = go (bytes_eq (codes "--" ++ o.name) word) refl (no-option os word (and_parts _ _ table).1 other)
  where
    go : (b : Bool) → bytes_eq (codes "--" ++ o.name) word ≡ b → find (λ x. bytes_eq (codes "--" ++ x.name) word) os ≡ None
        → cond b (Some o) (find (λ x. bytes_eq (codes "--" ++ x.name) word) os) ≡ None
    go true is later =
        let same : codes "--" ++ o.name ≡ word = (bytes_eq-Decides (codes "--" ++ o.name) word).0 is in
        let option : is_option word ≡ true = subst (λ (w : List ℕ). is_option w ≡ true) same (and_parts _ _ (and_parts _ _ table).0).0 in
        let bad : true ≡ false = sym option ∙ other in cc
    go false is later = later

may_give-unnamed : (row : Row) (given : Given) (word next : List ℕ) → is_table row ≡ true → is_option word ≡ false → may_give row given word next ≡ false
may_give-unnamed row given word next table other = rw (no-option row.options word table other) refl

may_give-unnumbered : (row : Row) (given : Given) (word next : List ℕ) → is_number next ≡ false → may_give row given word next ≡ false
may_give-unnumbered row given word next other = go (find (λ o. bytes_eq (codes "--" ++ o.name) word) row.options)
  where
    go : (found : Option Setting) → option_map_or (λ o. is_none (number_given o.name given) && is_number next && is_within o (digits_value 10 next)) found false ≡ false
    go None = refl
    go (Some o) = and_left _ _ (and_right (is_none (number_given o.name given)) (is_number next) other)

pub unspelled : (row : Row) (given : Given) (words : List (List ℕ)) → is_table row ≡ true → is_spelled words ≡ false → given_of row given words ≡ None
unspelled row given [] table wrong = cc
unspelled row given (word ∷ []) table wrong = go (is_plain word) row.wants_file wrong
  where
    go : (plain wants : Bool) → (plain && true) ≡ false → cond (wants && plain) (Some given) None ≡ None
    go true wants e = cc
    go false true e = refl
    go false false e = refl
unspelled row given (word ∷ next ∷ rest) table wrong =
    go (is_option word) refl (is_number next) refl (is_spelled rest) refl wrong (λ s. unspelled row (given ++ (drop 2 word, digits_value 10 next) ∷ []) rest table s)
  where
    untaken : may_give row given word next ≡ false → given_of row given (word ∷ next ∷ rest) ≡ None
    untaken e = rw e refl

    either : (t : Bool) → given_of row (given ++ (drop 2 word, digits_value 10 next) ∷ []) rest ≡ None → cond t (given_of row (given ++ (drop 2 word, digits_value 10 next) ∷ []) rest) None ≡ None
    either true e = e
    either false e = refl

    go : (option : Bool) → is_option word ≡ option → (number : Bool) → is_number next ≡ number → (spelled : Bool) → is_spelled rest ≡ spelled
        → cond option (number && spelled) (list_all is_plain (word ∷ next ∷ rest)) ≡ false
        → (is_spelled rest ≡ false → given_of row (given ++ (drop 2 word, digits_value 10 next) ∷ []) rest ≡ None)
        → given_of row given (word ∷ next ∷ rest) ≡ None
    go false option number n spelled s e later = untaken (may_give-unnamed row given word next table option)
    go true option false n spelled s e later = untaken (may_give-unnumbered row given word next n)
    go true option true n true s e later = cc
    go true option true n false s e later = either (may_give row given word next) (later s)

-- ---- the number of an option

small-parses : {E : Type 0} (text : List ℕ) (r : Result ℕ E) → is_small text ≡ true → ParsesUnsigned 32 10 text r → r ≡ Ok (digits_value 10 text)
small-parses [] r small parses = cc
small-parses (b ∷ bytes) (Ok n) small parses =
    let plain = number_plain_sign b bytes (and_parts _ _ small).0 in
    ap (λ m. Ok m) (parses.1 ∙ ap (digits_value 10) plain)
small-parses {E} (b ∷ bytes) (Err e) small parses =
    let some : 0 < length (b ∷ bytes) = omega arith in
    let number = (and_parts _ _ small).0 in
    let plain = number_plain_sign b bytes number in
    let fits : digits_value 10 (b ∷ bytes) < 2 ^ 32 = ltb-true (digits_value 10 (b ∷ bytes)) (2 ^ 32) (and_parts _ _ small).1 in
    absurd ((rw plain at parses) ((some, all_digits (b ∷ bytes) (number_digits b bytes number)), fits))

-- a number that fits is parsed as its value, and another one is not
pub small-parsed : {E : Type 0} (text : List ℕ) (r : Result ℕ E) (n : ℕ) → r ≡ Ok n → is_number text ≡ true → ParsesUnsigned 32 10 text r → Some n ≡ (if is_small text then Some (digits_value 10 text) else None)
small-parsed {E} [] r n is number parses = cc
small-parsed {E} (b ∷ bytes) r n is number parses =
    let q : ParsesUnsigned {E = E} 32 10 (b ∷ bytes) (Ok n) = subst (λ (x : Result ℕ E). ParsesUnsigned {E = E} 32 10 (b ∷ bytes) x) is parses in
    let p = rw (number_plain_sign b bytes number) at q in
    rw (number, lt-ltb (digits_value 10 (b ∷ bytes)) (2 ^ 32) p.0.1) (ap (λ m. Some m) p.1)

pub small-unparsed : {E : Type 0} (text : List ℕ) (r : Result ℕ E) (e : E) → r ≡ Err e → is_number text ≡ true → ParsesUnsigned 32 10 text r → None ≡ (if is_small text then Some (digits_value 10 text) else None)
small-unparsed {E} [] r e is number parses = cc
small-unparsed {E} (b ∷ bytes) r e is number parses = go (nat_lt (digits_value 10 (b ∷ bytes)) (2 ^ 32)) refl
  where
    go : (t : Bool) → nat_lt (digits_value 10 (b ∷ bytes)) (2 ^ 32) ≡ t → None ≡ (if is_small (b ∷ bytes) then Some (digits_value 10 (b ∷ bytes)) else None)
    go true fits =
        let small : is_small (b ∷ bytes) ≡ true = rw (number, fits) refl in
        let read : ◌≡◌ {A = Result ℕ E} (Err e) (Ok (digits_value 10 (b ∷ bytes))) = sym is ∙ small-parses {E = E} (b ∷ bytes) r small parses in cc
    go false long = rw (number, long) refl

-- what a getter reads of a name is the number that was given
pub reads-given : {E : Type 0} (gives : List ℕ → Result ℕ E → Type 0) (given : Given) (m : ArgMatches) (name : List ℕ) (r : Option ℕ) → Shows given m → bytes_eq (codes "FILE") name ≡ false
    → ((text : List ℕ) (x : Result ℕ E) → gives text x → ParsesUnsigned 32 10 text x)
    → (one_text (found_of m) name ≡ None → r ≡ None) → ((text : List ℕ) → one_text (found_of m) name ≡ Some text → ReadsOne gives text r) → number_given name given ≡ r
reads-given {E} gives given m name r shows apart parses none some = go (one_text (found_of m) name) refl r none some
  where
    go : (o : Option (List ℕ)) → one_text (found_of m) name ≡ o → (x : Option ℕ) → (one_text (found_of m) name ≡ None → x ≡ None)
        → ((text : List ℕ) → one_text (found_of m) name ≡ Some text → ReadsOne gives text x) → number_given name given ≡ x
    go None is x absent present = sym (shows.text name apart) ∙ (ap (option_map (digits_value 10)) is ∙ sym (absent is))
    go (Some text) is None absent present =
        let read = present text is in
        let bad : ◌≡◌ {A = Result ℕ E} (Err read.0) (Ok (digits_value 10 text)) = small-parses {E = E} text (Err read.0) (shows.number name text apart is) (parses text (Err read.0) read.1) in cc
    go (Some text) is (Some n) absent present =
        let read : ◌≡◌ {A = Result ℕ E} (Ok n) (Ok (digits_value 10 text)) = small-parses {E = E} text (Ok n) (shows.number name text apart is) (parses text (Ok n) (present text is)) in
        let value : digits_value 10 text ≡ n = cc in
        sym (shows.text name apart) ∙ (ap (option_map (digits_value 10)) is ∙ ap (λ v. Some v) value)

-- ---- lists of words

pub all_mapped : {X Y : Type 0} (p : Y → Bool) (f : X → Y) (xs : List X) → list_all p (map f xs) ≡ list_all (λ x. p (f x)) xs
all_mapped p f [] = refl
all_mapped p f (x ∷ xs) = ap (λ b. p (f x) && b) (all_mapped p f xs)

-- fewer than two words are plain, or not spelled as they are to be
pub few_spelled : {X : Type 0} (f : X → List ℕ) (xs : List X) → length xs < 2 → is_spelled (map f xs) ≡ list_all is_plain (map f xs)
few_spelled f [] few = refl
few_spelled f (x ∷ []) few = refl
few_spelled f (x ∷ y ∷ xs) few = absurd (omega arith)

-- each row of the table is one of which the laws speak
pub row_is_table : (verb : Verb) → is_table (row_of verb) ≡ true
row_is_table Pairs = refl
row_is_table Dual = refl
row_is_table Cnf = refl
row_is_table Verify = refl
row_is_table Check = refl
row_is_table Audit = refl
row_is_table Renew = refl
row_is_table Synth = refl
row_is_table Map = refl
row_is_table Trial = refl

-- what is shown of something that was given is shown of what was given
pub shown-all : {X Y : Type 0} (o : Option X) (P : X → Type 0) (f : X → Y) (y : Y) → IsSomeAnd o P → ((x : X) → P x → y ≡ f x) → option_map f o ≡ Some y
shown-all None P f y some all = absurd some
shown-all (Some x) P f y some all = ap (λ z. Some z) (sym (all x some))

-- what is answered of something that was given is answered of what was given
pub shown-then : {X Y : Type 0} (o : Option X) (P : X → Type 0) (f : X → Option Y) (r : Option Y) → IsSomeAnd o P → ((x : X) → P x → r ≡ f x) → option_and_then f o ≡ r
shown-then None P f r some all = absurd some
shown-then (Some x) P f r some all = sym (all x some)

-- a job of what is given where no number is wanted
pub found-plain : {X : Type 0} (row : Row) (words : List (List ℕ)) (f : Option ℕ → Given → Option X) (r : Option X) → row.wants_number ≡ false → option_and_then (f None) (given_of row [] words) ≡ r
    → option_and_then (λ found. f found.0 found.1) (asked_by row words) ≡ r
unfolding asked_by
found-plain row words f r plain is = rw plain (go (given_of row [] words) is)
  where
    go : (o : Option Given) → option_and_then (f None) o ≡ r → option_and_then (λ (found : Option ℕ × Given). f found.0 found.1) (option_map (λ given. (None, given)) o) ≡ r
    go None e = e
    go (Some given) e = e

-- and where one is
pub found-numbered : {X : Type 0} (row : Row) (words : List (List ℕ)) (f : Option ℕ → Given → Option X) (r : Option X) → row.wants_number ≡ true
    → option_and_then (λ found. f found.0 found.1) (numbered_of row words) ≡ r → option_and_then (λ found. f found.0 found.1) (asked_by row words) ≡ r
unfolding asked_by
found-numbered row words f r wants is = rw wants is

-- what holds where there is a value
pub if_ok : {T E : Type 0} (r : Result T E) (P Q : T → Type 0) → ((t : T) → P t → Q t) → IfOk r P → IfOk r Q
if_ok (Ok t) P Q more h = more t h
if_ok (Err e) P Q more h = tt
