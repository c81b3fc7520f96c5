-- `clap` takes the words of a row of the table where the table does, and finds what was given.
use Rattle.std.proofs.Common.{◌≡◌, ◌∙◌, ◌⊎◌, ℕ, ◌<◌, ◌≤◌, ◌^◌, ◌&&◌, ◌||◌, ◌==◌, Bool, cond, true, false, not, refl, sym, ap, ap₂, subst, arith, List, [], ◌∷◌, ◌++◌, map, Option, Some, None, is_some, option_map, codes, inl, inr}
use Rattle.std.specs.Prelude.{find, fold, is_none, nat_lt}
use Rattle.std.specs.Str.{bytes_eq}
use Rattle.std.specs.Str.Parse.{digits_value}
use Rattle.std.specs.List.{list_all, list_any}
use Rattle.std.proofs.lemmas.List.{append-nil, map-append}
use Rattle.std.proofs.lemmas.List.Folds.{list_all-append}
use Rattle.std.proofs.lemmas.Bool.{and_parts, and_right, leb-true, lt-ltb, eqb-false, ltb-true, ne_eqb, not-true}
use Rattle.std.proofs.lemmas.Slice.Eq.{bytes_eq-Decides}
use Rattle.clap.specs.Lexer.{long_of}
use Rattle.clap.specs.Takes.{is_given}
use Rattle.clap.specs.Faults.{settle_fault, turn_fault}
use Rattle.clap.specs.Walk.{Row, Text, Walk, arg_by_id, arg_by_index, finished, has_row, settled_rows, walked}
use Rattle.four_lattice.specs.Words.{Row as TableRow, Setting, Given, given_of, is_number, is_plain, is_within, number_given, is_small}
use Rattle.four_lattice.specs.WordsParts.{is_option, is_spelled, is_table, option_names}
use Rattle.four_lattice.proofs.WordsNumbers.{is_signed_in-number, number_minus, option_word}
use Rattle.four_lattice.proofs.WordsRules.{at_index, file_built, files_built, id_file, id_known, long_known, long_unknown, rules_built}
use Rattle.four_lattice.proofs.WordsTurns.{ends-is, finished-is, held, passes, passes-none, passes-word, quiet, settle_fault-file, settle_fault-option, settled-file, settled-option, shape, shown, shown_file, stage, turn-file, turn-known, turn-number, turn-stray, turn-unknown, waits_for, walked-file, walked-known, walked-number}

-- ---- a row of the table

found_passes : {X : Type 0} (q : X → Bool) (xs : List X) (x : X) → find q xs ≡ Some x → q x ≡ true
found_passes q [] x e = cc
found_passes q (y ∷ ys) x e = go (q y) refl (find q ys) e (found_passes q ys x)
  where
    go : (b : Bool) → q y ≡ b → (rest : Option _) → cond b (Some y) rest ≡ Some x → (rest ≡ Some x → q x ≡ true) → q x ≡ true
    go true is rest found later = let same : y ≡ x = cc in rw (← same) is
    go false is rest found later = later found

found_among : {X : Type 0} (p q : X → Bool) (xs : List X) (x : X) → find q xs ≡ Some x → list_all p xs ≡ true → p x ≡ true
found_among p q [] x e all = cc
found_among p q (y ∷ ys) x e all = go (q y) (find q ys) e (found_among p q ys x)
  where
    go : (b : Bool) (rest : Option _) → cond b (Some y) rest ≡ Some x → (rest ≡ Some x → list_all p ys ≡ true → p x ≡ true) → p x ≡ true
    go true rest found later = let same : y ≡ x = cc in rw (← same) (and_parts _ _ all).0
    go false rest found later = later found (and_parts _ _ all).1

-- what is known of an option of a table's row
record IsRowOption (o : Setting) : Type 0 where
  not_file : bytes_eq o.name (codes "FILE") ≡ false
  fits : o.most < 2 ^ 32
  same : bytes_eq o.name o.name ≡ true

row_option : (row : TableRow) (q : Setting → Bool) (o : Setting) → is_table row ≡ true → find q row.options ≡ Some o → IsRowOption o
row_option row q o table e =
    let facts = and_parts _ _ (and_parts _ _ (found_among _ q row.options o e table)).1 in
    record { not_file = not-true _ facts.0; fits = ltb-true _ _ facts.1; same = (bytes_eq-Decides o.name o.name).1 refl }

no_file_option : (os : List Setting) → list_all (λ o. list_any (λ name. bytes_eq (codes "--" ++ name) (codes "--" ++ o.name)) option_names && (not (bytes_eq o.name (codes "FILE")) && nat_lt o.most (2 ^ 32))) os ≡ true
    → find (λ x. bytes_eq x.name (codes "FILE")) os ≡ None
no_file_option [] table = refl
no_file_option (o ∷ os) table =
    let facts = and_parts _ _ table in
    let here : bytes_eq o.name (codes "FILE") ≡ false = not-true _ (and_parts _ _ (and_parts _ _ facts.0).1).0 in
    rw here (no_file_option os facts.1)

file_index : (row : TableRow) → row.wants_file ≡ true → arg_by_index (rules_built row) 1 ≡ Some file_built
file_index row wants = at_index row 1 ∙ ap (λ w. arg_by_index (files_built w) 1) wants

no_index : (row : TableRow) → row.wants_file ≡ false → arg_by_index (rules_built row) 1 ≡ None
no_index row wants = at_index row 1 ∙ ap (λ w. arg_by_index (files_built w) 1) wants

no_second : (row : TableRow) → row.wants_file ≡ true → arg_by_index (rules_built row) 2 ≡ None
no_second row wants = at_index row 2 ∙ ap (λ w. arg_by_index (files_built w) 2) wants

file_id : (row : TableRow) → is_table row ≡ true → row.wants_file ≡ true → arg_by_id (rules_built row) (codes "FILE") ≡ Some file_built
file_id row table wants = id_file row (no_file_option row.options table) ∙ ap (λ w. arg_by_id (files_built w) (codes "FILE")) wants

-- ---- what was given, as `clap` holds it

abbrev pub given_by : List (Text × Text) → Given
given_by = map (λ p. (p.0, digits_value 10 p.1))

-- each was given a number, and none is the file
abbrev pub are_good : List (Text × Text) → Bool
are_good = list_all (λ p. not (bytes_eq p.0 (codes "FILE")) && is_small p.1)

has_row-given : (F : List (Text × Text)) (id : Text) → has_row id (map shown F) ≡ is_some (number_given id (given_by F))
has_row-given [] id = refl
has_row-given (p ∷ F) id = go (bytes_eq p.0 id) (has_row-given F id)
  where
    go : (b : Bool) → has_row id (map shown F) ≡ is_some (number_given id (given_by F))
        → (b || has_row id (map shown F)) ≡ is_some (option_map (λ (g : List ℕ × ℕ). g.1) (cond b (Some (p.0, digits_value 10 p.1)) (find (λ g. bytes_eq g.0 id) (given_by F))))
    go true later = refl
    go false later = later

no_file_row : (F : List (Text × Text)) → are_good F ≡ true → has_row (codes "FILE") (map shown F) ≡ false
no_file_row [] good = refl
no_file_row (p ∷ F) good =
    let facts = and_parts _ _ good in
    let here : bytes_eq p.0 (codes "FILE") ≡ false = not-true _ (and_parts _ _ facts.0).0 in
    rw here (no_file_row F facts.1)

no_file_given : (F : List (Text × Text)) → are_good F ≡ true → is_given (codes "FILE") (map shown F) ≡ false
no_file_given [] good = refl
no_file_given (p ∷ F) good =
    let facts = and_parts _ _ good in
    let here : bytes_eq p.0 (codes "FILE") ≡ false = not-true _ (and_parts _ _ facts.0).0 in
    rw here (no_file_given F facts.1)

file_given_last : (F : List (Text × Text)) (text : Text) → are_good F ≡ true → is_given (codes "FILE") (map shown F ++ shown_file text ∷ []) ≡ true
file_given_last [] text good = refl
file_given_last (p ∷ F) text good =
    let facts = and_parts _ _ good in
    let here : bytes_eq p.0 (codes "FILE") ≡ false = not-true _ (and_parts _ _ facts.0).0 in
    rw here (file_given_last F text facts.1)

-- What `clap` holds between two words may be settled, and then shows what was given.
pub record Holds (row : TableRow) (rows : List Row) (p : Option (Text × List Text)) (F : List (Text × Text)) : Type 0 where
  pub settles : quiet (settle_fault (rules_built row) false (held rows p)) ≡ true
  pub becomes : settled_rows (rules_built row) p rows ≡ map shown F
  pub good : are_good F ≡ true

-- The words are taken, and leave this shown.
pub record IsTaken (name : Text) (row : TableRow) (w : Walk) (words : List Text) (given : Option Given) : Type 0 where
  pub F : List (Text × Text)
  pub file : List Row
  pub good : are_good F ≡ true
  pub gives : given ≡ Some (given_by F)
  pub taken : passes (shape name row) w words ≡ true
  pub rows : finished (rules_built row) (fold (walked (rules_built row) []) w words).held ≡ map shown F ++ file
  pub only_file : (id : Text) → bytes_eq (codes "FILE") id ≡ false → find (λ r. bytes_eq r.id id) file ≡ None

-- The words are not taken.
pub record IsUntaken (name : Text) (row : TableRow) (w : Walk) (words : List Text) (given : Option Given) : Type 0 where
  pub gives : given ≡ None
  pub untaken : passes (shape name row) w words ≡ false

abbrev pub Outcome : Text → TableRow → Walk → List Text → Option Given → Type 0
Outcome name row w words given = IsTaken name row w words given ⊎ IsUntaken name row w words given

-- ---- words that fail at once

fails-word : (name : Text) (row : TableRow) (w : Walk) (word : Text) (rest : List Text) → quiet (turn_fault (shape name row) [] w word) ≡ false → passes (shape name row) w (word ∷ rest) ≡ false
fails-word name row w word rest e = passes-word (shape name row) w word rest ∙ ap (λ b. b && passes (shape name row) (walked (rules_built row) [] w word) rest) e

-- a plain word, as its bytes
plain_minus : (b : ℕ) (bytes : Text) → is_plain (b ∷ bytes) ≡ true → (b == 45) ≡ false
plain_minus b bytes e = not-true _ e

plain-fails : (name : Text) (row : TableRow) (rows : List Row) (p : Option (Text × List Text)) (word : Text) → is_plain word ≡ true
    → quiet (settle_fault (rules_built row) false (held rows p)) ≡ false → quiet (turn_fault (shape name row) [] (stage rows p 1) word) ≡ false
plain-fails name row rows p [] plain bad = cc
plain-fails name row rows p (b ∷ bytes) plain bad = go row.wants_file refl
  where
    go : (w : Bool) → row.wants_file ≡ w → quiet (turn_fault (shape name row) [] (stage rows p 1) (b ∷ bytes)) ≡ false
    go true wants = turn-file name row rows p b bytes (plain_minus b bytes plain) (file_index row wants) ∙ bad
    go false wants = turn-stray name row rows p 1 b bytes (plain_minus b bytes plain) (no_index row wants)

option-fails : (name : Text) (row : TableRow) (rows : List Row) (p : Option (Text × List Text)) (word : Text) → is_option word ≡ true
    → quiet (settle_fault (rules_built row) false (held rows p)) ≡ false → quiet (turn_fault (shape name row) [] (stage rows p 1) word) ≡ false
option-fails name row rows p word option bad =
    let w = option_word word option in
    subst (λ (t : Text). quiet (turn_fault (shape name row) [] (stage rows p 1) t) ≡ false) (sym w.is) (go w.name w.some w.long (find (λ x. bytes_eq x.name w.name) row.options) refl)
  where
    go : (id : Text) → bytes_eq (45 ∷ 45 ∷ id) (45 ∷ 45 ∷ []) ≡ false → long_of (45 ∷ 45 ∷ id) ≡ Some (id, None) → (o : Option Setting) → find (λ x. bytes_eq x.name id) row.options ≡ o
        → quiet (turn_fault (shape name row) [] (stage rows p 1) (45 ∷ 45 ∷ id)) ≡ false
    go id some long None e = turn-unknown name row rows p (45 ∷ 45 ∷ id) id some long (long_unknown row id e)
    go id some long (Some o) e = turn-known name row rows p (45 ∷ 45 ∷ id) id o some long (long_known row id o e) ∙ bad

-- where what is pending may not be settled, no words are taken
unsettled : (name : Text) (row : TableRow) (rows : List Row) (p : Option (Text × List Text)) (words : List Text) → is_spelled words ≡ true
    → quiet (settle_fault (rules_built row) false (held rows p)) ≡ false → passes (shape name row) (stage rows p 1) words ≡ false
unsettled name row rows p [] spelled bad =
    passes-none (shape name row) (stage rows p 1) ∙ (ends-is name row rows p ∙ ap (λ b. b && (not row.wants_file || is_given (codes "FILE") (settled_rows (rules_built row) p rows))) bad)
unsettled name row rows p (word ∷ []) spelled bad = fails-word name row _ word [] (plain-fails name row rows p word (and_parts _ _ spelled).0 bad)
unsettled name row rows p (word ∷ next ∷ rest) spelled bad = fails-word name row _ word (next ∷ rest) (go (is_option word) refl spelled)
  where
    go : (b : Bool) → is_option word ≡ b → cond b (is_number next && is_spelled rest) (list_all is_plain (word ∷ next ∷ rest)) ≡ true
        → quiet (turn_fault (shape name row) [] (stage rows p 1) word) ≡ false
    go true is s = option-fails name row rows p word is bad
    go false is s = plain-fails name row rows p word (and_parts _ _ s).0 bad

-- ---- the end of the words

at-end : (name : Text) (row : TableRow) (rows : List Row) (p : Option (Text × List Text)) (F : List (Text × Text)) → Holds row rows p F
    → passes (shape name row) (stage rows p 1) [] ≡ (not row.wants_file || false)
at-end name row rows p F h =
    passes-none (shape name row) (stage rows p 1) ∙ (ends-is name row rows p
    ∙ ap₂ (λ x y. x && (not row.wants_file || y)) h.settles (ap (is_given (codes "FILE")) h.becomes ∙ no_file_given F h.good))

no-words : (name : Text) (row : TableRow) (rows : List Row) (p : Option (Text × List Text)) (F : List (Text × Text)) → Holds row rows p F
    → Outcome name row (stage rows p 1) [] (given_of row (given_by F) [])
no-words name row rows p F h = go row.wants_file refl
  where
    go : (w : Bool) → row.wants_file ≡ w → Outcome name row (stage rows p 1) [] (given_of row (given_by F) [])
    go true wants = inr (record {
      gives = rw wants refl;
      untaken = at-end name row rows p F h ∙ ap (λ w. not w || false) wants;
    })
    go false wants = inl (record {
      F = F;
      file = [];
      good = h.good;
      gives = rw wants refl;
      taken = at-end name row rows p F h ∙ ap (λ w. not w || false) wants;
      rows = finished-is row (held rows p) ∙ (h.becomes ∙ sym (append-nil (map shown F)));
      only_file = λ id other. refl;
    })

-- ---- plain words

-- the walk after a file
abbrev after_file : List (Text × Text) → Text → Walk
after_file F word = stage (map shown F) (Some (codes "FILE", word ∷ [])) 2

walked-after : (row : TableRow) (rows : List Row) (p : Option (Text × List Text)) (F : List (Text × Text)) (b : ℕ) (bytes : Text) → Holds row rows p F → row.wants_file ≡ true → (b == 45) ≡ false
    → walked (rules_built row) [] (stage rows p 1) (b ∷ bytes) ≡ after_file F (b ∷ bytes)
walked-after row rows p F b bytes h wants minus =
    walked-file row rows p b bytes minus (file_index row wants) ∙ ap (λ (r : List Row). stage r (Some (codes "FILE", (b ∷ bytes) ∷ [])) 2) h.becomes

file-end : (name : Text) (row : TableRow) (F : List (Text × Text)) (word : Text) → is_table row ≡ true → row.wants_file ≡ true → are_good F ≡ true
    → passes (shape name row) (after_file F word) [] ≡ true
file-end name row F word table wants good =
    let none = no_file_row F good in
    let id = file_id row table wants in
    passes-none (shape name row) (after_file F word) ∙ (ends-is name row (map shown F) (Some (codes "FILE", word ∷ []))
    ∙ ap₂ (λ x y. x && (not row.wants_file || y)) (settle_fault-file row (map shown F) word id none)
    (ap (is_given (codes "FILE")) (settled-file row (map shown F) word id none) ∙ file_given_last F word good) ∙ or_true (not row.wants_file))
  where
    or_true : (b : Bool) → (true && (b || true)) ≡ true
    or_true true = refl
    or_true false = refl

one-word : (name : Text) (row : TableRow) (rows : List Row) (p : Option (Text × List Text)) (F : List (Text × Text)) (word : Text) → is_table row ≡ true → Holds row rows p F → is_plain word ≡ true
    → Outcome name row (stage rows p 1) (word ∷ []) (given_of row (given_by F) (word ∷ []))
one-word name row rows p F [] table h plain = cc
one-word name row rows p F (b ∷ bytes) table h plain = go row.wants_file refl
  where
    go : (w : Bool) → row.wants_file ≡ w → Outcome name row (stage rows p 1) ((b ∷ bytes) ∷ []) (given_of row (given_by F) ((b ∷ bytes) ∷ []))
    go true wants =
        let minus = plain_minus b bytes plain in
        let next = walked-after row rows p F b bytes h wants minus in
        inl (record {
          F = F;
          file = shown_file (b ∷ bytes) ∷ [];
          good = h.good;
          gives = rw (wants, minus) refl;
          taken = passes-word (shape name row) (stage rows p 1) (b ∷ bytes) []
              ∙ ap₂ (λ x y. x && y) (turn-file name row rows p b bytes minus (file_index row wants) ∙ h.settles)
              (ap (λ (w : Walk). passes (shape name row) w []) next ∙ file-end name row F (b ∷ bytes) table wants h.good);
          rows = ap (λ (w : Walk). finished (rules_built row) w.held) next
              ∙ (finished-is row (after_file F (b ∷ bytes)).held ∙ settled-file row (map shown F) (b ∷ bytes) (file_id row table wants) (no_file_row F h.good));
          only_file = λ id other. rw other refl;
        })
    go false wants =
        inr (record {
          gives = rw wants refl;
          untaken = fails-word name row _ _ [] (turn-stray name row rows p 1 b bytes (plain_minus b bytes plain) (no_index row wants));
        })

plain_is_none : (b : ℕ) (bytes : Text) (os : List Setting) → (b == 45) ≡ false → find (λ o. bytes_eq (codes "--" ++ o.name) (b ∷ bytes)) os ≡ None
plain_is_none b bytes [] minus = refl
plain_is_none b bytes (o ∷ os) minus =
    let other : (45 == b) ≡ false = ne_eqb 45 b (λ e. eqb-false b 45 minus (sym e)) in
    rw other (plain_is_none b bytes os minus)

two-words : (name : Text) (row : TableRow) (rows : List Row) (p : Option (Text × List Text)) (F : List (Text × Text)) (word next : Text) (rest : List Text) → Holds row rows p F
    → is_plain word ≡ true → is_plain next ≡ true → IsUntaken name row (stage rows p 1) (word ∷ next ∷ rest) (given_of row (given_by F) (word ∷ next ∷ rest))
two-words name row rows p F [] next rest h plain other = cc
two-words name row rows p F (b ∷ bytes) [] rest h plain other = cc
two-words name row rows p F (b ∷ bytes) (d ∷ more) rest h plain other = record {
  gives = rw (plain_is_none b bytes row.options (plain_minus b bytes plain)) refl;
  untaken = go row.wants_file refl;
}
  where
    go : (w : Bool) → row.wants_file ≡ w → passes (shape name row) (stage rows p 1) ((b ∷ bytes) ∷ (d ∷ more) ∷ rest) ≡ false
    go true wants = passes-word (shape name row) (stage rows p 1) (b ∷ bytes) ((d ∷ more) ∷ rest)
        ∙ and_right _ _ (ap (λ (w : Walk). passes (shape name row) w ((d ∷ more) ∷ rest)) (walked-after row rows p F b bytes h wants (plain_minus b bytes plain))
        ∙ fails-word name row (after_file F (b ∷ bytes)) (d ∷ more) rest (turn-stray name row (map shown F) (Some (codes "FILE", (b ∷ bytes) ∷ [])) 2 d more (plain_minus d more other) (no_second row wants)))
    go false wants = fails-word name row _ _ _ (turn-stray name row rows p 1 b bytes (plain_minus b bytes plain) (no_index row wants))

-- ---- an option and its number

-- what holds of other words on another walk
carry : (name : Text) (row : TableRow) (w other : Walk) (words others : List Text) (given same : Option Given)
    → passes (shape name row) w words ≡ passes (shape name row) other others → fold (walked (rules_built row) []) w words ≡ fold (walked (rules_built row) []) other others → given ≡ same
    → Outcome name row other others same → Outcome name row w words given
carry name row w other words others given same pass walk gives (inl t) = inl (record {
  F = t.F;
  file = t.file;
  good = t.good;
  gives = gives ∙ t.gives;
  taken = pass ∙ t.taken;
  rows = ap (λ (x : Walk). finished (rules_built row) x.held) walk ∙ t.rows;
  only_file = t.only_file;
})
carry name row w other words others given same pass walk gives (inr t) = inr (record { gives = gives ∙ t.gives; untaken = pass ∙ t.untaken })

unknown-option : (name : Text) (row : TableRow) (rows : List Row) (p : Option (Text × List Text)) (F : List (Text × Text)) (id next : Text) (rest : List Text)
    → bytes_eq (45 ∷ 45 ∷ id) (45 ∷ 45 ∷ []) ≡ false → long_of (45 ∷ 45 ∷ id) ≡ Some (id, None) → find (λ x. bytes_eq x.name id) row.options ≡ None
    → IsUntaken name row (stage rows p 1) ((45 ∷ 45 ∷ id) ∷ next ∷ rest) (given_of row (given_by F) ((45 ∷ 45 ∷ id) ∷ next ∷ rest))
unknown-option name row rows p F id next rest some long e = record {
  gives = rw e refl;
  untaken = fails-word name row _ _ _ (turn-unknown name row rows p (45 ∷ 45 ∷ id) id some long (long_unknown row id e));
}

-- the walk after an option
abbrev after_option : List (Text × Text) → Setting → Text → Walk
after_option F o next = stage (map shown F) (Some (o.name, next ∷ [])) 1

-- a known option, with what is known of it
record Known (row : TableRow) (o : Setting) : Type 0 where
  finds : find (λ x. bytes_eq x.name o.name) row.options ≡ Some o
  some : bytes_eq (45 ∷ 45 ∷ o.name) (45 ∷ 45 ∷ []) ≡ false
  long : long_of (45 ∷ 45 ∷ o.name) ≡ Some (o.name, None)
  facts : IsRowOption o

walked-name : (row : TableRow) (rows : List Row) (p : Option (Text × List Text)) (F : List (Text × Text)) (o : Setting) → Holds row rows p F → Known row o
    → walked (rules_built row) [] (stage rows p 1) (45 ∷ 45 ∷ o.name) ≡ waits_for (map shown F) o.name
walked-name row rows p F o h k =
    walked-known row rows p (45 ∷ 45 ∷ o.name) o.name o k.some k.long (long_known row o.name o k.finds) ∙ ap (λ (r : List Row). waits_for r o.name) h.becomes

walked-both : (row : TableRow) (rows : List Row) (p : Option (Text × List Text)) (F : List (Text × Text)) (o : Setting) (b : ℕ) (bytes : Text) → Holds row rows p F → Known row o → (b == 45) ≡ false
    → walked (rules_built row) [] (walked (rules_built row) [] (stage rows p 1) (45 ∷ 45 ∷ o.name)) (b ∷ bytes) ≡ after_option F o (b ∷ bytes)
walked-both row rows p F o b bytes h k minus =
    ap (λ (w : Walk). walked (rules_built row) [] w (b ∷ bytes)) (walked-name row rows p F o h k)
    ∙ walked-number row (map shown F) o b bytes minus (id_known row o.name o k.finds) k.facts.same

passes-option : (name : Text) (row : TableRow) (rows : List Row) (p : Option (Text × List Text)) (F : List (Text × Text)) (o : Setting) (b : ℕ) (bytes : Text) (rest : List Text) → Holds row rows p F → Known row o
    → (b == 45) ≡ false → passes (shape name row) (stage rows p 1) ((45 ∷ 45 ∷ o.name) ∷ (b ∷ bytes) ∷ rest) ≡ passes (shape name row) (after_option F o (b ∷ bytes)) rest
passes-option name row rows p F o b bytes rest h k minus =
    let known = long_known row o.name o k.finds in
    passes-word (shape name row) (stage rows p 1) (45 ∷ 45 ∷ o.name) ((b ∷ bytes) ∷ rest)
    ∙ (ap₂ (λ x y. x && y) (turn-known name row rows p (45 ∷ 45 ∷ o.name) o.name o k.some k.long known ∙ h.settles)
    (passes-word (shape name row) (walked (rules_built row) [] (stage rows p 1) (45 ∷ 45 ∷ o.name)) (b ∷ bytes) rest
    ∙ ap₂ (λ x y. x && y)
    (ap (λ (w : Walk). quiet (turn_fault (shape name row) [] w (b ∷ bytes))) (walked-name row rows p F o h k) ∙ turn-number name row (map shown F) o b bytes minus)
    (ap (λ (w : Walk). passes (shape name row) w rest) (walked-both row rows p F o b bytes h k minus))))

-- the table's test and `clap`'s are one
abbrev test_of : List (Text × Text) → Setting → Text → Bool
test_of F o next = is_none (number_given o.name (given_by F)) && is_number next && is_within o (digits_value 10 next)

test-is : (row : TableRow) (F : List (Text × Text)) (o : Setting) (b : ℕ) (bytes : Text) → Known row o → is_number (b ∷ bytes) ≡ true
    → quiet (settle_fault (rules_built row) false (held (map shown F) (Some (o.name, (b ∷ bytes) ∷ [])))) ≡ test_of F o (b ∷ bytes)
test-is row F o b bytes k number =
    settle_fault-option row (map shown F) o (b ∷ bytes) (id_known row o.name o k.finds)
    ∙ (ap₂ (λ x y. not x && y) (has_row-given F o.name) (is_signed_in-number b bytes o.least o.most k.facts.fits number)
    ∙ (none (number_given o.name (given_by F)) (is_within o (digits_value 10 (b ∷ bytes)))
    ∙ ap (λ x. is_none (number_given o.name (given_by F)) && x && is_within o (digits_value 10 (b ∷ bytes))) (sym number)))
  where
    none : (n : Option ℕ) (t : Bool) → (not (is_some n) && t) ≡ (is_none n && true && t)
    none None t = refl
    none (Some n) t = refl

-- what `clap` holds after an option that passes the test
holds-next : (row : TableRow) (F : List (Text × Text)) (o : Setting) (b : ℕ) (bytes : Text) → Known row o → is_number (b ∷ bytes) ≡ true → are_good F ≡ true → test_of F o (b ∷ bytes) ≡ true
    → Holds row (map shown F) (Some (o.name, (b ∷ bytes) ∷ [])) (F ++ (o.name, b ∷ bytes) ∷ [])
holds-next row F o b bytes k number good test =
    let small : digits_value 10 (b ∷ bytes) < 2 ^ 32 = small_from (leb-true _ _ (and_parts _ _ (and_parts _ _ test).1).1) k.facts.fits in
    let fresh = absent (number_given o.name (given_by F)) (and_parts _ _ (and_parts _ _ test).0).0 in
    record {
      settles = test-is row F o b bytes k number ∙ test;
      becomes = settled-option row (map shown F) o (b ∷ bytes) (id_known row o.name o k.finds) (has_row-given F o.name ∙ fresh) ∙ sym (map-append shown F ((o.name, b ∷ bytes) ∷ []));
      good = list_all-append _ F ((o.name, b ∷ bytes) ∷ []) ∙ ap₂ (λ x y. x && y) good (ap₂ (λ x y. (not x && y) && true) k.facts.not_file (ap₂ (λ x y. x && y) number (lt-ltb _ _ small)));
    }
  where
    small_from : digits_value 10 (b ∷ bytes) ≤ o.most → o.most < 2 ^ 32 → digits_value 10 (b ∷ bytes) < 2 ^ 32
    small_from low high = omega arith

    absent : (n : Option ℕ) → is_none n ≡ true → is_some n ≡ false
    absent None e = refl
    absent (Some n) e = cc

-- what the table says of a known option
given-known : (row : TableRow) (G : Given) (o : Setting) (next : Text) (rest : List Text) → find (λ x. bytes_eq x.name o.name) row.options ≡ Some o
    → given_of row G ((45 ∷ 45 ∷ o.name) ∷ next ∷ rest)
    ≡ cond (is_none (number_given o.name G) && is_number next && is_within o (digits_value 10 next)) (given_of row (G ++ (o.name, digits_value 10 next) ∷ []) rest) None
given-known row G o next rest e = rw e refl

known-option : (name : Text) (row : TableRow) (rows : List Row) (p : Option (Text × List Text)) (F : List (Text × Text)) (o : Setting) (next : Text) (rest : List Text) → Holds row rows p F → Known row o
    → is_number next ≡ true → is_spelled rest ≡ true
    → ((r : List Row) (q : Option (Text × List Text)) (H : List (Text × Text)) → Holds row r q H → Outcome name row (stage r q 1) rest (given_of row (given_by H) rest))
    → Outcome name row (stage rows p 1) ((45 ∷ 45 ∷ o.name) ∷ next ∷ rest) (given_of row (given_by F) ((45 ∷ 45 ∷ o.name) ∷ next ∷ rest))
known-option name row rows p F o [] rest h k number spelled later = cc
known-option name row rows p F o (b ∷ bytes) rest h k number spelled later =
    go (test_of F o (b ∷ bytes)) refl (given-known row (given_by F) o (b ∷ bytes) rest k.finds) (passes-option name row rows p F o b bytes rest h k (number_minus b bytes number))
    (ap (λ (w : Walk). fold (walked (rules_built row) []) w rest) (walked-both row rows p F o b bytes h k (number_minus b bytes number)))
  where
    go : (t : Bool) → test_of F o (b ∷ bytes) ≡ t
        → given_of row (given_by F) ((45 ∷ 45 ∷ o.name) ∷ (b ∷ bytes) ∷ rest) ≡ cond (test_of F o (b ∷ bytes)) (given_of row (given_by F ++ (o.name, digits_value 10 (b ∷ bytes)) ∷ []) rest) None
        → passes (shape name row) (stage rows p 1) ((45 ∷ 45 ∷ o.name) ∷ (b ∷ bytes) ∷ rest) ≡ passes (shape name row) (after_option F o (b ∷ bytes)) rest
        → fold (walked (rules_built row) []) (stage rows p 1) ((45 ∷ 45 ∷ o.name) ∷ (b ∷ bytes) ∷ rest) ≡ fold (walked (rules_built row) []) (after_option F o (b ∷ bytes)) rest
        → Outcome name row (stage rows p 1) ((45 ∷ 45 ∷ o.name) ∷ (b ∷ bytes) ∷ rest) (given_of row (given_by F) ((45 ∷ 45 ∷ o.name) ∷ (b ∷ bytes) ∷ rest))
    go true test gives pass walk =
        let taken : given_of row (given_by F) ((45 ∷ 45 ∷ o.name) ∷ (b ∷ bytes) ∷ rest) ≡ given_of row (given_by F ++ (o.name, digits_value 10 (b ∷ bytes)) ∷ []) rest =
        gives ∙ ap (λ t. cond t (given_of row (given_by F ++ (o.name, digits_value 10 (b ∷ bytes)) ∷ []) rest) None) test in
        carry name row (stage rows p 1) (after_option F o (b ∷ bytes)) ((45 ∷ 45 ∷ o.name) ∷ (b ∷ bytes) ∷ rest) rest _ _ pass walk
        (taken ∙ ap (λ (G : Given). given_of row G rest) (sym (map-append (λ (q : Text × Text). (q.0, digits_value 10 q.1)) F ((o.name, b ∷ bytes) ∷ []))))
        (later (map shown F) (Some (o.name, (b ∷ bytes) ∷ [])) (F ++ (o.name, b ∷ bytes) ∷ []) (holds-next row F o b bytes k number h.good test))
    go false test gives pass walk = inr (record {
      gives = gives ∙ ap (λ t. cond t (given_of row (given_by F ++ (o.name, digits_value 10 (b ∷ bytes)) ∷ []) rest) None) test;
      untaken = pass ∙ unsettled name row (map shown F) (Some (o.name, (b ∷ bytes) ∷ [])) rest spelled (test-is row F o b bytes k number ∙ test);
    })

-- an option of the row or of none
some-option : (name : Text) (row : TableRow) (rows : List Row) (p : Option (Text × List Text)) (F : List (Text × Text)) (id next : Text) (rest : List Text) → is_table row ≡ true → Holds row rows p F
    → bytes_eq (45 ∷ 45 ∷ id) (45 ∷ 45 ∷ []) ≡ false → long_of (45 ∷ 45 ∷ id) ≡ Some (id, None) → is_number next ≡ true → is_spelled rest ≡ true
    → ((r : List Row) (q : Option (Text × List Text)) (H : List (Text × Text)) → Holds row r q H → Outcome name row (stage r q 1) rest (given_of row (given_by H) rest))
    → (found : Option Setting) → find (λ x. bytes_eq x.name id) row.options ≡ found
    → Outcome name row (stage rows p 1) ((45 ∷ 45 ∷ id) ∷ next ∷ rest) (given_of row (given_by F) ((45 ∷ 45 ∷ id) ∷ next ∷ rest))
some-option name row rows p F id next rest table h some long number spelled later None e = inr (unknown-option name row rows p F id next rest some long e)
some-option name row rows p F id next rest table h some long number spelled later (Some o) e =
    let same : o.name ≡ id = (bytes_eq-Decides o.name id).0 (found_passes (λ x. bytes_eq x.name id) row.options o e) in
    let known : Known row o = record {
      finds = subst (λ (n : Text). find (λ x. bytes_eq x.name n) row.options ≡ Some o) (sym same) e;
      some = rw same some;
      long = rw same long;
      facts = row_option row (λ x. bytes_eq x.name id) o table e;
    } in
    subst (λ (n : Text). Outcome name row (stage rows p 1) ((45 ∷ 45 ∷ n) ∷ next ∷ rest) (given_of row (given_by F) ((45 ∷ 45 ∷ n) ∷ next ∷ rest))) same
    (known-option name row rows p F o next rest h known number spelled later)

-- ---- all words

pub agrees : (name : Text) (row : TableRow) (rows : List Row) (p : Option (Text × List Text)) (F : List (Text × Text)) (words : List Text) → is_table row ≡ true → Holds row rows p F → is_spelled words ≡ true
    → Outcome name row (stage rows p 1) words (given_of row (given_by F) words)
agrees name row rows p F [] table h spelled = no-words name row rows p F h
agrees name row rows p F (word ∷ []) table h spelled = one-word name row rows p F word table h (and_parts _ _ spelled).0
agrees name row rows p F (word ∷ next ∷ rest) table h spelled =
    go (is_option word) refl spelled (λ r q H hold s. agrees name row r q H rest table hold s)
  where
    go : (b : Bool) → is_option word ≡ b → cond b (is_number next && is_spelled rest) (list_all is_plain (word ∷ next ∷ rest)) ≡ true
        → ((r : List Row) (q : Option (Text × List Text)) (H : List (Text × Text)) → Holds row r q H → is_spelled rest ≡ true → Outcome name row (stage r q 1) rest (given_of row (given_by H) rest))
        → Outcome name row (stage rows p 1) (word ∷ next ∷ rest) (given_of row (given_by F) (word ∷ next ∷ rest))
    go true is s later =
        let w = option_word word is in
        let parts = and_parts _ _ s in
        subst (λ (t : Text). Outcome name row (stage rows p 1) (t ∷ next ∷ rest) (given_of row (given_by F) (t ∷ next ∷ rest))) (sym w.is)
        (some-option name row rows p F w.name next rest table h w.some w.long parts.0 parts.1 (λ r q H hold. later r q H hold parts.1) _ refl)
    go false is s later =
        let parts = and_parts _ _ s in
        inr (two-words name row rows p F word next rest h parts.0 (and_parts _ _ parts.1).0)
