-- The cells of a line, and the rows of an array, one after another.
use Rattle.std.proofs.Common.{◌≡◌, ◌≢◌, ℕ, suc, zero, ◌+◌, ◌*◌, ◌<◌, ◌≤◌, Bool, true, false, not, List, [], ◌∷◌, ◌++◌, length, get_or, take, drop, map, refl, sym, ap, ◌∙◌, subst, arith, append_assoc, length-append, Some, None, Bor, Result, Ok, Err}
use Rattle.std.specs.Prelude.{All, IfOk}
use Rattle.std.specs.declared.option.Option.{Option}
use Rattle.std.specs.Bool.{MatchBool}
use Rattle.std.specs.Option.{is_some, SomeIff, MatchOption}
use Rattle.std.specs.List.{flat_map, join_with_byte}
use Rattle.std.proofs.lemmas.Bool.{false≢true}
use Rattle.std.proofs.lemmas.List.{append-nil, map_push, length-map, take_more, take_all}
use Rattle.std.proofs.lemmas.List.Concat.{flat_map-append}
use Rattle.std.proofs.lemmas.List.Elements.{All-nil, All-push}
use Rattle.lattice_grid.specs.Control.{NamesBelow}
use Rattle.lattice_grid.specs.declared.array.Defect.{Defect}
use Rattle.lattice_grid.specs.declared.control.Control.{Control}
use Rattle.lattice_grid.specs.Defects.{Defects, IsArray}
use Rattle.lattice_grid.specs.Rectangle.{Size, IsSize}
use Rattle.report_text.specs.Cells.{control_text, defect_byte, array_text, size_text, rows_of}
use Rattle.report_text.specs.Expected.{IsRow}
use Rattle.report_text.specs.Pieces.{pieces, words, words_left, pieces_left}
use Rattle.report_text.proofs.ItemsLaws.{HasItems, items_none, items_push, no_items-word, no_items-many, many_words, items_all}
use Rattle.report_text.proofs.JoinLaws.{pieces-join, join-pieces}
use Rattle.report_text.proofs.PiecesLaws.{pieces-some}
use Rattle.report_text.proofs.RowsLaws.{cells_of, rows_of-cells, cells-rows_of}
use Rattle.report_text.proofs.SpellLaws.{each}
use Rattle.report_text.proofs.WordLaws.{array_rows, rows_are, no_slash_rows, defect_rows, sizes, size_of_array}

-- ---- cells of a line

pub record HasCells (ws left : List (List ℕ)) (old new : List Control) (many : ℕ) : Type 0 where
  pub row : List Control
  pub items : HasItems (NamesBelow 10) control_text ws left row
  pub many_are : length row ≡ many
  pub added : new ≡ old ++ row

pub HasCells-none : (ws : List (List ℕ)) (cells : List Control) → HasCells ws ws cells cells 0
HasCells-none ws cells = record { row = []; items = items_none (NamesBelow 10) control_text ws [] refl; many_are = refl; added = sym (append-nil cells) }

pub HasCells-push : (ws left after : List (List ℕ)) (word : List ℕ) (old new newer : List Control) (c : Control) (many : ℕ) → HasCells ws left old new many → left ≡ word ∷ after → NamesBelow 10 c → word ≡ control_text c
    → newer ≡ new ++ c ∷ [] → HasCells ws after old newer (many + 1)
HasCells-push ws left after word old new newer c many h e is text grown = record {
  row = h.row ++ c ∷ [];
  items = items_push (NamesBelow 10) control_text ws left after word h.row (h.row ++ c ∷ []) c h.items e is text refl;
  many_are = (let row = h.many_are in omega (arith, length-append h.row (c ∷ []), row));
  added = grown ∙ ap (λ z. z ++ c ∷ []) h.added ∙ append_assoc old h.row (c ∷ []);
}

pub no_row-word : (ws left after : List (List ℕ)) (word : List ℕ) (old new : List Control) (many cols : ℕ) → HasCells ws left old new many → left ≡ word ∷ after → ((c : Control) → NamesBelow 10 c → word ≢ control_text c)
    → (row : List Control) → IsRow cols row → ws ≢ map control_text row
no_row-word ws left after word old new many cols h e none row is = no_items-word (NamesBelow 10) control_text ws left after word h.row h.items e none row is.inputs

pub no_row-few : (ws left : List (List ℕ)) (old new : List Control) (many cols : ℕ) → HasCells ws left old new many → left ≡ [] → many < cols → (row : List Control) → IsRow cols row → ws ≢ map control_text row
no_row-few ws left old new many cols h e few row is =
    no_items-many (NamesBelow 10) control_text ws left h.row cols h.items (λ f. let is_many = h.many_are in let none = ap length e in omega (arith, f, is_many, none, few)) row is.many

no_row-many : (ws left : List (List ℕ)) (old new : List Control) (cols : ℕ) → HasCells ws left old new cols → 0 < length left → (row : List Control) → IsRow cols row → ws ≢ map control_text row
no_row-many ws left old new cols h more row is = no_items-many (NamesBelow 10) control_text ws left h.row cols h.items (λ f. let is_many = h.many_are in omega (arith, f, is_many, more)) row is.many

-- after so many cells as wanted the answer is whether no word is left
pub whole_row : (ws : List (List ℕ)) (rest : Option (Bor (List ℕ))) (whole : Bool) (old new : List Control) (cols : ℕ) → HasCells ws (words_left rest) old new cols → is_some rest ≡ not whole
    → MatchBool whole ((row : List Control) × IsRow cols row × (ws ≡ map control_text row) × (new ≡ old ++ row)) ((row : List Control) → IsRow cols row → ws ≢ map control_text row)
whole_row ws None true old new cols h e = (h.row, record { many = h.many_are; inputs = h.items.each }, items_all (NamesBelow 10) control_text ws [] h.row h.items refl, h.added)
whole_row ws None false old new cols h e = absurd (false≢true e)
whole_row ws (Some r) true old new cols h e = absurd (false≢true (sym e))
whole_row ws (Some r) false old new cols h e = no_row-many ws (words r.now) old new cols h (pieces-some 32 r.now)

-- ---- defects of a row

-- the first so many bytes of a row are these defects
pub record HasDefects (row : List ℕ) (old new : List Defect) (many : ℕ) : Type 0 where
  pub ds : List Defect
  pub read : take many row ≡ map defect_byte ds
  pub added : new ≡ old ++ ds

pub HasDefects-none : (row : List ℕ) (cells : List Defect) → HasDefects row cells cells 0
HasDefects-none row cells = record { ds = []; read = refl; added = sym (append-nil cells) }

pub HasDefects-push : (row : List ℕ) (old new newer : List Defect) (b : ℕ) (d : Defect) (many : ℕ) → HasDefects row old new many → many < length row → b ≡ get_or row many 0 → b ≡ defect_byte d → newer ≡ new ++ d ∷ [] → HasDefects row old newer (many + 1)
HasDefects-push row old new newer b d many h within here is grown = record {
  ds = h.ds ++ d ∷ [];
  read = take_more row many 0 within ∙ ap (λ z. z ++ get_or row many 0 ∷ []) h.read ∙ ap (λ z. map defect_byte h.ds ++ z ∷ []) (sym here ∙ is) ∙ sym (map_push defect_byte h.ds d);
  added = grown ∙ ap (λ z. z ++ d ∷ []) h.added ∙ append_assoc old h.ds (d ∷ []);
}

pub no_defects-byte : (row : List ℕ) (many : ℕ) (b : ℕ) → many < length row → b ≡ get_or row many 0 → ((d : Defect) → b ≢ defect_byte d) → (ds : List Defect) → row ≢ map defect_byte ds
no_defects-byte row many b within here none ds e =
    let inside : many < length ds = let long = ap length e in omega (arith, within, long, length-map ds defect_byte) in
    let found = at_place ds many inside in
    none found.0 (here ∙ ap (λ z. get_or z many 0) e ∙ found.1) where
      at_place : (ds : List Defect) (k : ℕ) → k < length ds → (d : Defect) × (get_or (map defect_byte ds) k 0 ≡ defect_byte d)
      at_place [] k h = absurd (omega (arith, h))
      at_place (d ∷ ds) zero h = (d, refl)
      at_place (d ∷ ds) (suc k) h = at_place ds k (omega (arith, h))

pub all_defects : (row : List ℕ) (old new : List Defect) (many cols : ℕ) → HasDefects row old new many → length row ≤ many → length row ≡ cols
    → (ds : List Defect) × (length ds ≡ cols) × (row ≡ map defect_byte ds) × (new ≡ old ++ ds)
all_defects row old new many cols h whole long =
    let read : row ≡ map defect_byte h.ds = sym (take_all many row whole) ∙ h.read in
    let many_are = ap length read in
    (h.ds, omega (arith, many_are, long, length-map h.ds defect_byte), read, h.added)

pub no_defects-long : (row : List ℕ) (cols : ℕ) → length row ≢ cols → (ds : List Defect) → length ds ≡ cols → row ≢ map defect_byte ds
no_defects-long row cols other ds is e = other (ap length e ∙ length-map ds defect_byte ∙ is)

-- ---- rows of an array

pub record HasArrayRows (cols : ℕ) (ws left : List (List ℕ)) (cells : List Defect) (many : ℕ) : Type 0 where
  pub rows : List (List Defect)
  pub items : HasItems (λ ds. length ds ≡ cols) (map defect_byte) ws left rows
  pub many_are : length rows ≡ many
  pub cells_are : cells ≡ cells_of rows

pub HasArrayRows-none : (cols : ℕ) (ws : List (List ℕ)) (cells : List Defect) → cells ≡ [] → HasArrayRows cols ws ws cells 0
HasArrayRows-none cols ws cells e = record { rows = []; items = items_none (λ ds. length ds ≡ cols) (map defect_byte) ws [] refl; many_are = refl; cells_are = e }

pub HasArrayRows-push : (cols : ℕ) (ws left after : List (List ℕ)) (word : List ℕ) (cells more : List Defect) (ds : List Defect) (many : ℕ) → HasArrayRows cols ws left cells many → left ≡ word ∷ after → length ds ≡ cols → word ≡ map defect_byte ds
    → more ≡ cells ++ ds → HasArrayRows cols ws after more (many + 1)
HasArrayRows-push cols ws left after word cells more ds many h e is text grown = record {
  rows = h.rows ++ ds ∷ [];
  items = items_push (λ ds. length ds ≡ cols) (map defect_byte) ws left after word h.rows (h.rows ++ ds ∷ []) ds h.items e is text refl;
  many_are = (let rows = h.many_are in omega (arith, length-append h.rows (ds ∷ []), rows));
  cells_are = grown ∙ ap (λ z. z ++ ds) h.cells_are ∙ ap (λ z. cells_of h.rows ++ z) (sym (append-nil ds)) ∙ sym (flat_map-append (λ r. r) h.rows (ds ∷ []));
}

-- the word of an array in its rows
array_pieces : (a : Defects) (size : Size) (word : List ℕ) → IsArray a → a.size ≡ size → word ≡ array_text a → pieces 47 word ≡ map (map defect_byte) (array_rows a)
array_pieces a size word is same e =
    let are = (rows_are a is).0 in
    let some = is.some_rows in
    ap (pieces 47) e ∙ pieces-join 47 (map (map defect_byte) (array_rows a)) (omega (arith, are, some, length-map (array_rows a) (map defect_byte))) (no_slash_rows (array_rows a))

array_wide : (a : Defects) (size : Size) → IsArray a → a.size ≡ size → All (λ ds. length ds ≡ size.cols) (array_rows a)
array_wide a size is same = subst (λ (s : Size). All (λ ds. length ds ≡ s.cols) (array_rows a)) same (rows_are a is).1

array_many : (a : Defects) (size : Size) → IsArray a → a.size ≡ size → length (array_rows a) ≡ size.rows
array_many a size is same = (rows_are a is).0 ∙ ap (λ s. s.rows) same

pub no_array-few : (size : Size) (word : List ℕ) (left : List (List ℕ)) (cells : List Defect) (many : ℕ) → HasArrayRows size.cols (pieces 47 word) left cells many → left ≡ [] → many < size.rows
    → (a : Defects) → IsArray a → a.size ≡ size → word ≢ array_text a
no_array-few size word left cells many h e few a is same f =
    no_items-many (λ ds. length ds ≡ size.cols) (map defect_byte) (pieces 47 word) left h.rows size.rows h.items (λ g. let is_many = h.many_are in let none = ap length e in omega (arith, g, is_many, none, few)) (array_rows a)
    (array_many a size is same) (array_pieces a size word is same f)

pub no_array-row : (size : Size) (word piece : List ℕ) (left after : List (List ℕ)) (cells : List Defect) (many : ℕ) → HasArrayRows size.cols (pieces 47 word) left cells many → left ≡ piece ∷ after
    → ((ds : List Defect) → length ds ≡ size.cols → piece ≢ map defect_byte ds) → (a : Defects) → IsArray a → a.size ≡ size → word ≢ array_text a
no_array-row size word piece left after cells many h e none a is same f =
    no_items-word (λ ds. length ds ≡ size.cols) (map defect_byte) (pieces 47 word) left after piece h.rows h.items e none (array_rows a) (array_wide a size is same) (array_pieces a size word is same f)

pub no_array-more : (size : Size) (word rest : List ℕ) (left : List (List ℕ)) (cells : List Defect) (many : ℕ) → HasArrayRows size.cols (pieces 47 word) left cells many → left ≡ pieces 47 rest → many ≡ size.rows
    → (a : Defects) → IsArray a → a.size ≡ size → word ≢ array_text a
no_array-more size word rest left cells many h e all a is same f =
    no_items-many (λ ds. length ds ≡ size.cols) (map defect_byte) (pieces 47 word) left h.rows size.rows h.items
    (λ g. let is_many = h.many_are in let some = pieces-some 47 rest in let long = ap length e in omega (arith, g, is_many, some, long, all)) (array_rows a) (array_many a size is same) (array_pieces a size word is same f)

pub no_array-left : (size : Size) (word : List ℕ) (rest : Option (Bor (List ℕ))) (cells : List Defect) (many : ℕ) → HasArrayRows size.cols (pieces 47 word) (pieces_left 47 rest) cells many → is_some rest ≡ true → many ≡ size.rows
    → (a : Defects) → IsArray a → a.size ≡ size → word ≢ array_text a
no_array-left size word None cells many h some all = absurd (false≢true some)
no_array-left size word (Some r) cells many h some all = no_array-more size word r.now (pieces 47 r.now) cells many h refl all

-- no more rows are left: the word is that of an array, where its sides are not too long
pub array_read : (size : Size) (word : List ℕ) (rest : Option (Bor (List ℕ))) (cells : List Defect) (many : ℕ) → IsSize size → HasArrayRows size.cols (pieces 47 word) (pieces_left 47 rest) cells many → is_some rest ≡ false → many ≡ size.rows
    → (o : Option Defects) → SomeIff o (IsArray (record { size = size; cells = cells })) (record { size = size; cells = cells })
    → MatchOption o ((a : Defects) → IsArray a → a.size ≡ size → word ≢ array_text a) (λ a. IsArray a × (a.size ≡ size) × (word ≡ array_text a))
array_read size word (Some r) cells many is h none all o given = absurd (false≢true (sym none))
array_read size word None cells many is h none all None no_array = λ a is_array same f.
    let pieces_are = array_pieces a size word is_array same f in
    let rows : h.rows ≡ array_rows a = (each (defect_rows size.cols)).same h.rows (array_rows a) h.items.each (array_wide a size is_array same) (sym (items_all (λ ds. length ds ≡ size.cols) (map defect_byte) (pieces 47 word) [] h.rows h.items refl) ∙ pieces_are) in
    let cells_are : cells ≡ a.cells = h.cells_are ∙ ap cells_of rows ∙ cells-rows_of a.size.cols a.size.rows a.cells is_array.whole in
    no_array (subst IsArray (λ i. record { size = same i; cells = sym cells_are i }) is_array)
array_read size word None cells many is h none all (Some a) given =
    let read = items_all (λ ds. length ds ≡ size.cols) (map defect_byte) (pieces 47 word) [] h.rows h.items refl in
    let rows : rows_of size.cols size.rows cells ≡ h.rows = ap (rows_of size.cols size.rows) h.cells_are ∙ ap (λ n. rows_of size.cols n (cells_of h.rows)) (sym (h.many_are ∙ all)) ∙ rows_of-cells size.cols h.rows h.items.each in
    let text : word ≡ array_text (record { size = size; cells = cells }) = sym (join-pieces 47 word) ∙ ap (join_with_byte 47) (read ∙ ap (map (map defect_byte)) (sym rows)) in
    subst (λ (z : Defects). IsArray z × (z.size ≡ size) × (word ≡ array_text z)) (sym given.1) (given.0, refl, text)

pub array_words : (shape : Size) (size rows : List ℕ) (o : Option Defects) → IsSize shape → size ≡ size_text shape → MatchOption o ((a : Defects) → IsArray a → a.size ≡ shape → rows ≢ array_text a) (λ a. IsArray a × (a.size ≡ shape) × (rows ≡ array_text a))
    → MatchOption o ((a : Defects) → IsArray a → size ≡ size_text a.size → rows ≢ array_text a) (λ a. IsArray a × (size ≡ size_text a.size) × (rows ≡ array_text a))
array_words shape size rows None is e none = λ a is_array f. none a is_array (sizes.same a.size shape (size_of_array a is_array) is (sym f ∙ e))
array_words shape size rows (Some a) is e found = (found.0, e ∙ ap size_text (sym found.1), found.2)

pub array_words_ok : {E : Type 0} (shape : Size) (size rows : List ℕ) (r : Result (Option Defects) E) → IsSize shape → size ≡ size_text shape
    → IfOk r (λ o. MatchOption o ((a : Defects) → IsArray a → a.size ≡ shape → rows ≢ array_text a) (λ a. IsArray a × (a.size ≡ shape) × (rows ≡ array_text a)))
    → IfOk r (λ o. MatchOption o ((a : Defects) → IsArray a → size ≡ size_text a.size → rows ≢ array_text a) (λ a. IsArray a × (size ≡ size_text a.size) × (rows ≡ array_text a)))
array_words_ok shape size rows (Ok o) is e h = array_words shape size rows o is e h
array_words_ok shape size rows (Err x) is e h = tt
