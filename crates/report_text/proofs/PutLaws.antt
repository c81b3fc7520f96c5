-- Texts put one after another.
use Rattle.std.proofs.Common.{◌≡◌, ℕ, suc, ◌+◌, ◌-◌, ◌*◌, ◌<◌, ◌≤◌, List, [], ◌∷◌, ◌++◌, length, get_or, take, drop, map, refl, sym, ap, ◌∙◌, subst, arith, append_assoc, add-one, drop-cons, length-drop, codes, Result, Ok, Err}
use Rattle.std.specs.Prelude.{OnOk, OnErr}
use Rattle.std.specs.Result.{IsErr}
use Rattle.std.specs.declared.option.Option.{Option}
use Rattle.std.specs.List.{flat_map, join_with_byte}
use Rattle.std.proofs.lemmas.Bool.{false≢true}
use Rattle.std.proofs.lemmas.List.{append-nil, length-take-le, drop_all, drop-drop, get_or-take, get_or-drop}
use Rattle.wire_io.specs.Causes.{HasCause, Rose}
use Rattle.wire_io.specs.Passing.{Passes}
use Rattle.wire_io.specs.Told.{Gains, GainsFront}
use Rattle.wire_io.proofs.Tools.{Passes-none, Passes-append, Passes-front, GainsFront-passed, GainsFront-first, GainsFront-emptied, Passes-all, Passes-all_front, Passes-flat_map, Passes-flat_map_front, IsPassed, IsPassed-none, IsPassed-more, IsPassed-stop, IsPassed-done}
use Rattle.std.proofs.Math.Nat.{mul-le-mul_right}
use Rattle.lattice_grid.specs.declared.array.Defect.{Defect}
use Rattle.lattice_grid.specs.declared.array.Defect.TheVariants.{Sound}
use Rattle.lattice_grid.specs.Defects.{Defects, IsArray, defect_at}
use Rattle.report_text.specs.Cells.{rows_of, defect_byte, size_text}
use Rattle.pla_reader.specs.Names.{bytes_of}
use Rattle.std.specs.Fmt.{decimal}
use Rattle.lattice_grid.specs.Lattice.{Lattice}
use Rattle.lattice_grid.specs.Rectangle.{Size}
use Rattle.report_text.specs.Form.{form_of, form_words, lattice_of, lists}
use Rattle.report_text.specs.declared.answer.Answer.{Answer}
use Rattle.report_text.specs.declared.answer.Answer.TheVariants as answers
use Rattle.report_text.specs.Report.{BlockParts, words_text, text_of, heading_of, heading_words, lattice_lines, proofs_lines, block_text, block_lines, blocks_text, head_text, title_line, inputs_line, rails_lines, report_text, parts_of_block, parts_of_report}
use Rattle.report_text.specs.declared.answer.Block.{Block}
use Rattle.report_text.specs.declared.answer.Report.{Report}
use Rattle.report_text.specs.declared.answer.Version.{Version}
use Rattle.report_text.specs.Writing.{Puts}
use Rattle.report_text.proofs.JoinLaws.{join-behind}

-- a call that succeeded, and one that failed
abbrev pub ok_of : {T E : Type 0} → T → Result T E
ok_of x = Ok x

-- the second of two calls tells when the first succeeded
cause_then : {T U E : Type 0} (a b c : ℕ) (x : T) (r : Result U E) → HasCause a b (ok_of {E = E} x) → HasCause b c r → HasCause a c r
cause_then a b c x r first second = subst (λ n. HasCause n c r) first.still second

pub puts_then : {T U E : Type 0} (g h k : Option (List ℕ)) (u v w : List ℕ) (a b c : ℕ) (x : T) (r : Result U E) (xs ys : List ℕ) → Puts h k v w b c r ys → Puts g h u v a b (ok_of {E = E} x) xs → Puts g k u w a c r (xs ++ ys)
puts_then {T} {U} {E} g h k u v w a b c x r xs ys second first = record {
  ok = on_ok r (λ p. Passes-append g h k u v w xs ys first.ok p) second.ok;
  front = Passes-front g h k u v xs ys first.ok second.front;
  cause = cause_then a b c x r first.cause second.cause;
} where
  on_ok : (r : Result U E) → (Passes h k v w ys → Passes g k u w (xs ++ ys)) → OnOk r (Passes h k v w ys) → OnOk r (Passes g k u w (xs ++ ys))
  on_ok (Ok y) f p = f p
  on_ok (Err e) f p = tt

-- the first of two calls failed
pub puts_stop : {T U E : Type 0} (g h : Option (List ℕ)) (u v : List ℕ) (a b : ℕ) (q : Result T E) (r : Result U E) (xs ys : List ℕ) → IsErr q → IsErr r → Puts g h u v a b q xs → Puts g h u v a b r (xs ++ ys)
puts_stop {T} {U} {E} g h u v a b (Ok x) r xs ys none is first = absurd (false≢true none)
puts_stop {T} {U} {E} g h u v a b (Err e) (Ok y) xs ys err none first = absurd (false≢true none)
puts_stop {T} {U} {E} g h u v a b (Err e) (Err e') xs ys err is first = record {
  ok = tt;
  front = GainsFront-first g h u xs ys first.front;
  cause = record { later = first.cause.later; failed = first.cause.failed; still = tt };
}

-- two texts that are one
pub puts_as : {T E : Type 0} (g h : Option (List ℕ)) (u v : List ℕ) (a b : ℕ) (r : Result T E) (xs ys : List ℕ) → xs ≡ ys → Puts g h u v a b r xs → Puts g h u v a b r ys
puts_as g h u v a b r xs ys e p = subst (Puts g h u v a b r) e p

-- the answer in another form
pub puts_ok : {T U E : Type 0} (g h : Option (List ℕ)) (u v : List ℕ) (a b : ℕ) (x : T) (y : U) (xs : List ℕ) → Puts g h u v a b (ok_of {E = E} x) xs → Puts g h u v a b (ok_of {E = E} y) xs
puts_ok g h u v a b x y xs p = record { ok = p.ok; front = p.front; cause = record { later = p.cause.later; failed = tt; still = p.cause.still } }

-- all of it goes to the sink
pub flushed : {T U E : Type 0} (g h k : Option (List ℕ)) (empty waiting text : List ℕ) (a b c : ℕ) (x : T) (r : Result U E) → empty ≡ [] → Puts g h empty waiting a b (ok_of {E = E} x) text → OnOk r (Gains h k waiting) → OnOk r (Gains g k text)
flushed g h k empty waiting text a b c x (Ok y) e p gained = Passes-all g h k empty waiting text e p.ok gained
flushed g h k empty waiting text a b c x (Err y) e p gained = tt

pub flushed_front : {T E : Type 0} (g h k : Option (List ℕ)) (empty waiting text : List ℕ) (a b : ℕ) (x : T) → empty ≡ [] → Puts g h empty waiting a b (ok_of {E = E} x) text → GainsFront h k waiting → GainsFront g k text
flushed_front g h k empty waiting text a b x e p front = Passes-all_front g h k empty waiting text e p.ok front

pub flushed_cause : {T U E : Type 0} (g h : Option (List ℕ)) (u v text : List ℕ) (a b c : ℕ) (x : T) (r : Result U E) → Puts g h u v a b (ok_of {E = E} x) text → HasCause b c r → HasCause a c r
flushed_cause g h u v text a b c x r p q = cause_then a b c x r p.cause q

-- ---- loops

-- a front of the text has been put, and this is still to come; the count stands
pub record IsPut (old new : Option (List ℕ)) (waiting waiting' : List ℕ) (faults faults' : ℕ) (rest whole : List ℕ) : Type 0 where
  pub passed : IsPassed old new waiting waiting' rest whole
  pub still : faults' ≡ faults

pub IsPut-none : (told : Option (List ℕ)) (waiting whole whole' : List ℕ) (faults : ℕ) → whole ≡ whole' → IsPut told told waiting waiting faults faults whole whole'
IsPut-none told waiting whole whole' faults e = subst (λ z. IsPut told told waiting waiting faults faults whole z) e (record { passed = IsPassed-none told waiting whole; still = refl })

pub IsPut-more : {T E : Type 0} (g h k : Option (List ℕ)) (u v w : List ℕ) (a b c : ℕ) (x : T) (rest whole piece later : List ℕ) → IsPut g h u v a b rest whole → rest ≡ piece ++ later → Puts h k v w b c (ok_of {E = E} x) piece → IsPut g k u w a c later whole
IsPut-more g h k u v w a b c x rest whole piece later before e now = record {
  passed = IsPassed-more g h k u v w rest whole piece later before.passed e now.ok;
  still = now.cause.still ∙ before.still;
}

pub IsPut-stop : {T U E : Type 0} (g h k : Option (List ℕ)) (u v w : List ℕ) (a b c : ℕ) (q : Result T E) (r : Result U E) (rest whole piece later : List ℕ) → IsErr q → IsErr r → IsPut g h u v a b rest whole → rest ≡ piece ++ later → Puts h k v w b c q piece
    → Puts g k u w a c r whole
IsPut-stop {T} {U} {E} g h k u v w a b c (Ok x) r rest whole piece later none is before e now = absurd (false≢true none)
IsPut-stop {T} {U} {E} g h k u v w a b c (Err x) (Ok y) rest whole piece later err none before e now = absurd (false≢true none)
IsPut-stop {T} {U} {E} g h k u v w a b c (Err x) (Err y) rest whole piece later err is before e now = record {
  ok = tt;
  front = IsPassed-stop g h k u v rest whole piece later before.passed e now.front;
  cause = subst (λ n. HasCause {T = U} n c (Err y)) before.still (record { later = now.cause.later; failed = now.cause.failed; still = tt });
}

-- nothing is still to come
pub IsPut-done : {T E : Type 0} (g h : Option (List ℕ)) (u v : List ℕ) (a b : ℕ) (x : T) (rest whole : List ℕ) → IsPut g h u v a b rest whole → rest ≡ [] → Puts g h u v a b (ok_of {E = E} x) whole
IsPut-done g h u v a b x rest whole before e =
    let passed = IsPassed-done g h u v whole (subst (λ z. IsPassed g h u v z whole) e before.passed) in
    record {
      ok = passed;
      front = GainsFront-passed g h u v whole passed;
      cause = record { later = (let still = before.still in omega (arith, still)); failed = tt; still = before.still };
    }

-- the last piece is put by a call whose answer is the answer
pub IsPut-last : {T E : Type 0} (g h k : Option (List ℕ)) (u v w : List ℕ) (a b c : ℕ) (r : Result T E) (rest whole : List ℕ) → IsPut g h u v a b rest whole → Puts h k v w b c r rest → Puts g k u w a c r whole
IsPut-last {T} {E} g h k u v w a b c r rest whole before now = record {
  ok = on_ok r now.ok;
  front = subst (λ z. GainsFront g k (u ++ z)) before.passed.text (Passes-front g h k u v before.passed.done rest before.passed.passes now.front);
  cause = subst (λ n. HasCause n c r) before.still now.cause;
} where
  on_ok : (r : Result T E) → OnOk r (Passes h k v w rest) → OnOk r (Passes g k u w whole)
  on_ok (Ok y) p = subst (Passes g k u w) before.passed.text (Passes-append g h k u v w before.passed.done rest before.passed.passes p)
  on_ok (Err e) p = tt

-- ---- texts in parts

pub blanks_next : {X : Type 0} (f : X → List ℕ) (xs : List X) (i : ℕ) (x d : X) → i < length xs → x ≡ get_or xs i d → flat_map f (drop i xs) ≡ f x ++ flat_map f (drop (i + 1) xs)
blanks_next f xs i x d within is =
    ap (flat_map f) (drop-cons xs i d within) ∙ ap (λ y. f y ++ flat_map f (drop (suc i) xs)) (sym is) ∙ ap (λ n. f x ++ flat_map f (drop n xs)) (sym (add-one i))

pub flat_map-end : {X : Type 0} (f : X → List ℕ) (xs : List X) (i : ℕ) → length xs ≤ i → flat_map f (drop i xs) ≡ []
flat_map-end f xs i h = ap (flat_map f) (drop_all i xs h)

-- the pieces, the first behind a lead, each further one behind a separator
abbrev pub led : {X : Type 0} → (X → List ℕ) → List ℕ → List ℕ → List X → List ℕ
led f sep lead [] = []
led f sep lead (x ∷ xs) = (lead ++ f x) ++ led f sep sep xs

led_behind : {X : Type 0} (f : X → List ℕ) (c : ℕ) (x : X) (xs : List X) → f x ++ led f (c ∷ []) (c ∷ []) xs ≡ join_with_byte c (map f (x ∷ xs))
led_behind f c x [] = append-nil (f x)
led_behind f c x (y ∷ xs) = ap (λ z. f x ++ (c ∷ z)) (led_behind f c y xs)

pub led_join : {X : Type 0} (f : X → List ℕ) (c : ℕ) (xs : List X) → led f (c ∷ []) [] xs ≡ join_with_byte c (map f xs)
led_join f c [] = refl
led_join f c (x ∷ xs) = led_behind f c x xs

-- a line is its first word, the others behind blanks, and a line feed
blanks_join : {X : Type 0} (f : X → List ℕ) (xs : List X) → flat_map (λ q. 32 ∷ q) (map f xs) ≡ flat_map (λ x. 32 ∷ f x) xs
blanks_join f [] = refl
blanks_join f (x ∷ xs) = ap (λ z. (32 ∷ f x) ++ z) (blanks_join f xs)

pub line_parts : {X : Type 0} (f : X → List ℕ) (first : List ℕ) (xs : List X) → first ++ (flat_map (λ x. 32 ∷ f x) xs ++ 10 ∷ []) ≡ join_with_byte 32 (first ∷ map f xs) ++ 10 ∷ []
line_parts f first xs =
    sym (append_assoc first (flat_map (λ x. 32 ∷ f x) xs) (10 ∷ [])) ∙ ap (λ z. (first ++ z) ++ 10 ∷ []) (sym (blanks_join f xs)) ∙ ap (λ z. z ++ 10 ∷ []) (sym (join-behind 32 first (map f xs)))

-- rows from one on
abbrev pub rows_after : {X : Type 0} → ℕ → ℕ → List X → ℕ → List (List X)
rows_after cols rows cells row = rows_of cols (rows - row) (drop (row * cols) cells)

pub rows_after-next : {X : Type 0} (cols rows : ℕ) (cells : List X) (row : ℕ) → row < rows → rows_after cols rows cells row ≡ take cols (drop (row * cols) cells) ∷ rows_after cols rows cells (row + 1)
rows_after-next cols rows cells row below =
    let many : rows - row ≡ suc (rows - (row + 1)) = omega arith in
    let place : row * cols + cols ≡ (row + 1) * cols = omega arith in
    ap (λ n. rows_of cols n (drop (row * cols) cells)) many
    ∙ ap (λ z. take cols (drop (row * cols) cells) ∷ rows_of cols (rows - (row + 1)) z) (drop-drop cols (row * cols) cells ∙ ap (λ n. drop n cells) place)

pub rows_after-end : {X : Type 0} (cols rows : ℕ) (cells : List X) (row : ℕ) → rows ≤ row → rows_after cols rows cells row ≡ []
rows_after-end cols rows cells row above = let none : rows - row ≡ 0 = omega arith in ap (λ n. rows_of cols n (drop (row * cols) cells)) none

pub rows_after-all : {X : Type 0} (cols rows : ℕ) (cells : List X) → rows_after cols rows cells 0 ≡ rows_of cols rows cells
rows_after-all cols rows cells = let all : rows - 0 ≡ rows = omega arith in let none : 0 * cols ≡ 0 = omega arith in ap (λ n. rows_of cols n (drop (0 * cols) cells)) all ∙ ap (λ n. rows_of cols rows (drop n cells)) none

-- the cell of a row
pub in_row : {X : Type 0} (cols : ℕ) (cells : List X) (row col : ℕ) (d : X) → col < cols → get_or (take cols (drop (row * cols) cells)) col d ≡ get_or cells (row * cols + col) d
in_row cols cells row col d below = get_or-take cols (drop (row * cols) cells) col d below ∙ get_or-drop (row * cols) cells col d

-- one more piece behind a lead, and what ends a line
pub led_next : {X : Type 0} (f : X → List ℕ) (sep lead : List ℕ) (xs : List X) (i : ℕ) (d : X) → i < length xs → led f sep lead (drop i xs) ++ 10 ∷ [] ≡ (lead ++ f (get_or xs i d)) ++ (led f sep sep (drop (i + 1) xs) ++ 10 ∷ [])
led_next f sep lead xs i d within =
    ap (λ ys. led f sep lead ys ++ 10 ∷ []) (drop-cons xs i d within) ∙ append_assoc (lead ++ f (get_or xs i d)) (led f sep sep (drop (suc i) xs)) (10 ∷ [])
    ∙ ap (λ n. (lead ++ f (get_or xs i d)) ++ (led f sep sep (drop n xs) ++ 10 ∷ [])) (sym (add-one i))

pub led_end : {X : Type 0} (f : X → List ℕ) (sep lead : List ℕ) (xs : List X) (i : ℕ) → length xs ≡ i → 10 ∷ [] ≡ led f sep lead (drop i xs) ++ 10 ∷ []
led_end f sep lead xs i e = sym (ap (λ ys. led f sep lead ys ++ 10 ∷ []) (drop_all i xs (let same = e in omega (arith, same))))

-- one more byte of a row of an array
pub defects_next : (a : Defects) (row col b : ℕ) → IsArray a → row < a.size.rows → col < a.size.cols → b ≡ defect_byte (defect_at a (record { row = row; col = col }))
    → map defect_byte (drop col (take a.size.cols (drop (row * a.size.cols) a.cells))) ≡ (b ∷ []) ++ map defect_byte (drop (col + 1) (take a.size.cols (drop (row * a.size.cols) a.cells)))
defects_next a row col b is inside below e =
    let here : List Defect = take a.size.cols (drop (row * a.size.cols) a.cells) in
    let room : (row + 1) * a.size.cols ≤ length a.cells = let whole = is.whole in let most = mul-le-mul_right a.size.cols (let more : row + 1 ≤ a.size.rows = omega (arith, inside) in more) in omega (arith, whole, most) in
    let long : length (take a.size.cols (drop (row * a.size.cols) a.cells)) ≡ a.size.cols = length-take-le a.size.cols (drop (row * a.size.cols) a.cells) (omega (arith, room, length-drop (row * a.size.cols) a.cells)) in
    let within : col < length (take a.size.cols (drop (row * a.size.cols) a.cells)) = omega (arith, long, below) in
    ap (map defect_byte) (drop-cons (take a.size.cols (drop (row * a.size.cols) a.cells)) col Sound within)
    ∙ ap (λ z. defect_byte z ∷ map defect_byte (drop (suc col) (take a.size.cols (drop (row * a.size.cols) a.cells)))) (in_row a.size.cols a.cells row col Sound below)
    ∙ ap (λ z. z ∷ map defect_byte (drop (suc col) (take a.size.cols (drop (row * a.size.cols) a.cells)))) (sym e)
    ∙ ap (λ n. b ∷ map defect_byte (drop n (take a.size.cols (drop (row * a.size.cols) a.cells)))) (sym (add-one col))

pub block_parts : (v : Version) (b : BlockParts) → words_text (heading_words (heading_of b)) ++ text_of (lattice_lines (lattice_of b.answer) ++ proofs_lines (lists v (form_of b.answer)) b.proofs) ≡ block_text v b
unfolding block_text block_lines
block_parts v b = refl

pub head_parts : (v : Version) (rails : ℕ) (names : List (List ℕ)) → words_text (title_line v).words ++ (words_text (inputs_line names).words ++ text_of (rails_lines v rails)) ≡ head_text v rails names
unfolding head_text
head_parts v rails names = refl

mapped_blocks : (v : Version) (blocks : List Block) → flat_map (λ b. block_text v (parts_of_block b)) blocks ≡ blocks_text v (map parts_of_block blocks)
mapped_blocks v [] = refl
mapped_blocks v (b ∷ blocks) = ap (λ z. block_text v (parts_of_block b) ++ z) (mapped_blocks v blocks)

pub report_parts : (r : Report) → head_text r.version r.rails (map bytes_of r.input_names.items) ++ (flat_map (λ b. block_text r.version (parts_of_block b)) r.blocks.items ++ codes "end\n") ≡ report_text (parts_of_report r)
unfolding report_text
report_parts r = ap (λ z. head_text r.version r.rails (map bytes_of r.input_names.items) ++ (z ++ codes "end\n")) (mapped_blocks r.version r.blocks.items)

pub undecided_text : (output : ℕ) (name name' : List ℕ) (s : Size) (g : Lattice) (least : ℕ) (at : Size) (after : ℕ) (answer : Answer) → name ≡ name' → s ≡ g.size → answer ≡ answers.Undecided g least at after
    → words_text (codes "output" ∷ decimal output ∷ name ∷ codes "undecided" ∷ size_text s ∷ codes "least" ∷ decimal least ∷ codes "at" ∷ size_text at ∷ codes "after" ∷ decimal after ∷ [])
    ≡ words_text (codes "output" ∷ decimal output ∷ name' ∷ form_words (form_of answer))
undecided_text output name name' s g least at after answer e f a =
    ap (λ n. words_text (codes "output" ∷ decimal output ∷ n ∷ codes "undecided" ∷ size_text s ∷ codes "least" ∷ decimal least ∷ codes "at" ∷ size_text at ∷ codes "after" ∷ decimal after ∷ [])) e
    ∙ ap (λ z. words_text (codes "output" ∷ decimal output ∷ name' ∷ codes "undecided" ∷ size_text z ∷ codes "least" ∷ decimal least ∷ codes "at" ∷ size_text at ∷ codes "after" ∷ decimal after ∷ [])) f
    ∙ ap (λ z. words_text (codes "output" ∷ decimal output ∷ name' ∷ form_words (form_of z))) (sym a)
