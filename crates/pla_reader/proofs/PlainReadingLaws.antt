-- A plain text is read as what it means.
use Rattle.std.proofs.Common.{◌≡◌, ℕ, suc, zero, ◌+◌, ◌^◌, ◌≤◌, ◌<◌, Bool, true, false, ◌&&◌, ◌||◌, List, [], ◌∷◌, ◌++◌, length, get_or, take, drop, codes, decimal, refl, sym, ap, ◌∙◌, arith, subst, inl, inr, None, Some, append_assoc, length-append, length-drop, length-take, map, cond}
use Rattle.std.specs.Prelude.{◌==◌, not}
use Rattle.std.specs.declared.option.Option.{Option}
use Rattle.std.specs.List.{AllByRecursion, list_any, sum_by}
use Rattle.std.specs.Cmp.{nat_cmp_total}
use Rattle.std.specs.FinSet as set
use Rattle.std.proofs.lemmas.List.{take_at, get_or-append-add}
use Rattle.std.proofs.lemmas.List.Elements.{recursion_from_All}
use Rattle.std.proofs.lemmas.List.Sums.{sum_by-cons}
use Rattle.cube_core.specs.Members.{passing_below, AreDisjoint}
use Rattle.pla_reader.specs.declared.fault.LineFault.{LineFault}
use Rattle.pla_reader.specs.declared.fault.LineFault.TheVariants.{Inputs, Outputs}
use Rattle.pla_reader.specs.declared.kind.Kind.TheVariants.{Fd}
use Rattle.pla_reader.specs.Plain.{IsDigit, RowText, IsRow, Plain, IsPlain, Spells, row_text, rows_text, number_line, spelling}
use Rattle.pla_reader.specs.Meaning.{allows, covers, marked_below, ones_of, dashes_of, function_of, functions_below, functions_of}
use Rattle.pla_reader.specs.Names.{default_names}
use Rattle.pla_reader.specs.Parts.{Parts}
use Rattle.pla_reader.specs.PlainParts.{ReadsPlain}
use Rattle.pla_reader.specs.Lines.{Line, lines_of, line_length}
use Rattle.pla_reader.specs.Says.{Said}
use Rattle.pla_reader.specs.Says.Said.{Silent, GivesInputs, GivesOutputs, GivesRow, Ends}
use Rattle.pla_reader.specs.Given.{first_said, kind_said, input_names_said, output_names_said, rows_of, are_given, kind_in, kind_of_lines}
use Rattle.pla_reader.specs.Faults.{fault_after}
use Rattle.pla_reader.specs.Sets.{marks_on, marks_off, marks_free, row_names, named, sets_of, function_of_sets, functions_to}
use Rattle.pla_reader.specs.Reading.{lines_read, said_in, fault_at, AreSound, names_or, IsClear, parts_said, Reads}
use Rattle.pla_reader.proofs.PlainTextLaws.{head_line, row_line, end_line, row_digits, rows_say, plain_lines, plain_said, lines_of-plain, lines_read-plain, said_in-plain, first_none, rows_of-plain, rows_few, number_clear, row_clear}

-- a line after the two that give the numbers is a row, the end, or none
at_tail : (inputs outputs : ℕ) (says : Said → Option LineFault) → says Ends ≡ None → says Silent ≡ None → (rows : List RowText) (j : ℕ) → AllByRecursion (IsRow inputs outputs) rows
    → ((row : RowText) → IsRow inputs outputs row → j < length rows → says (GivesRow (row_digits row)) ≡ None) → says (get_or (rows_say rows ++ Ends ∷ []) j Silent) ≡ None
at_tail inputs outputs says end none [] zero h step = end
at_tail inputs outputs says end none [] (suc j) h step = none
at_tail inputs outputs says end none (row ∷ rows) zero h step = step row h.0 (omega arith)
at_tail inputs outputs says end none (row ∷ rows) (suc j) h step = at_tail inputs outputs says end none rows j h.1 (λ r is within. step r is (omega arith))

-- no line of a plain text has a fault
sound-plain : (plain : Plain) → IsPlain plain → (k : ℕ) → fault_at (plain_said plain) k ≡ None
sound-plain plain p zero = number_clear 10 plain.inputs Inputs p.some_inputs p.few_inputs
sound-plain plain p (suc zero) = number_clear 64 plain.outputs Outputs p.some_outputs p.few_outputs
sound-plain plain p (suc (suc j)) =
    let before : List Said = take j (rows_say plain.rows ++ Ends ∷ []) in
    at_tail plain.inputs plain.outputs (fault_after (GivesInputs (Some plain.inputs) ∷ GivesOutputs (Some plain.outputs) ∷ before)) refl refl plain.rows j
    (recursion_from_All (IsRow plain.inputs plain.outputs) plain.rows p.rows)
    (λ row is within.
    let few : length (rows_of before) < 65536 = let some = rows_few before in let cut = length-take j (rows_say plain.rows ++ Ends ∷ []) in let most = p.few_rows in omega (arith, some, cut) in
    row_clear plain.inputs plain.outputs (length (rows_of before)) row is few)

-- tests that agree pass one set
same_passing : (p q : ℕ → Bool) → ((x : ℕ) → p x ≡ q x) → (n : ℕ) → passing_below p n ≡ passing_below q n
same_passing p q same zero = refl
same_passing p q same (suc n) = ap (λ b. cond b (set.insert (passing_below p n) n) (passing_below p n)) (same n) ∙ ap (λ s. cond (q n) (set.insert s n) s) (same_passing p q same n)

none_passing : (n : ℕ) → passing_below (λ x. false) n ≡ set.empty
none_passing zero = refl
none_passing (suc n) = none_passing n

-- the mark of a plain row for an output
-- two tests of marks that agree on those that a plain row may have, and behind them
record Agree (f g : ℕ → Bool) : Type 0 where
  none : f 0 ≡ g 0
  zeros : f 48 ≡ g 48
  ones : f 49 ≡ g 49
  dashes : f 45 ≡ g 45

mark_at : (marks : List ℕ) (k : ℕ) → AllByRecursion IsDigit marks → (f g : ℕ → Bool) → Agree f g → f (get_or marks k 0) ≡ g (get_or marks k 0)
mark_at [] k h f g a = a.none
mark_at (m ∷ marks) zero h f g a = elim h.0 [
  | inl e ↦ ap f e ∙ a.zeros ∙ sym (ap g e)
  | inr (inl e) ↦ ap f e ∙ a.ones ∙ sym (ap g e)
  | inr (inr e) ↦ ap f e ∙ a.dashes ∙ sym (ap g e)
]
mark_at (m ∷ marks) (suc k) h f g a = mark_at marks k h.1 f g a

-- what a row of a plain text names
row_named : (f g : ℕ → Bool) (inputs outputs k x : ℕ) (row : RowText) → Agree f g → IsRow inputs outputs row → row_names f inputs k x (row_digits row) ≡ (g (get_or row.marks k 0) && allows row.digits x)
row_named f g inputs outputs k x row a h =
    ap (λ w. f (get_or (row_digits row) (inputs + k) 0) && allows w x) (take_at row.digits row.marks inputs h.digits)
    ∙ ap (λ n. f (get_or (row_digits row) (n + k) 0) && allows row.digits x) (sym h.digits)
    ∙ ap (λ m. f m && allows row.digits x) (get_or-append-add row.digits row.marks k 0)
    ∙ ap (λ b. b && allows row.digits x) (mark_at row.marks k (recursion_from_All IsDigit row.marks h.all_marks) f g a)

rows_named : (f g : ℕ → Bool) (inputs outputs k x : ℕ) → Agree f g → (rows : List RowText) → AllByRecursion (IsRow inputs outputs) rows
    → list_any (row_names f inputs k x) (map row_digits rows) ≡ list_any (λ row. g (get_or row.marks k 0) && allows row.digits x) rows
rows_named f g inputs outputs k x a [] h = refl
rows_named f g inputs outputs k x a (row ∷ rows) h =
    ap (λ b. b || list_any (row_names f inputs k x) (map row_digits rows)) (row_named f g inputs outputs k x row a h.0)
    ∙ ap (λ b. (g (get_or row.marks k 0) && allows row.digits x) || b) (rows_named f g inputs outputs k x a rows h.1)

none_any : (rows : List RowText) → list_any (λ row. false) rows ≡ false
none_any [] = refl
none_any (row ∷ rows) = none_any rows

-- the rows name so what they cover with a mark
named_with : (f : ℕ → Bool) (mark : ℕ) → Agree f (λ m. m == mark) → (inputs outputs k : ℕ) (rows : List RowText) → AllByRecursion (IsRow inputs outputs) rows
    → named f inputs (map row_digits rows) k ≡ marked_below mark rows k (2 ^ inputs)
named_with f mark a inputs outputs k rows h =
    same_passing (λ x. list_any (row_names f inputs k x) (map row_digits rows)) (λ x. list_any (covers mark k x) rows) (λ x. rows_named f (λ m. m == mark) inputs outputs k x a rows h) (2 ^ inputs)

-- a mark that no plain row has names nothing
named_none : (f : ℕ → Bool) → Agree f (λ m. false) → (inputs outputs k : ℕ) (rows : List RowText) → AllByRecursion (IsRow inputs outputs) rows → named f inputs (map row_digits rows) k ≡ set.empty
named_none f a inputs outputs k rows h =
    same_passing (λ x. list_any (row_names f inputs k x) (map row_digits rows)) (λ x. false) (λ x. rows_named f (λ m. false) inputs outputs k x a rows h ∙ none_any rows) (2 ^ inputs) ∙ none_passing (2 ^ inputs)

-- the sets of a plain text
sets_of-plain : (inputs outputs k : ℕ) (rows : List RowText) → AllByRecursion (IsRow inputs outputs) rows
    → sets_of Fd inputs (map row_digits rows) k ≡ record { on = marked_below 49 rows k (2 ^ inputs); off = set.empty; free = marked_below 45 rows k (2 ^ inputs) }
unfolding sets_of
sets_of-plain inputs outputs k rows h = λ i. record {
  on = named_with marks_on 49 (record { none = refl; zeros = refl; ones = refl; dashes = refl }) inputs outputs k rows h i;
  off = named_none (marks_off Fd) (record { none = refl; zeros = refl; ones = refl; dashes = refl }) inputs outputs k rows h i;
  free = named_with (marks_free Fd) 45 (record { none = refl; zeros = refl; ones = refl; dashes = refl }) inputs outputs k rows h i;
}

-- the function of an output of a plain text
function_of-plain : (plain : Plain) (k : ℕ) → AllByRecursion (IsRow plain.inputs plain.outputs) plain.rows → function_of_sets Fd plain.inputs (sets_of Fd plain.inputs (map row_digits plain.rows) k) ≡ function_of plain k
unfolding ones_of dashes_of
function_of-plain plain k h = ap (function_of_sets Fd plain.inputs) (sets_of-plain plain.inputs plain.outputs k plain.rows h)

functions_to-plain : (plain : Plain) (k : ℕ) → AllByRecursion (IsRow plain.inputs plain.outputs) plain.rows → functions_to Fd plain.inputs (map row_digits plain.rows) k ≡ functions_below plain k
functions_to-plain plain zero h = refl
functions_to-plain plain (suc k) h =
    ap (λ f. functions_to Fd plain.inputs (map row_digits plain.rows) k ++ f ∷ []) (function_of-plain plain k h) ∙ ap (λ fs. fs ++ function_of plain k ∷ []) (functions_to-plain plain k h)

-- nothing is named off
clear-plain : (inputs outputs k : ℕ) (rows : List RowText) → AllByRecursion (IsRow inputs outputs) rows → AreDisjoint (sets_of Fd inputs (map row_digits rows) k).on (sets_of Fd inputs (map row_digits rows) k).off
clear-plain inputs outputs k rows h =
    subst (λ s. AreDisjoint s.on s.off) (sym (sets_of-plain inputs outputs k rows h))
    (λ x on off. let e : true ≡ false = sym off ∙ set.contains-empty _ x in cc)

-- how many bytes the lines of a plain text take
length-rows : (rows : List RowText) → sum_by line_length (map row_line rows ++ end_line ∷ []) ≡ length (rows_text rows ++ codes ".e\n")
length-rows [] = refl
length-rows (row ∷ rows) =
    let first = sum_by-cons line_length (row_line row) (map row_line rows ++ end_line ∷ []) in
    let later = length-rows rows in
    let whole = length-append (rows_text (row ∷ rows)) (codes ".e\n") in
    let less = length-append (rows_text rows) (codes ".e\n") in
    let front = length-append (row_text row) (rows_text rows) in
    let here = length-append (row.digits ++ 32 ∷ row.marks) (10 ∷ []) in
    omega (arith, first, later, whole, less, front, here)

length-plain : (plain : Plain) → sum_by line_length (plain_lines plain) ≡ length (spelling plain)
length-plain plain =
    let lines : List Line = map row_line plain.rows ++ end_line ∷ [] in
    let first = sum_by-cons line_length (head_line (codes ".i ") plain.inputs) (head_line (codes ".o ") plain.outputs ∷ lines) in
    let second = sum_by-cons line_length (head_line (codes ".o ") plain.outputs) lines in
    let later = length-rows plain.rows in
    let tail : List ℕ = rows_text plain.rows ++ codes ".e\n" in
    let whole = length-append (number_line (codes ".i ") plain.inputs) (number_line (codes ".o ") plain.outputs ++ tail) in
    let less = length-append (number_line (codes ".o ") plain.outputs) tail in
    let one = length-append (codes ".i " ++ decimal plain.inputs) (10 ∷ []) in
    let two = length-append (codes ".o " ++ decimal plain.outputs) (10 ∷ []) in
    omega (arith, first, second, later, whole, less, one, two)

-- the text, with what follows it
whole_text : (plain : Plain) (rest : List ℕ) → spelling plain ++ rest ≡ number_line (codes ".i ") plain.inputs ++ (number_line (codes ".o ") plain.outputs ++ (rows_text plain.rows ++ (codes ".e\n" ++ rest)))
whole_text plain rest =
    let tail : List ℕ = rows_text plain.rows ++ codes ".e\n" in
    append_assoc (number_line (codes ".i ") plain.inputs) (number_line (codes ".o ") plain.outputs ++ tail) rest
    ∙ ap (λ w. number_line (codes ".i ") plain.inputs ++ w) (append_assoc (number_line (codes ".o ") plain.outputs) tail rest
    ∙ ap (λ w. number_line (codes ".o ") plain.outputs ++ w) (append_assoc (rows_text plain.rows) (codes ".e\n") rest))

-- what the lines of a plain text give, and the place after it
parts-plain : (plain : Plain) (parts : Parts) (place : ℕ) → IsPlain plain → parts.inputs ≡ plain.inputs → parts.outputs ≡ plain.outputs → parts.input_names ≡ default_names 120 plain.inputs → parts.output_names ≡ default_names 102 plain.outputs
    → parts.functions ≡ functions_of plain → parts.rest ≡ place → parts ≡ parts_said (plain_said plain) place
parts-plain plain parts place p inputs outputs ins outs functions rest =
    let rows : AllByRecursion (IsRow plain.inputs plain.outputs) plain.rows = recursion_from_All (IsRow plain.inputs plain.outputs) plain.rows p.rows in
    let kind : kind_of_lines (plain_said plain) ≡ Fd = ap kind_in (first_none kind_said (λ d. refl) refl plain.rows) in
    let ins_said : names_or 120 plain.inputs (first_said input_names_said (plain_said plain)) ≡ default_names 120 plain.inputs = ap (names_or 120 plain.inputs) (first_none input_names_said (λ d. refl) refl plain.rows) in
    let outs_said : names_or 102 plain.outputs (first_said output_names_said (plain_said plain)) ≡ default_names 102 plain.outputs = ap (names_or 102 plain.outputs) (first_none output_names_said (λ d. refl) refl plain.rows) in
    let made : functions_to (kind_of_lines (plain_said plain)) plain.inputs (rows_of (plain_said plain)) plain.outputs ≡ functions_of plain =
    ap (λ j. functions_to j plain.inputs (rows_of (plain_said plain)) plain.outputs) kind ∙ ap (λ w. functions_to Fd plain.inputs w plain.outputs) (rows_of-plain plain.rows) ∙ functions_to-plain plain plain.outputs rows in
    let in_names : parts.input_names ≡ names_or 120 plain.inputs (first_said input_names_said (plain_said plain)) = ins ∙ sym ins_said in
    let out_names : parts.output_names ≡ names_or 102 plain.outputs (first_said output_names_said (plain_said plain)) = outs ∙ sym outs_said in
    let all : parts.functions ≡ functions_to (kind_of_lines (plain_said plain)) plain.inputs (rows_of (plain_said plain)) plain.outputs = functions ∙ sym made in
    λ i. record { inputs = inputs i; outputs = outputs i; input_names = in_names i; output_names = out_names i; functions = all i; rest = rest i }

clear-said : (plain : Plain) (k : ℕ) → IsPlain plain → IsClear (plain_said plain) k
clear-said plain k p =
    let rows : AllByRecursion (IsRow plain.inputs plain.outputs) plain.rows = recursion_from_All (IsRow plain.inputs plain.outputs) plain.rows p.rows in
    let kind : kind_of_lines (plain_said plain) ≡ Fd = ap kind_in (first_none kind_said (λ d. refl) refl plain.rows) in
    subst (λ j. AreDisjoint (sets_of j plain.inputs (rows_of (plain_said plain)) k).on (sets_of j plain.inputs (rows_of (plain_said plain)) k).off) (sym kind)
    (subst (λ w. AreDisjoint (sets_of Fd plain.inputs w k).on (sets_of Fd plain.inputs w k).off) (sym (rows_of-plain plain.rows)) (clear-plain plain.inputs plain.outputs k plain.rows rows))

-- a value, by what the lines say
Reads-said : (bytes : List ℕ) (parts : Parts) (said : List Said) (place : ℕ) → length bytes ≤ 4194304 → said_in bytes ≡ said → place ≡ sum_by line_length (lines_read bytes) → AreSound said (length said) → are_given said ≡ true
    → ((k : ℕ) → IsClear said k) → parts ≡ parts_said said place → Reads bytes parts
Reads-said bytes parts said place few e here sound given clear gives = record {
  few = few;
  sound = subst (λ s. AreSound s (length s)) (sym e) sound;
  given = ap are_given e ∙ given;
  clear = λ k within. subst (λ s. IsClear s k) (sym e) (clear k);
  gives = gives ∙ ap (λ s. parts_said s place) (sym e) ∙ ap (parts_said (said_in bytes)) here;
}

place-plain : (plain : Plain) (bytes : List ℕ) (rest : ℕ) → Spells bytes plain rest → rest ≡ length (spelling plain)
place-plain plain bytes rest h =
    let whole = ap length h.text ∙ length-append (spelling plain) (drop rest bytes) in let left = length-drop rest bytes in let within = h.within in omega (arith, whole, left, within)

-- a plain text is read as what it means
pub Reads-plain : (bytes : List ℕ) (parts : Parts) → length bytes ≤ 4194304 → ReadsPlain bytes parts → Reads bytes parts
Reads-plain bytes parts few h =
    let plain : Plain = h.plain in
    let p : IsPlain plain = h.spelled.is_plain in
    let after : List ℕ = drop parts.rest bytes in
    let lines : lines_read bytes ≡ plain_lines plain = lines_read-plain plain bytes after p (ap lines_of (h.spelled.text ∙ whole_text plain after) ∙ lines_of-plain plain after p) in
    let place : parts.rest ≡ sum_by line_length (lines_read bytes) = place-plain plain bytes parts.rest h.spelled ∙ sym (length-plain plain) ∙ sym (ap (sum_by line_length) lines) in
    Reads-said bytes parts (plain_said plain) parts.rest few (said_in-plain plain bytes p lines) place (λ k within. sound-plain plain p k) refl (λ k. clear-said plain k p)
    (parts-plain plain parts parts.rest p h.inputs h.outputs h.input_names h.output_names h.functions refl)
