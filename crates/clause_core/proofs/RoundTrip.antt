-- The text of a formula is read as that formula.
use Rattle.std.proofs.Common.{◌≡◌, ℕ, ◌+◌, ◌==◌, ◌<◌, ◌≤◌, true, false, not, ◌&&◌, ◌||◌, List, [], ◌∷◌, ◌++◌, length, map, codes, refl, sym, ap, ◌∙◌, arith, append_assoc, None, Some, Ok}
use Rattle.std.specs.Prelude.{slice_index, nat_lt, nat_le}
use Rattle.std.specs.List.{list_all, flat_map, filter, AllByRecursion}
use Rattle.std.specs.Option.{option_map_or}
use Rattle.std.specs.Fmt.{decimal}
use Rattle.std.proofs.lemmas.Bool.{cond-true, cond-false, and_from, eq-eqb}
use Rattle.std.proofs.lemmas.Bool.Decides.{nat_tests}
use Rattle.std.proofs.lemmas.List.Folds.{list_all-append}
use Rattle.std.proofs.lemmas.List.Elements.{recursion_from_All}
use Rattle.clause_core.specs.Literal.{Literal}
use Rattle.clause_core.specs.Formula.{IsOver, most_clauses}
use Rattle.clause_core.specs.declared.read.Head.{Head}
use Rattle.clause_core.specs.Text.{Row, words_of, rows_from, rows_in, is_telling, is_comment, has_words, last_line}
use Rattle.clause_core.specs.Cnf.{literal_text, literals_text, clause_text, head_text, cnf_text}
use Rattle.clause_core.specs.CnfRead.{small, count_of, head_from, header_of, is_too_large, is_in_range, row_fault, first_fault, or_else, numbers_of, words_in, pieces_of, all_but_last, last_piece, formula_of, unless, after_header, rows_say, cnf_of, literal_from}
use Rattle.clause_core.specs.RoundTrip.{IsRoundTrip}
use Rattle.clause_core.proofs.NumberLaws.{digits_of-decimal, decimal_printed}
use Rattle.clause_core.proofs.DraftLaws.{all_but_last-push, last_piece-push}
use Rattle.clause_core.proofs.PrintedLaws.{IsWord, IsSmall, printed-word, words-next, words-last, no_feed, lines-next, shows, shows-feed, shows-first, shows-append, printed-shows, number_of-literal, words-literals, literals-show, numbers-literals, split-literals, literals-back}

-- the line of a clause, without its line feed
abbrev clause_line : List Literal → List ℕ
clause_line clause = literals_text clause ++ codes "0"

words-clause : (clause : List Literal) → AllByRecursion IsSmall clause → words_of (clause_line clause) ≡ map literal_text clause ++ (codes "0" ∷ [])
words-clause clause h = words-literals clause (codes "0") h

line-shows : (clause : List Literal) → AllByRecursion IsSmall clause → list_all shows (clause_line clause) ≡ true
line-shows clause h = shows-append (literals_text clause) (codes "0") (literals-show clause h) refl

text-line : (clause : List Literal) (rest : List ℕ) → clause_text clause ++ rest ≡ clause_line clause ++ 10 ∷ rest
text-line clause rest = append_assoc (literals_text clause) (codes "0\n") rest ∙ sym (append_assoc (literals_text clause) (codes "0") (10 ∷ rest))

some_words : (words : List (List ℕ)) (last : List ℕ) → has_words (words ++ (last ∷ [])) ≡ true
some_words [] last = refl
some_words (w ∷ words) last = refl

telling : (n : ℕ) (clause : List Literal) → AllByRecursion IsSmall clause → is_telling (record { number = n; bytes = clause_line clause }) ≡ true
telling n clause h = (λ i. not (shows-first (clause_line clause) 99 (line-shows clause h) refl refl i) && has_words (words-clause clause h i)) ∙ some_words (map literal_text clause) (codes "0")

kept-row : (n : ℕ) (line rest : List ℕ) → list_all no_feed line ≡ true → is_telling (record { number = n; bytes = line }) ≡ true → rows_in n (line ++ 10 ∷ rest) ≡ record { number = n; bytes = line } ∷ rows_in (n + 1) rest
kept-row n line rest h t = ap (λ ls. filter is_telling (rows_from n ls)) (lines-next line rest h) ∙ cond-true (is_telling (record { number = n; bytes = line })) _ _ t

-- the lines of clauses
abbrev rows_of : ℕ → List (List Literal) → List Row
rows_of n [] = []
rows_of n (clause ∷ clauses) = record { number = n; bytes = clause_line clause } ∷ rows_of (n + 1) clauses

rows-clauses : (n : ℕ) (clauses : List (List Literal)) → AllByRecursion (AllByRecursion IsSmall) clauses → rows_in n (flat_map clause_text clauses) ≡ rows_of n clauses
rows-clauses n [] h = refl
rows-clauses n (clause ∷ clauses) h =
    ap (rows_in n) (text-line clause (flat_map clause_text clauses)) ∙ kept-row n (clause_line clause) (flat_map clause_text clauses) (shows-feed (clause_line clause) (line-shows clause h.0)) (telling n clause h.0)
    ∙ ap (λ r. record { number = n; bytes = clause_line clause } ∷ r) (rows-clauses (n + 1) clauses h.1)

-- literals over so many variables
abbrev IsIn : ℕ → Literal → Type 0
IsIn vars l = (1 ≤ l.var) × (l.var ≤ vars)

in_range : (vars : ℕ) (clause : List Literal) → AllByRecursion IsSmall clause → AllByRecursion (IsIn vars) clause → list_all (is_in_range vars) (map literal_text clause ++ (codes "0" ∷ [])) ≡ true
in_range vars [] s h = grind (arith, nat_tests)
in_range vars (l ∷ ls) s h =
    and_from (is_in_range vars (literal_text l)) (list_all (is_in_range vars) (map literal_text ls ++ (codes "0" ∷ [])))
    (ap (λ o. option_map_or (λ n. nat_le n.magnitude vars) o false) (number_of-literal l s.0) ∙ within l.var h.0.1) (in_range vars ls s.1 h.1) where
      within : (n : ℕ) → n ≤ vars → nat_le n vars ≡ true
      within n h = grind (arith, nat_tests)

no_fault : (vars n : ℕ) (clauses : List (List Literal)) → AllByRecursion (AllByRecursion IsSmall) clauses → AllByRecursion (AllByRecursion (IsIn vars)) clauses → first_fault vars (rows_of n clauses) ≡ None
no_fault vars n [] s h = refl
no_fault vars n (clause ∷ clauses) s h =
    (λ i. or_else (fault i) (first_fault vars (rows_of (n + 1) clauses))) ∙ no_fault vars (n + 1) clauses s.1 h.1 where
      fault : row_fault vars (record { number = n; bytes = clause_line clause }) ≡ None
      fault = cond-false (slice_index (clause_line clause) 0 == 112) _ _ (shows-first (clause_line clause) 112 (line-shows clause s.0) refl refl)
          ∙ cond-true (list_all (is_in_range vars) (words_of (clause_line clause))) _ _ (ap (list_all (is_in_range vars)) (words-clause clause s.0) ∙ in_range vars clause s.0 h.0)

pieces-rows : (n : ℕ) (clauses : List (List Literal)) → AllByRecursion (AllByRecursion IsSmall) clauses → pieces_of (numbers_of (words_in (rows_of n clauses))) ≡ clauses ++ [] ∷ []
pieces-rows n [] s = refl
pieces-rows n (clause ∷ clauses) s =
    let later = words_in (rows_of (n + 1) clauses) in
    ap (λ ws. pieces_of (numbers_of (ws ++ later))) (words-clause clause s.0)
    ∙ ap (λ ws. pieces_of (numbers_of ws)) (append_assoc (map literal_text clause) (codes "0" ∷ []) later)
    ∙ ap pieces_of (numbers-literals clause (codes "0" ∷ later) s.0)
    ∙ ap (λ ps. map (λ piece. map literal_from piece) ps) (split-literals clause (numbers_of later) s.0)
    ∙ (λ i. literals-back clause i ∷ pieces-rows (n + 1) clauses s.1 i)

-- the header
abbrev head_line : ℕ → ℕ → List ℕ
head_line vars clauses = codes "p cnf " ++ (decimal vars ++ (codes " " ++ decimal clauses))

text-head : (vars clauses : ℕ) (rest : List ℕ) → head_text vars clauses ++ rest ≡ head_line vars clauses ++ 10 ∷ rest
text-head vars clauses rest =
    ap (λ w. codes "p cnf " ++ w) (append_assoc (decimal vars) (codes " " ++ (decimal clauses ++ (codes "\n" ++ []))) rest
    ∙ ap (λ w. decimal vars ++ w) (ap (λ w. codes " " ++ w) (append_assoc (decimal clauses) (codes "\n") rest) ∙ sym (append_assoc (codes " ") (decimal clauses) (10 ∷ rest)))
    ∙ sym (append_assoc (decimal vars) (codes " " ++ decimal clauses) (10 ∷ rest)))

feeds-append : (a b : List ℕ) → list_all no_feed a ≡ true → list_all no_feed b ≡ true → list_all no_feed (a ++ b) ≡ true
feeds-append a b h k = list_all-append no_feed a b ∙ and_from (list_all no_feed a) (list_all no_feed b) h k

below : (n : ℕ) → n < 2147483648 → n < 10000000000
below n h = omega arith

decimal-feed : (n : ℕ) → n < 2147483648 → list_all no_feed (decimal n) ≡ true
decimal-feed n h = shows-feed (decimal n) (printed-shows (decimal n) (decimal_printed n (below n h)))

head-feed : (vars clauses : ℕ) → vars < 2147483648 → clauses < 2147483648 → list_all no_feed (head_line vars clauses) ≡ true
head-feed vars clauses v c = feeds-append (codes "p cnf ") (decimal vars ++ (codes " " ++ decimal clauses)) refl (feeds-append (decimal vars) (codes " " ++ decimal clauses) (decimal-feed vars v) (decimal-feed clauses c))

decimal-word : (n : ℕ) → n < 2147483648 → IsWord (decimal n)
decimal-word n h = printed-word (decimal n) (decimal_printed n (below n h))

words-head : (vars clauses : ℕ) → vars < 2147483648 → clauses < 2147483648 → words_of (head_line vars clauses) ≡ codes "p" ∷ codes "cnf" ∷ decimal vars ∷ decimal clauses ∷ []
words-head vars clauses v c =
    words-next (codes "p") (codes "cnf " ++ (decimal vars ++ (codes " " ++ decimal clauses))) (record { some = omega arith; solid = refl })
    ∙ ap (λ r. codes "p" ∷ r) (words-next (codes "cnf") (decimal vars ++ (codes " " ++ decimal clauses)) (record { some = omega arith; solid = refl })
    ∙ ap (λ r. codes "cnf" ∷ r) (words-next (decimal vars) (decimal clauses) (decimal-word vars v)
    ∙ ap (λ r. decimal vars ∷ r) (words-last (decimal clauses) (decimal-word clauses c))))

count_of-decimal : (n : ℕ) → n < 2147483648 → count_of (decimal n) ≡ Some n
count_of-decimal n h = ap small (digits_of-decimal n (below n h)) ∙ cond-true (nat_lt n 2147483648) (Some n) None (grind (arith, nat_tests))

header-head : (vars clauses : ℕ) → vars < 2147483648 → clauses < 2147483648 → header_of (words_of (head_line vars clauses)) ≡ Some (record { vars = vars; clauses = clauses })
header-head vars clauses v c = ap header_of (words-head vars clauses v c) ∙ (λ i. head_from (count_of-decimal vars v i) (count_of-decimal clauses c i))

telling-head : (vars clauses : ℕ) → vars < 2147483648 → clauses < 2147483648 → is_telling (record { number = 1; bytes = head_line vars clauses }) ≡ true
telling-head vars clauses v c = ap (λ ws. not (is_comment (head_line vars clauses)) && has_words ws) (words-head vars clauses v c)

all_small : (vars : ℕ) (clause : List Literal) → vars < 2147483648 → AllByRecursion (IsIn vars) clause → AllByRecursion IsSmall clause
all_small vars [] v h = tt
all_small vars (l ∷ ls) v h = ((h.0.0, (let a = h.0.1 in omega arith)), all_small vars ls v h.1)

all_all_small : (vars : ℕ) (clauses : List (List Literal)) → vars < 2147483648 → AllByRecursion (AllByRecursion (IsIn vars)) clauses → AllByRecursion (AllByRecursion IsSmall) clauses
all_all_small vars [] v h = tt
all_all_small vars (clause ∷ clauses) v h = (all_small vars clause v h.0, all_all_small vars clauses v h.1)

each : (vars : ℕ) (clauses : List (List Literal)) → AllByRecursion (IsOver vars) clauses → AllByRecursion (AllByRecursion (IsIn vars)) clauses
each vars [] h = tt
each vars (clause ∷ clauses) h = (recursion_from_All (IsIn vars) clause h.0, each vars clauses h.1)

formula-whole : (end : ℕ) (head : Head) (clauses : List (List Literal)) → length clauses ≡ head.clauses → formula_of end head (clauses ++ [] ∷ []) ≡ Ok (record { vars = head.vars; clauses = clauses })
formula-whole end head clauses e =
    cond-true (length (last_piece (clauses ++ [] ∷ [])) == 0) _ _ (ap (λ p. length p == 0) (last_piece-push clauses []))
    ∙ cond-true (length (all_but_last (clauses ++ [] ∷ [])) == head.clauses) _ _ (ap (λ p. length p == head.clauses) (all_but_last-push clauses []) ∙ eq-eqb (length clauses) head.clauses e)
    ∙ ap (λ cs. Ok (record { vars = head.vars; clauses = cs })) (all_but_last-push clauses [])

pub round_trip : IsRoundTrip
unfolding cnf_of cnf_text
round_trip f h =
    let vars : f.vars < 2147483648 = (let a = h.few_variables in omega arith) in
    let count : length f.clauses < 2147483648 = (let a = h.few_clauses in omega arith) in
    let inside = each f.vars f.clauses (recursion_from_All (IsOver f.vars) f.clauses h.over) in
    let smalls = all_all_small f.vars f.clauses vars inside in
    let text = flat_map clause_text f.clauses in
    let head : Head = record { vars = f.vars; clauses = length f.clauses } in
    let end = last_line (head_text f.vars (length f.clauses) ++ text) in
    let rows : rows_in 1 (head_text f.vars (length f.clauses) ++ text) ≡ record { number = 1; bytes = head_line f.vars (length f.clauses) } ∷ rows_of 2 f.clauses =
    ap (rows_in 1) (text-head f.vars (length f.clauses) text) ∙ kept-row 1 (head_line f.vars (length f.clauses)) text (head-feed f.vars (length f.clauses) vars count) (telling-head f.vars (length f.clauses) vars count)
    ∙ ap (λ r. record { number = 1; bytes = head_line f.vars (length f.clauses) } ∷ r) (rows-clauses 2 f.clauses smalls) in
    let fits : is_too_large head ≡ false = not_large f.vars (length f.clauses) h.few_variables h.few_clauses in
    cond-false (nat_lt 67108864 (length (head_text f.vars (length f.clauses) ++ text))) _ _ (short (length (head_text f.vars (length f.clauses) ++ text)) h.short)
    ∙ ap (rows_say end) rows
    ∙ ap (λ o. after_header end 1 o (rows_of 2 f.clauses)) (header-head f.vars (length f.clauses) vars count)
    ∙ cond-false (is_too_large head) _ _ fits
    ∙ ap (λ o. unless o (formula_of end head (pieces_of (numbers_of (words_in (rows_of 2 f.clauses)))))) (no_fault f.vars 2 f.clauses smalls inside)
    ∙ ap (formula_of end head) (pieces-rows 2 f.clauses smalls)
    ∙ formula-whole end head f.clauses refl where
      short : (n : ℕ) → n ≤ 67108864 → nat_lt 67108864 n ≡ false
      short n h = grind (arith, nat_tests)

      not_large : (a b : ℕ) → a ≤ 16777216 → b ≤ most_clauses → (nat_lt 16777216 a || nat_lt most_clauses b) ≡ false
      not_large a b h k = grind (arith, nat_tests)
