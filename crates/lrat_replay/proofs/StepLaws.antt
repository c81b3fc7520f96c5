-- A written step is read as that step.
use Rattle.std.proofs.Common.{◌≡◌, ℕ, zero, suc, ◌==◌, ◌<◌, ◌≤◌, Bool, true, false, not, cond, ◌&&◌, List, [], ◌∷◌, ◌++◌, length, map, codes, refl, sym, ap, ◌∙◌, subst, arith, append_assoc, inl, inr, Option, None, Some, ℤ, pos, negsuc}
use Rattle.std.specs.Prelude.{nat_lt, nat_abs, neg_ℤ}
use Rattle.std.specs.List.{list_all, slice_split, onto_first, AllByRecursion}
use Rattle.std.specs.Option.{option_map}
use Rattle.std.specs.Str.{bytes_eq}
use Rattle.std.specs.Fmt.{decimal, signed_decimal}
use Rattle.std.proofs.lemmas.Bool.{cases_Bool, cond-true, cond-false, ne_eqb, and_parts}
use Rattle.std.proofs.lemmas.Bool.Decides.{nat_tests}
use Rattle.std.proofs.lemmas.List.Elements.{recursion_from_All, All-from_recursion}
use Rattle.std.proofs.lemmas.List.Splits.{slice_split-cons_yes, slice_split-cons_no}
use Rattle.clause_core.specs.Literal.{Literal}
use Rattle.clause_core.specs.declared.number.Number.{Number}
use Rattle.clause_core.specs.Number.{number_of, is_zero}
use Rattle.clause_core.specs.Text.{words_of}
use Rattle.clause_core.specs.Cnf.{literal_text, literals_text}
use Rattle.clause_core.specs.CnfRead.{literal_from}
use Rattle.clause_core.proofs.Tools.{prints, prints-apart, IsPrinted, signed_printed, number_of-signed, number_from, IsWord, IsSmall, printed-word, words-next, number_of-literal, number_of_literal, zero_number, words-literals, literal_printed, split-literals, literals-back}
use Rattle.lrat_replay.specs.declared.line.Step.{Step}
use Rattle.lrat_replay.specs.declared.line.LineKind.TheVariants.{Add}
use Rattle.lrat_replay.specs.LratRead.{if_small, small_number, value_of, is_mark, both, numbers_in, cut_in, addition_from, deletion_from, behind, front_of, kind_from, kind_of}
use Rattle.lrat_replay.specs.LratText.{hints_text, end_text, step_text}
use Rattle.lrat_replay.specs.StepRead.{IsCounted, IsStep, IsLineOf}

-- the line of a step, without its line feed
abbrev pub step_line : ℕ → List Literal → List ℤ → List ℕ
step_line id clause hints = decimal id ++ 32 ∷ (literals_text clause ++ (codes "0 " ++ (hints_text hints ++ codes "0")))

line-text : (id : ℕ) (clause : List Literal) (hints : List ℤ) → step_text id clause hints ≡ step_line id clause hints ++ 10 ∷ []
line-text id clause hints =
    append_assoc (decimal id) (32 ∷ []) (literals_text clause ++ end_text hints)
    ∙ ap (λ w. decimal id ++ 32 ∷ w) (ap (λ w. literals_text clause ++ (48 ∷ 32 ∷ w)) (sym (append_assoc (hints_text hints) (codes "0") (10 ∷ [])))
    ∙ sym (append_assoc (literals_text clause) (codes "0 " ++ (hints_text hints ++ codes "0")) (10 ∷ [])))
    ∙ sym (append_assoc (decimal id) (32 ∷ (literals_text clause ++ (codes "0 " ++ (hints_text hints ++ codes "0")))) (10 ∷ []))

-- one last byte
without_last : (a b : List ℕ) (x : ℕ) → a ++ x ∷ [] ≡ b ++ x ∷ [] → a ≡ b
without_last [] [] x e = refl
without_last [] (b ∷ []) x e = let k = ap length e in absurd (omega arith)
without_last [] (b ∷ c ∷ ys) x e = let k = ap length e in absurd (omega arith)
without_last (a ∷ []) [] x e = let k = ap length e in absurd (omega arith)
without_last (a ∷ c ∷ xs) [] x e = let k = ap length e in absurd (omega arith)
without_last (a ∷ xs) (b ∷ ys) x e = let p : a ≡ b = cc in let q : xs ++ x ∷ [] ≡ ys ++ x ∷ [] = cc in λ i. p i ∷ without_last xs ys x q i

-- numbers that are small
small-signed : (z : ℤ) → nat_abs z < 2147483648 → small_number (signed_decimal z) ≡ Some (number_from z)
small-signed z h = ap if_small (number_of-signed z (below (nat_abs z) h)) ∙ by z h where
  below : (n : ℕ) → n < 2147483648 → n < 10000000000
  below n h = omega arith

  by : (z : ℤ) → nat_abs z < 2147483648 → if_small (Some (number_from z)) ≡ Some (number_from z)
  by (pos n) h = cond-true (nat_lt n 2147483648) _ _ (grind (arith, nat_tests))
  by (negsuc n) h = cond-true (nat_lt (suc n) 2147483648) _ _ (grind (arith, nat_tests))

value_of-number : (z : ℤ) → value_of (number_from z) ≡ z
value_of-number (pos n) = refl
value_of-number (negsuc n) = refl

values-back : (hints : List ℤ) → map value_of (map number_from hints) ≡ hints
values-back [] = refl
values-back (h ∷ hs) = λ i. value_of-number h i ∷ values-back hs i

small-literal : (l : Literal) → IsSmall l → small_number (literal_text l) ≡ Some (number_of_literal l)
small-literal l h = ap if_small (number_of-literal l h) ∙ cond-true (nat_lt l.var 2147483648) _ _ (by l.var h.1) where
  by : (n : ℕ) → n < 2147483648 → nat_lt n 2147483648 ≡ true
  by n h = grind (arith, nat_tests)

abbrev IsHint : ℤ → Type 0
IsHint h = IsCounted (nat_abs h)

hint_printed : (h : ℤ) → IsHint h → IsPrinted (signed_decimal h)
hint_printed h k = signed_printed h (below (nat_abs h) k.1) where
  below : (n : ℕ) → n < 2147483648 → n < 10000000000
  below n h = omega arith

words-hints : (hints : List ℤ) (rest : List ℕ) → AllByRecursion IsHint hints → words_of (hints_text hints ++ rest) ≡ map signed_decimal hints ++ words_of rest
words-hints [] rest h = refl
words-hints (x ∷ hs) rest h =
    ap words_of (append_assoc (signed_decimal x ++ 32 ∷ []) (hints_text hs) rest ∙ append_assoc (signed_decimal x) (32 ∷ []) (hints_text hs ++ rest))
    ∙ words-next (signed_decimal x) (hints_text hs ++ rest) (printed-word (signed_decimal x) (hint_printed x h.0))
    ∙ ap (λ r. signed_decimal x ∷ r) (words-hints hs rest h.1)

-- the words behind the identifier
abbrev step_words : List Literal → List ℤ → List (List ℕ)
step_words clause hints = map literal_text clause ++ (codes "0" ∷ (map signed_decimal hints ++ (codes "0" ∷ [])))

zero_word : IsWord (codes "0")
zero_word = record { some = omega arith; solid = refl }

words-behind : (clause : List Literal) (hints : List ℤ) → AllByRecursion IsSmall clause → AllByRecursion IsHint hints → words_of (literals_text clause ++ (codes "0 " ++ (hints_text hints ++ codes "0"))) ≡ step_words clause hints
words-behind clause hints s h =
    words-literals clause (codes "0 " ++ (hints_text hints ++ codes "0")) s
    ∙ ap (λ r. map literal_text clause ++ r) (words-next (codes "0") (hints_text hints ++ codes "0") zero_word
    ∙ ap (λ r. codes "0" ∷ r) (words-hints hints (codes "0") h))

numbers-hints : (hints : List ℤ) (words : List (List ℕ)) → AllByRecursion IsHint hints → numbers_in (map signed_decimal hints ++ words) ≡ option_map (λ ns. map number_from hints ++ ns) (numbers_in words)
numbers-hints [] words h = by (numbers_in words) where
  by : (o : Option (List Number)) → o ≡ option_map (λ ns. ns) o
  by None = refl
  by (Some ns) = refl
numbers-hints (x ∷ hs) words h =
    (λ i. both (small-signed x h.0.1 i) (numbers-hints hs words h.1 i)) ∙ by (numbers_in words) where
      by : (o : Option (List Number)) → both (Some (number_from x)) (option_map (λ ns. map number_from hs ++ ns) o) ≡ option_map (λ ns. number_from x ∷ (map number_from hs ++ ns)) o
      by None = refl
      by (Some ns) = refl

numbers-clause : (clause : List Literal) (words : List (List ℕ)) → AllByRecursion IsSmall clause → numbers_in (map literal_text clause ++ words) ≡ option_map (λ ns. map number_of_literal clause ++ ns) (numbers_in words)
numbers-clause [] words h = by (numbers_in words) where
  by : (o : Option (List Number)) → o ≡ option_map (λ ns. ns) o
  by None = refl
  by (Some ns) = refl
numbers-clause (l ∷ ls) words h =
    (λ i. both (small-literal l h.0 i) (numbers-clause ls words h.1 i)) ∙ by (numbers_in words) where
      by : (o : Option (List Number)) → both (Some (number_of_literal l)) (option_map (λ ns. map number_of_literal ls ++ ns) o) ≡ option_map (λ ns. number_of_literal l ∷ (map number_of_literal ls ++ ns)) o
      by None = refl
      by (Some ns) = refl

split-hints : (hints : List ℤ) (later : List Number) → AllByRecursion IsHint hints → slice_split is_zero (map number_from hints ++ zero_number ∷ later) ≡ map number_from hints ∷ slice_split is_zero later
split-hints [] later h = slice_split-cons_yes is_zero zero_number later refl
split-hints (x ∷ hs) later h =
    slice_split-cons_no is_zero (number_from x) (map number_from hs ++ zero_number ∷ later) (some x h.0.0) ∙ ap (onto_first (number_from x)) (split-hints hs later h.1) where
      some : (z : ℤ) → 1 ≤ nat_abs z → is_zero (number_from z) ≡ false
      some (pos n) h = ne_eqb n 0 (λ e. omega arith)
      some (negsuc n) h = ne_eqb (suc n) 0 (λ e. omega arith)

cut-step : (clause : List Literal) (hints : List ℤ) → AllByRecursion IsSmall clause → AllByRecursion IsHint hints → cut_in (step_words clause hints) ≡ Some (map number_of_literal clause ∷ map number_from hints ∷ [] ∷ [])
cut-step clause hints s h =
    let last : numbers_in (codes "0" ∷ []) ≡ Some (zero_number ∷ []) = refl in
    let behind_zero : numbers_in (codes "0" ∷ (map signed_decimal hints ++ (codes "0" ∷ []))) ≡ Some (zero_number ∷ (map number_from hints ++ zero_number ∷ [])) =
    ap (both (Some zero_number)) (numbers-hints hints (codes "0" ∷ []) h ∙ ap (option_map (λ ns. map number_from hints ++ ns)) last) in
    ap (option_map (slice_split is_zero)) (numbers-clause clause (codes "0" ∷ (map signed_decimal hints ++ (codes "0" ∷ []))) s ∙ ap (option_map (λ ns. map number_of_literal clause ++ ns)) behind_zero)
    ∙ ap Some (split-literals clause (map number_from hints ++ zero_number ∷ []) s ∙ ap (λ r. map number_of_literal clause ∷ r) (split-hints hints [] h))

-- a printed word is not the mark of a deletion
printed_mark : (word : List ℕ) → IsPrinted word → is_mark word ≡ false
printed_mark [] h = absurd (let a = h.some in omega arith)
printed_mark (x ∷ xs) h = let p = and_parts (prints x) (list_all prints xs) h.plain in first x xs (prints-apart x 100 p.0 (inr (omega arith))) where
  first : (x : ℕ) (xs : List ℕ) → (x == 100) ≡ false → bytes_eq (x ∷ xs) (codes "d") ≡ false
  first x xs e = ap (λ b. b && bytes_eq xs []) e

behind-step : (id : ℕ) (clause : List Literal) (hints : List ℤ) → AllByRecursion IsSmall clause → behind id (step_words clause hints) ≡ addition_from id (cut_in (step_words clause hints))
behind-step id [] hints s = refl
behind-step id (l ∷ ls) hints s = cond-false (is_mark (literal_text l)) _ _ (printed_mark (literal_text l) (literal_printed l s.0))

front-id : (id : ℕ) → IsCounted id → front_of (small_number (decimal id)) ≡ Some id
front-id id h = ap front_of (small-signed (pos id) h.1) ∙ cond-true (not false && not (id == 0)) _ _ (some id h.0) where
  some : (n : ℕ) → 1 ≤ n → (not false && not (n == 0)) ≡ true
  some n h = grind (arith, nat_tests)

-- the words of the line of a step are that step
pub kind-step : (step : Step) → IsStep step → kind_of (words_of (step_line step.id step.clause step.hints)) ≡ Some (Add step)
kind-step step h =
    let small = recursion_from_All (λ l. IsCounted l.var) step.clause h.variables in
    let hints = recursion_from_All IsHint step.hints h.hints in
    let id_printed = signed_printed (pos step.id) (below step.id h.id.1) in
    ap kind_of (words-next (decimal step.id) (literals_text step.clause ++ (codes "0 " ++ (hints_text step.hints ++ codes "0"))) (printed-word (decimal step.id) id_printed)
    ∙ ap (λ r. decimal step.id ∷ r) (words-behind step.clause step.hints small hints))
    ∙ ap (λ o. kind_from o (step_words step.clause step.hints)) (front-id step.id h.id)
    ∙ behind-step step.id step.clause step.hints small
    ∙ ap (addition_from step.id) (cut-step step.clause step.hints small hints)
    ∙ (λ i. Some (Add (record { id = step.id; clause = literals-back step.clause i; hints = values-back step.hints i }))) where
      below : (n : ℕ) → n < 2147483648 → n < 10000000000
      below n h = omega arith

pub kind-line : (line : List ℕ) (step : Step) → IsLineOf line step → kind_of (words_of line) ≡ Some (Add step)
kind-line line step h =
    let same : step_line step.id step.clause step.hints ≡ line = without_last (step_line step.id step.clause step.hints) line 10 (sym (line-text step.id step.clause step.hints) ∙ h.text) in
    ap (λ l. kind_of (words_of l)) (sym same) ∙ kind-step step h.is_step

-- what is read is a step
abbrev IsShort : Number → Type 0
IsShort n = n.magnitude < 2147483648

abbrev IsKept : Number → Type 0
IsKept n = (1 ≤ n.magnitude) × (n.magnitude < 2147483648)

small_short : (o : Option Number) (n : Number) → if_small o ≡ Some n → IsShort n
small_short None n e = absurd (cc)
small_short (Some m) n e = elim (cases_Bool (nat_lt m.magnitude 2147483648)) [
  | inl t ↦ let k : Some m ≡ Some n = sym (cond-true (nat_lt m.magnitude 2147483648) (Some m) None t) ∙ e in let same : m ≡ n = cc in subst IsShort same (short m.magnitude t)
  | inr f ↦ let k : None ≡ Some n = sym (cond-false (nat_lt m.magnitude 2147483648) (Some m) None f) ∙ e in absurd (cc)
] where
  short : (a : ℕ) → nat_lt a 2147483648 ≡ true → a < 2147483648
  short a h = grind (arith, nat_tests)

numbers_short : (words : List (List ℕ)) (ns : List Number) → numbers_in words ≡ Some ns → AllByRecursion IsShort ns
numbers_short [] ns e = let same : [] ≡ ns = cc in subst (AllByRecursion IsShort) same tt
numbers_short (w ∷ ws) ns e = by (small_number w) (numbers_in ws) refl (numbers_short ws) e where
  by : (o : Option Number) (later : Option (List Number)) → small_number w ≡ o → ((ms : List Number) → later ≡ Some ms → AllByRecursion IsShort ms) → both o later ≡ Some ns → AllByRecursion IsShort ns
  by None later f more e = absurd (cc)
  by (Some n) None f more e = absurd (cc)
  by (Some n) (Some ms) f more e = let same : n ∷ ms ≡ ns = cc in subst (AllByRecursion IsShort) same (small_short (number_of w) n f, more ms refl)

pieces_kept : (ns : List Number) → AllByRecursion IsShort ns → AllByRecursion (AllByRecursion IsKept) (slice_split is_zero ns)
pieces_kept [] h = (tt, tt)
pieces_kept (n ∷ ns) h = elim (cases_Bool (is_zero n)) [
  | inl z ↦ subst (AllByRecursion (AllByRecursion IsKept)) (sym (slice_split-cons_yes is_zero n ns z)) (tt, pieces_kept ns h.1)
  | inr z ↦ subst (AllByRecursion (AllByRecursion IsKept)) (sym (slice_split-cons_no is_zero n ns z)) (put (slice_split is_zero ns) (some n.magnitude z, h.0) (pieces_kept ns h.1))
] where
  some : (a : ℕ) → (a == 0) ≡ false → 1 ≤ a
  some a e = grind (arith, nat_tests)

  put : (ps : List (List Number)) → IsKept n → AllByRecursion (AllByRecursion IsKept) ps → AllByRecursion (AllByRecursion IsKept) (onto_first n ps)
  put [] k h = ((k, tt), tt)
  put (p ∷ ps) k h = ((k, h.0), h.1)

kept_literals : (ns : List Number) → AllByRecursion IsKept ns → AllByRecursion IsSmall (map literal_from ns)
kept_literals [] h = tt
kept_literals (n ∷ ns) h = (h.0, kept_literals ns h.1)

kept_hints : (ns : List Number) → AllByRecursion IsKept ns → AllByRecursion IsHint (map value_of ns)
kept_hints [] h = tt
kept_hints (n ∷ ns) h = (subst IsCounted (sym (size n.negative n.magnitude)) h.0, kept_hints ns h.1) where
  size : (b : Bool) (a : ℕ) → nat_abs (cond b (neg_ℤ (pos a)) (pos a)) ≡ a
  size true zero = refl
  size true (suc a) = refl
  size false a = refl

-- what an addition that is read is like
record Read (id : ℕ) (step : Step) : Type 0 where
  pub same_id : step.id ≡ id
  pub clause : AllByRecursion IsSmall step.clause
  pub hints : AllByRecursion IsHint step.hints

same_step : (a b : Step) → Some (Add a) ≡ Some (Add b) → a ≡ b
same_step a b e = cc

addition_read : (id : ℕ) (pieces : List (List Number)) (step : Step) → AllByRecursion (AllByRecursion IsKept) pieces → addition_from id (Some pieces) ≡ Some (Add step) → Read id step
addition_read id [] step h e = absurd (cc)
addition_read id (lits ∷ []) step h e = absurd (cc)
addition_read id (lits ∷ hints ∷ []) step h e = absurd (cc)
addition_read id (lits ∷ hints ∷ [] ∷ []) step h e =
    subst (Read id) (same_step (record { id = id; clause = map literal_from lits; hints = map value_of hints }) step e) (record { same_id = refl; clause = kept_literals lits h.0; hints = kept_hints hints h.1.0 })
addition_read id (lits ∷ hints ∷ [] ∷ more ∷ pieces) step h e = absurd (cc)
addition_read id (lits ∷ hints ∷ (n ∷ ns) ∷ pieces) step h e = absurd (cc)

no_addition : (o : Option (List (List Number))) (step : Step) → deletion_from o ≡ Some (Add step) → ⊥
no_addition None step e = cc
no_addition (Some []) step e = cc
no_addition (Some (ids ∷ [])) step e = cc
no_addition (Some (ids ∷ [] ∷ [])) step e = cc
no_addition (Some (ids ∷ [] ∷ more ∷ pieces)) step e = cc
no_addition (Some (ids ∷ (n ∷ ns) ∷ pieces)) step e = cc

cut_read : (id : ℕ) (words : List (List ℕ)) (step : Step) → addition_from id (cut_in words) ≡ Some (Add step) → Read id step
cut_read id words step e = by (numbers_in words) refl e where
  by : (o : Option (List Number)) → numbers_in words ≡ o → addition_from id (option_map (slice_split is_zero) o) ≡ Some (Add step) → Read id step
  by None f e = absurd (cc)
  by (Some ns) f e = addition_read id (slice_split is_zero ns) step (pieces_kept ns (numbers_short words ns f)) e

behind_read : (id : ℕ) (words : List (List ℕ)) (step : Step) → behind id words ≡ Some (Add step) → Read id step
behind_read id [] step e = absurd (cc)
behind_read id (w ∷ ws) step e = elim (cases_Bool (is_mark w)) [
  | inl t ↦ absurd (no_addition (cut_in ws) step (sym (cond-true (is_mark w) (deletion_from (cut_in ws)) (addition_from id (cut_in (w ∷ ws))) t) ∙ e))
  | inr f ↦ cut_read id (w ∷ ws) step (sym (cond-false (is_mark w) (deletion_from (cut_in ws)) (addition_from id (cut_in (w ∷ ws))) f) ∙ e)
]

front_counted : (o : Option Number) (id : ℕ) → ((n : Number) → o ≡ Some n → IsShort n) → front_of o ≡ Some id → IsCounted id
front_counted None id short e = absurd (cc)
front_counted (Some n) id short e = elim (cases_Bool (not n.negative && not (is_zero n))) [
  | inl t ↦
      let k : Some n.magnitude ≡ Some id = sym (cond-true (not n.negative && not (is_zero n)) (Some n.magnitude) None t) ∙ e in
      let same : n.magnitude ≡ id = cc in
      subst IsCounted same (some n.negative n.magnitude t, short n refl)
  | inr f ↦ let k : None ≡ Some id = sym (cond-false (not n.negative && not (is_zero n)) (Some n.magnitude) None f) ∙ e in absurd (cc)
] where
  some : (b : Bool) (a : ℕ) → (not b && not (a == 0)) ≡ true → 1 ≤ a
  some b a e = grind (arith, nat_tests)

pub kind-is_step : (words : List (List ℕ)) (step : Step) → kind_of words ≡ Some (Add step) → IsStep step
kind-is_step [] step e = absurd (cc)
kind-is_step (w ∷ ws) step e = by (front_of (small_number w)) refl e where
  by : (o : Option ℕ) → front_of (small_number w) ≡ o → kind_from o ws ≡ Some (Add step) → IsStep step
  by None f e = absurd (cc)
  by (Some id) f e =
      let r = behind_read id ws step e in
      record {
        id = subst IsCounted (sym r.same_id) (front_counted (small_number w) id (λ n g. small_short (number_of w) n g) f);
        variables = All-from_recursion (λ l. IsCounted l.var) step.clause r.clause;
        hints = All-from_recursion IsHint step.hints r.hints;
      }

-- a line that is read as a step, and whose text it is not, is no line of a step
pub other_text : (line text : List ℕ) (read step : Step) → kind_of (words_of line) ≡ Some (Add read) → text ++ 10 ∷ [] ≡ step_text read.id read.clause read.hints → IsLineOf line step → text ≡ line
other_text line text read step k e h =
    let same = same_step read step (sym k ∙ kind-line line step h) in
    without_last text line 10 (e ∙ ap (λ s. step_text s.id s.clause s.hints) same ∙ h.text)

-- a line is that of one step at most
pub only_step : (line : List ℕ) (read step : Step) → kind_of (words_of line) ≡ Some (Add read) → IsLineOf line step → Some read ≡ Some step
only_step line read step k h = ap Some (same_step read step (sym k ∙ kind-line line step h))
