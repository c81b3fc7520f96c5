-- The lines behind the header, one after the other.
use Rattle.std.proofs.Common.{◌≡◌, ℕ, ◌+◌, ◌<◌, ◌≤◌, length, arith, Bool, true, false, cond, ◌&&◌, codes, List, [], ◌∷◌, ◌++◌, refl, sym, ap, ◌∙◌, Option, None, Some, Result, Err}
use Rattle.clause_core.specs.Literal.{Literal}
use Rattle.clause_core.specs.Formula.{Formula}
use Rattle.clause_core.specs.declared.number.Number.{Number}
use Rattle.clause_core.specs.declared.read.Head.{Head}
use Rattle.clause_core.specs.declared.refusal.CnfRefusal.{CnfRefusal}
use Rattle.clause_core.specs.Text.{Row, words_of, lines_of, rows_in, last_line}
use Rattle.clause_core.specs.CnfRead.{row_fault, first_fault, or_else, numbers_of, words_in, pieces_of, joined, formula_of, unless, body_of, count_of, head_from, header_of, is_too_large, after_header, rows_say, cnf_of}
use Rattle.clause_core.specs.declared.refusal.CnfRefusal.TheVariants.{Header, TooLong, TooLarge}
use Rattle.std.specs.Prelude.{nat_lt}
use Rattle.std.proofs.lemmas.Bool.{cond-true, cond-false}
use Rattle.std.proofs.lemmas.Bool.Decides.{nat_tests}
use Rattle.std.specs.Str.{bytes_eq}
use Rattle.clause_core.proofs.DraftLaws.{pieces-some, numbers_of-append, joined-end}

-- what is to come, behind what was read
abbrev pub rest_of : ℕ → Head → List (List Literal) → List Literal → List Row → Result Formula CnfRefusal
rest_of end head done begun rows = unless (first_fault head.vars rows) (formula_of end head (joined done begun (pieces_of (numbers_of (words_in rows)))))

-- nothing was read
pub rest-none : (end : ℕ) (head : Head) (rows : List Row) → rest_of end head [] [] rows ≡ body_of end head rows
rest-none end head rows =
    let p = pieces-some (numbers_of (words_in rows)) in
    ap (λ pieces. unless (first_fault head.vars rows) (formula_of end head pieces)) (ap (joined [] []) p.are ∙ sym p.are)

-- one more line
pub rest-more : (end : ℕ) (head : Head) (done done' : List (List Literal)) (begun begun' : List Literal) (row : Row) (rows : List Row) → row_fault head.vars row ≡ None
    → ((later : List Number) → joined done' begun' (pieces_of later) ≡ joined done begun (pieces_of (numbers_of (words_of row.bytes) ++ later)))
    → rest_of end head done' begun' rows ≡ rest_of end head done begun (row ∷ rows)
rest-more end head done done' begun begun' row rows good taken =
    (λ i. unless (or_else (sym good i) (first_fault head.vars rows)) (formula_of end head (taken (numbers_of (words_in rows)) i)))
    ∙ ap (λ numbers. unless (or_else (row_fault head.vars row) (first_fault head.vars rows)) (formula_of end head (joined done begun (pieces_of numbers)))) (sym (numbers_of-append (words_of row.bytes) (words_in rows)))

-- a refused line
pub rest-refused : (end : ℕ) (head : Head) (done : List (List Literal)) (begun : List Literal) (row : Row) (rows : List Row) (refusal : CnfRefusal) → row_fault head.vars row ≡ Some refusal
    → rest_of end head done begun (row ∷ rows) ≡ Err refusal
rest-refused end head done begun row rows refusal bad =
    ap (λ o. unless (or_else o (first_fault head.vars rows)) (formula_of end head (joined done begun (pieces_of (numbers_of (words_in (row ∷ rows))))))) bad

-- no line is left
pub rest-end : (end : ℕ) (head : Head) (done : List (List Literal)) (begun : List Literal) → rest_of end head done begun [] ≡ formula_of end head (done ++ begun ∷ [])
rest-end end head done begun = ap (formula_of end head) (joined-end done begun)

-- words that are no header
pub head-not-p : (p cnf v c : List ℕ) (more : List (List ℕ)) → bytes_eq p (codes "p") ≡ false → header_of (p ∷ cnf ∷ v ∷ c ∷ more) ≡ None
head-not-p p cnf v c [] e = ap (λ b. cond (b && bytes_eq cnf (codes "cnf")) (head_from (count_of v) (count_of c)) None) e
head-not-p p cnf v c (x ∷ more) e = refl

pub head-not-cnf : (p cnf v c : List ℕ) (more : List (List ℕ)) → bytes_eq cnf (codes "cnf") ≡ false → header_of (p ∷ cnf ∷ v ∷ c ∷ more) ≡ None
head-not-cnf p cnf v c [] e = by (bytes_eq p (codes "p")) (bytes_eq cnf (codes "cnf")) e where
  by : (a b : Bool) → b ≡ false → cond (a && b) (head_from (count_of v) (count_of c)) None ≡ None
  by true b e = ap (λ t. cond t (head_from (count_of v) (count_of c)) None) e
  by false b e = refl
head-not-cnf p cnf v c (x ∷ more) e = refl

pub cnf-too-long : (bytes : List ℕ) → 67108864 < length bytes → Err TooLong ≡ cnf_of bytes
unfolding cnf_of
cnf-too-long bytes h = sym (cond-true (nat_lt 67108864 (length bytes)) _ _ (grind (arith, nat_tests)))

cnf-rows : (bytes : List ℕ) → length bytes ≤ 67108864 → cnf_of bytes ≡ rows_say (last_line bytes) (rows_in 1 bytes)
unfolding cnf_of
cnf-rows bytes h = cond-false (nat_lt 67108864 (length bytes)) _ _ (grind (arith, nat_tests))

pub cnf-none : (bytes : List ℕ) (last : ℕ) → length bytes ≤ 67108864 → rows_in 1 bytes ≡ [] → last + 1 ≡ 1 + length (lines_of bytes) → cnf_of bytes ≡ Err (Header last)
cnf-none bytes last h e l =
    let same : last_line bytes ≡ last = omega arith in
    cnf-rows bytes h ∙ ap (rows_say (last_line bytes)) e ∙ ap (λ n. Err (Header n)) same

pub cnf-row : (bytes : List ℕ) (row : Row) (rows : List Row) (o : Option Head) → length bytes ≤ 67108864 → rows_in 1 bytes ≡ row ∷ rows → header_of (words_of row.bytes) ≡ o
    → cnf_of bytes ≡ after_header (last_line bytes) row.number o rows
cnf-row bytes row rows o h e f = cnf-rows bytes h ∙ ap (rows_say (last_line bytes)) e ∙ ap (λ x. after_header (last_line bytes) row.number x rows) f

pub cnf-large : (bytes : List ℕ) (row : Row) (rows : List Row) (head : Head) → length bytes ≤ 67108864 → rows_in 1 bytes ≡ row ∷ rows → header_of (words_of row.bytes) ≡ Some head → is_too_large head ≡ true
    → cnf_of bytes ≡ Err (TooLarge row.number)
cnf-large bytes row rows head h e f large = cnf-row bytes row rows (Some head) h e f ∙ cond-true (is_too_large head) _ _ large

pub cnf-body : (bytes : List ℕ) (row : Row) (rows : List Row) (head : Head) → length bytes ≤ 67108864 → rows_in 1 bytes ≡ row ∷ rows → header_of (words_of row.bytes) ≡ Some head → is_too_large head ≡ false
    → cnf_of bytes ≡ body_of (last_line bytes) head rows
cnf-body bytes row rows head h e f large = cnf-row bytes row rows (Some head) h e f ∙ cond-false (is_too_large head) _ _ large
