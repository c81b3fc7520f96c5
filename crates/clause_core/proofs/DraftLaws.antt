-- Numbers cut at each 0, one after the other.
use Rattle.std.proofs.Common.{◌≡◌, ℕ, ◌<◌, ◌==◌, true, false, cond, List, [], ◌∷◌, ◌++◌, length, map, refl, sym, ap, ◌∙◌, arith, append_assoc, Result, Ok, Err}
use Rattle.std.specs.List.{slice_split, onto_first}
use Rattle.std.specs.Prelude.{option_to_list, OnOk}
use Rattle.std.proofs.lemmas.List.Concat.{flat_map-append}
use Rattle.std.proofs.lemmas.Bool.{cond-true, cond-false}
use Rattle.std.proofs.lemmas.List.{append-nil}
use Rattle.std.proofs.lemmas.List.Splits.{slice_split-cons_yes, slice_split-cons_no}
use Rattle.clause_core.specs.Literal.{Literal}
use Rattle.clause_core.specs.declared.number.Number.{Number}
use Rattle.clause_core.specs.Number.{is_zero, number_of}
use Rattle.clause_core.specs.CnfRead.{literal_from, pieces_of, joined, numbers_of, all_but_last, last_piece, formula_of}
use Rattle.clause_core.specs.declared.refusal.CnfRefusal.TheVariants.{Count, Unended}

-- there is always a piece
pub record Pieces (pieces : List (List Literal)) : Type 0 where
  pub first : List Literal
  pub others : List (List Literal)
  pub are : pieces ≡ first ∷ others

split_some : (numbers : List Number) → 0 < length (slice_split is_zero numbers)
split_some [] = omega arith
split_some (x ∷ xs) = elim (is_zero x) as (λ b. 0 < length (cond b ([] ∷ slice_split is_zero xs) (onto_first x (slice_split is_zero xs)))) [
  | true ↦ omega arith
  | false ↦ onto (slice_split is_zero xs)
] where
  onto : (parts : List (List Number)) → 0 < length (onto_first x parts)
  onto [] = omega arith
  onto (part ∷ parts) = omega arith

some_pieces : (parts : List (List Number)) → 0 < length parts → Pieces (map (λ piece. map literal_from piece) parts)
some_pieces [] h = absurd (omega arith)
some_pieces (part ∷ parts) h = record { first = map literal_from part; others = map (λ piece. map literal_from piece) parts; are = refl }

pub pieces-some : (numbers : List Number) → Pieces (pieces_of numbers)
pieces-some numbers = some_pieces (slice_split is_zero numbers) (split_some numbers)

pub joined-zero : (done : List (List Literal)) (begun : List Literal) (n : Number) (later : List Number) → is_zero n ≡ true
    → joined (done ++ begun ∷ []) [] (pieces_of later) ≡ joined done begun (pieces_of (n ∷ later))
joined-zero done begun n later e =
    let p = pieces-some later in
    ap (joined (done ++ begun ∷ []) []) p.are ∙ append_assoc done (begun ∷ []) (p.first ∷ p.others)
    ∙ (λ i. done ++ (sym (append-nil begun) i ∷ sym p.are i))
    ∙ ap (λ parts. joined done begun (map (λ piece. map literal_from piece) parts)) (sym (slice_split-cons_yes is_zero n later e))

pub joined-literal : (done : List (List Literal)) (begun : List Literal) (n : Number) (later : List Number) → is_zero n ≡ false
    → joined done (begun ++ literal_from n ∷ []) (pieces_of later) ≡ joined done begun (pieces_of (n ∷ later))
joined-literal done begun n later e =
    by (slice_split is_zero later) ∙ ap (λ parts. joined done begun (map (λ piece. map literal_from piece) parts)) (sym (slice_split-cons_no is_zero n later e)) where
      by : (parts : List (List Number)) → joined done (begun ++ literal_from n ∷ []) (map (λ piece. map literal_from piece) parts) ≡ joined done begun (map (λ piece. map literal_from piece) (onto_first n parts))
      by [] = refl
      by (part ∷ parts) = ap (λ w. done ++ (w ∷ map (λ piece. map literal_from piece) parts)) (append_assoc begun (literal_from n ∷ []) (map literal_from part))

pub numbers_of-append : (a b : List (List ℕ)) → numbers_of (a ++ b) ≡ numbers_of a ++ numbers_of b
numbers_of-append a b = flat_map-append (λ word. option_to_list (number_of word)) a b

-- nothing comes later
pub joined-end : (done : List (List Literal)) (begun : List Literal) → joined done begun (pieces_of []) ≡ done ++ begun ∷ []
joined-end done begun = ap (λ w. done ++ w ∷ []) (append-nil begun)

pub all_but_last-push : (done : List (List Literal)) (begun : List Literal) → all_but_last (done ++ begun ∷ []) ≡ done
all_but_last-push [] begun = refl
all_but_last-push (x ∷ []) begun = refl
all_but_last-push (x ∷ y ∷ done) begun = ap (λ r. x ∷ r) (all_but_last-push (y ∷ done) begun)

pub last_piece-push : (done : List (List Literal)) (begun : List Literal) → last_piece (done ++ begun ∷ []) ≡ begun
last_piece-push [] begun = refl
last_piece-push (x ∷ []) begun = refl
last_piece-push (x ∷ y ∷ done) begun = last_piece-push (y ∷ done) begun

-- the end of a draft
module _ (line : ℕ) (vars clauses : ℕ) (done : List (List Literal)) (begun : List Literal) where
  pub finish-unended : (length begun == 0) ≡ false → Err (Unended line) ≡ formula_of line (record { vars = vars; clauses = clauses }) (done ++ begun ∷ [])
  finish-unended e = sym (cond-false (length (last_piece (done ++ begun ∷ [])) == 0) _ _ (ap (λ p. length p == 0) (last_piece-push done begun) ∙ e))

  pub finish-count : (length begun == 0) ≡ true → (length done == clauses) ≡ false → Err (Count line) ≡ formula_of line (record { vars = vars; clauses = clauses }) (done ++ begun ∷ [])
  finish-count e f = sym (cond-true (length (last_piece (done ++ begun ∷ [])) == 0) _ _ (ap (λ p. length p == 0) (last_piece-push done begun) ∙ e)
      ∙ cond-false (length (all_but_last (done ++ begun ∷ [])) == clauses) _ _ (ap (λ p. length p == clauses) (all_but_last-push done begun) ∙ f))

  pub finish-ok : (length begun == 0) ≡ true → (length done == clauses) ≡ true → Ok (record { vars = vars; clauses = done }) ≡ formula_of line (record { vars = vars; clauses = clauses }) (done ++ begun ∷ [])
  finish-ok e f = sym (cond-true (length (last_piece (done ++ begun ∷ [])) == 0) _ _ (ap (λ p. length p == 0) (last_piece-push done begun) ∙ e)
      ∙ cond-true (length (all_but_last (done ++ begun ∷ [])) == clauses) _ _ (ap (λ p. length p == clauses) (all_but_last-push done begun) ∙ f)
      ∙ ap (λ cs. Ok (record { vars = vars; clauses = cs })) (all_but_last-push done begun))

pub on_ok_both : {T E A B C : Type 0} (r : Result T E) → (A → B → C) → OnOk r A → OnOk r B → OnOk r C
on_ok_both (Ok x) f a b = f a b
on_ok_both (Err e) f a b = tt
