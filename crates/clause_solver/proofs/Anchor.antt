-- How many values stay when the clause of a conflict is learned.
use Rattle.std.proofs.Common.{◌≡◌, ℕ, zero, suc, ◌+◌, ◌<◌, ◌≤◌, true, false, List, [], ◌∷◌, ◌++◌, length, ◌⊎◌, inl, inr, refl, sym, ap, ◌∙◌, subst, arith, Some}
use Rattle.std.specs.Prelude.{slice_get}
use Rattle.std.proofs.lemmas.Bool.{both_ways}
use Rattle.std.proofs.lemmas.List.{length-append}
use Rattle.clause_core.specs.Literal.{Literal, flip, has}
use Rattle.clause_core.proofs.Tools.{flip-flip, has-first}
use Rattle.clause_solver.specs.Trail.{known_by, oldest, IsFresh}
use Rattle.clause_solver.specs.Analysis.{IsSecond, IsAnchor}
use Rattle.clause_solver.specs.declared.value.Value.{Value}
use Rattle.clause_solver.proofs.Reduce.{value-first}
use Rattle.clause_solver.proofs.Levels.{unknown-oldest}
use Rattle.clause_solver.proofs.Asserting.{has-pushed, has-kept}

pub anchored_none : (values : List Value) (clause : List Literal) → clause ≡ [] → IsAnchor values clause 0
anchored_none values clause e = inl (let l = ap length e in omega arith, refl)

get-kept : (xs : List Literal) (x : Literal) (k : ℕ) (l : Literal) → slice_get xs k ≡ Some l → slice_get (xs ++ x ∷ []) k ≡ Some l
get-kept [] x k l = λ h. absurd (cc)
get-kept (y ∷ ys) x zero l = λ h. h
get-kept (y ∷ ys) x (suc k) l = λ h. get-kept ys x k l h

-- one more literal is kept
module _ (values : List Value) (place : ℕ) (v : Value) (inside : place < length values) (is : oldest (place + 1) values ≡ v ∷ oldest place values) (fresh : IsFresh (known_by (oldest place values)) v.lit)
    (clause clause' : List Literal) (grown : clause' ≡ clause ++ flip v.lit ∷ []) (apart : (l : Literal) → has clause l ≡ true → known_by (oldest (place + 1) values) (flip l) ≡ false) where
  second : (one : Literal) → clause ≡ one ∷ [] → has clause one ≡ true → IsSecond values clause' (place + 1)
  second one only h = record {
    place = place;
    after_is = refl;
    within = inside;
    one = one;
    two = flip v.lit;
    one_at = ap (λ c. slice_get c 0) (grown ∙ ap (λ c. c ++ flip v.lit ∷ []) only);
    two_at = ap (λ c. slice_get c 1) (grown ∙ ap (λ c. c ++ flip v.lit ∷ []) only);
    one_in = subst (λ c. has c one ≡ true) (sym grown) (has-kept clause (flip v.lit) one h);
    two_in = subst (λ c. has c (flip v.lit) ≡ true) (sym grown) (has-pushed clause (flip v.lit));
    apart = λ e. both_ways (known_by (oldest (place + 1) values) (flip one)) (apart one h)
        (subst (λ vs. known_by vs (flip one) ≡ true) (sym is) (subst (λ x. known_by (v ∷ oldest place values) x ≡ true) (sym (flip-flip v.lit) ∙ ap flip (sym e)) (value-first v (oldest place values))));
    one_unknown = unknown-oldest values place (place + 1) (flip one) (omega arith) (apart one h);
    two_unknown = ap (known_by (oldest place values)) (flip-flip v.lit) ∙ fresh.unknown;
  }

  kept : (after : ℕ) → IsSecond values clause after → IsSecond values clause' after
  kept after s = record {
    place = s.place;
    after_is = s.after_is;
    within = s.within;
    one = s.one;
    two = s.two;
    one_at = ap (λ c. slice_get c 0) grown ∙ get-kept clause (flip v.lit) 0 s.one s.one_at;
    two_at = ap (λ c. slice_get c 1) grown ∙ get-kept clause (flip v.lit) 1 s.two s.two_at;
    one_in = subst (λ c. has c s.one ≡ true) (sym grown) (has-kept clause (flip v.lit) s.one s.one_in);
    two_in = subst (λ c. has c s.two ≡ true) (sym grown) (has-kept clause (flip v.lit) s.two s.two_in);
    apart = s.apart;
    one_unknown = s.one_unknown;
    two_unknown = s.two_unknown;
  }

  pub anchored_more : (after after' : ℕ) → ((length clause ≡ 1) × (after' ≡ place + 1)) ⊎ ((length clause ≡ 1 → ⊥) × (after' ≡ after)) → IsAnchor values clause after → IsAnchor values clause' after'
  anchored_more after after' (inl e) a = inr (subst (IsSecond values clause') (sym e.1) (by clause refl e.0)) where
    by : (c : List Literal) → clause ≡ c → length clause ≡ 1 → IsSecond values clause' (place + 1)
    by [] q e = let l = ap length q in absurd (omega arith)
    by (x ∷ []) q e = second x q (subst (λ c. has c x ≡ true) (sym q) (has-first x []))
    by (x ∷ y ∷ xs) q e = let l = ap length q in absurd (omega arith)
  anchored_more after after' (inr e) (inl a) = inl (let l = ap length grown in let k = length-append clause (flip v.lit ∷ []) in many clause clause' after (e.0) a.0 l k, e.1 ∙ a.1) where
    many : (c c' : List Literal) (after : ℕ) → (length c ≡ 1 → ⊥) → length c ≤ 1 → length c' ≡ length (c ++ flip v.lit ∷ []) → length (c ++ flip v.lit ∷ []) ≡ length c + length (flip v.lit ∷ []) → length c' ≤ 1
    many c c' after n h l k = let m : length c < 1 = small (length c) n h in omega arith where
      small : (a : ℕ) → (a ≡ 1 → ⊥) → a ≤ 1 → a < 1
      small a n h = grind arith
  anchored_more after after' (inr e) (inr a) = inr (subst (IsSecond values clause') (sym e.1) (kept after a))
