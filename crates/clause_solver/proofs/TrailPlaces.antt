-- The values at the places of a trail.
use Rattle.std.proofs.Common.{◌≡◌, ℕ, zero, suc, ◌+◌, ◌-◌, ◌*◌, ◌<◌, ◌≤◌, cond, List, [], ◌∷◌, ◌++◌, length, take, drop, reverse, get_or, refl, sym, ap, ◌∙◌, subst, arith, Bool, true, false, not, ◌&&◌, ◌||◌, length-drop}
use Rattle.std.proofs.lemmas.List.{reverse-append, take_more, take-append-drop, length-reverse, length-append, drop_at, length-take-le}
use Rattle.clause_core.specs.Literal.{Literal, number, same}
use Rattle.clause_core.proofs.Tools.{same-true}
use Rattle.lrat_replay.specs.Status.{without_literal}
use Rattle.clause_solver.specs.Trail.{Track, known_by, IsFresh, AreFresh, IsVariableOf, AreOver, oldest}
use Rattle.clause_solver.specs.declared.value.Value.{Value}
use Rattle.clause_solver.proofs.Reduce.{value-older}

-- the oldest values are the front of the list in the order of time
pub oldest_is : (items : List Value) (n : ℕ) → n ≤ length items → oldest n (reverse items) ≡ reverse (take n items)
oldest_is items n h =
    let parts : reverse items ≡ reverse (drop n items) ++ reverse (take n items) = ap reverse (sym (take-append-drop n items)) ∙ reverse-append (take n items) (drop n items) in
    let l = ap length parts in
    let a = length-append (reverse (drop n items)) (reverse (take n items)) in
    let b = length-reverse (take n items) in
    let d = length-take-le n items h in
    let many : length (reverse items) - n ≡ length (reverse (drop n items)) = omega arith in
    ap (λ w. drop (length (reverse items) - n) w) parts ∙ drop_at (reverse (drop n items)) (reverse (take n items)) (length (reverse items) - n) (sym many)

pub oldest-more : (items : List Value) (n : ℕ) (v : Value) → n < length items → v ≡ get_or items n v → oldest (n + 1) (reverse items) ≡ v ∷ oldest n (reverse items)
oldest-more items n v h e =
    let up : n + 1 ≤ length items = omega arith in
    let down : n ≤ length items = omega arith in
    oldest_is items (n + 1) up ∙ ap reverse (take_more items n v h ∙ ap (λ w. take n items ++ w ∷ []) (sym e)) ∙ reverse-append (take n items) (v ∷ []) ∙ ap (λ w. v ∷ w) (sym (oldest_is items n down))

pub fresh-drop : (values : List Value) (n : ℕ) → AreFresh values → AreFresh (drop n values)
fresh-drop values zero h = h
fresh-drop [] (suc n) h = tt
fresh-drop (e ∷ older) (suc n) h = fresh-drop older n h.1

pub over-drop : (vars : ℕ) (values : List Value) (n : ℕ) → AreOver vars values → AreOver vars (drop n values)
over-drop vars values zero h = h
over-drop vars [] (suc n) h = tt
over-drop vars (e ∷ older) (suc n) h = over-drop vars older n h.1

pub known-drop : (values : List Value) (n : ℕ) (l : Literal) → known_by (drop n values) l ≡ true → known_by values l ≡ true
known-drop values zero l h = h
known-drop [] (suc n) l h = h
known-drop (e ∷ older) (suc n) l h = value-older e older l (known-drop older n l h)

-- what is known of the value at a place
pub record IsValueAt (track : Track) (place : ℕ) (v : Value) : Type 0 where
  pub is : oldest (place + 1) track.values ≡ v ∷ oldest place track.values
  pub fresh : IsFresh (known_by (oldest place track.values)) v.lit
  pub variable : IsVariableOf track.vars v.lit

pub value_at : (items : List Value) (vars n : ℕ) (v : Value) → n < length items → v ≡ get_or items n v → AreFresh (reverse items) → AreOver vars (reverse items) →
    IsValueAt (record { vars = vars; values = reverse items }) n v
value_at items vars n v h e f w =
    let is = oldest-more items n v h e in
    record {
      is = is;
      fresh = (subst AreFresh is (fresh-drop (reverse items) (length (reverse items) - (n + 1)) f)).0;
      variable = (subst (AreOver vars) is (over-drop vars (reverse items) (length (reverse items) - (n + 1)) w)).0;
    }

-- the newest value taken back
pub known-pop : (v : Value) (older : List Value) → known_by older v.lit ≡ false → without_literal (known_by (v ∷ older)) v.lit ≡ known_by older
known-pop v older u = λ i. λ l. at l (same v.lit l) refl i where
  at : (l : Literal) (b : Bool) → same v.lit l ≡ b → (not (same v.lit l) && (same v.lit l || known_by older l)) ≡ known_by older l
  at l true e = ap (λ b. not b && (b || known_by older l)) e ∙ sym (ap (known_by older) (sym (same-true v.lit l e)) ∙ u)
  at l false e = ap (λ b. not b && (b || known_by older l)) e

drop-rest : (all : List Value) (k : ℕ) (v : Value) (rest : List Value) → drop k all ≡ v ∷ rest → drop (suc k) all ≡ rest
drop-rest [] zero v rest = λ h. cc
drop-rest [] (suc k) v rest = λ h. cc
drop-rest (x ∷ all) zero v rest = λ h. cc
drop-rest (x ∷ all) (suc k) v rest = λ h. drop-rest all k v rest h

pub oldest-rest : (all values rest : List Value) (v : Value) → values ≡ v ∷ rest → values ≡ oldest (length values) all → rest ≡ oldest (length rest) all
oldest-rest all values rest v e f =
    let long = ap length e in
    let same_long = ap length f ∙ length-drop (length all - length values) all in
    let next : suc (length all - length values) ≡ length all - length rest = omega arith in
    sym (ap (λ k. drop k all) (sym next) ∙ drop-rest all (length all - length values) v rest (sym f ∙ e))

-- a literal of these variables has a mark
pub number_below : (vars width : ℕ) (l : Literal) → IsVariableOf vars l → 2 * vars + 2 ≤ width → number l < width
number_below vars width l h wide = by l.negated where
  by : (b : Bool) → 2 * l.var + cond b 1 0 < width
  by true = let a = h.within in omega arith
  by false = let a = h.within in omega arith
