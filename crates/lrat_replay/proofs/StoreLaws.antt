-- The book that a store keeps.
use Rattle.std.proofs.Common.{◌≡◌, ℕ, zero, suc, ◌+◌, ◌-◌, ◌<◌, ◌≤◌, Bool, true, false, cond, List, [], ◌∷◌, ◌++◌, length, get_or, drop, refl, sym, ap, ◌∙◌, subst, arith, Option, None, Some, append_assoc, length-append, length-drop}
use Rattle.std.specs.Prelude.{is_some}
use Rattle.std.specs.FinSet as set
use Rattle.std.proofs.Math.ListN.{set, replicate, length-set}
use Rattle.std.proofs.lemmas.Bool.{eq-eqb, ne_eqb, true≢false}
use Rattle.std.proofs.lemmas.List.{drop-append-le, append-nil, length-replicate}
use Rattle.std.proofs.lemmas.List.Elements.{All-push, All-nil}
use Rattle.clause_core.specs.Literal.{Literal}
use Rattle.clause_core.specs.Formula.{Formula, IsOver}
use Rattle.lrat_replay.specs.Book.{Book, Numbered, numbered, all_of, find, live, is_live, without, last_of, last_id, after_addition, start}
use Rattle.lrat_replay.specs.Store.{steps_of, ids_of, clauses_of, counted, AreRising, book_of, IsStore, IsAbsent, IsPlace}
use Rattle.lrat_replay.proofs.RisingLaws.{rising_above, gone_of, gone_has, flagged_at, gone_set, gone_unset, remove-insert, flagged-push, flagged-none}

ids_of-append : (a b : List Numbered) → ids_of (a ++ b) ≡ ids_of a ++ ids_of b
ids_of-append [] b = refl
ids_of-append (x ∷ a) b = ap (λ r. x.id ∷ r) (ids_of-append a b)

clauses_of-append : (a b : List Numbered) → clauses_of (a ++ b) ≡ clauses_of a ++ clauses_of b
clauses_of-append [] b = refl
clauses_of-append (x ∷ a) b = ap (λ r. x.clause ∷ r) (clauses_of-append a b)

pub ids_of-numbered : (n : ℕ) (clauses : List (List Literal)) → ids_of (numbered n clauses) ≡ counted n (length clauses)
ids_of-numbered n [] = refl
ids_of-numbered n (c ∷ clauses) = ap (λ r. n ∷ r) (ids_of-numbered (n + 1) clauses)

clauses_of-numbered : (n : ℕ) (clauses : List (List Literal)) → clauses_of (numbered n clauses) ≡ clauses
clauses_of-numbered n [] = refl
clauses_of-numbered n (c ∷ clauses) = ap (λ r. c ∷ r) (clauses_of-numbered (n + 1) clauses)

ids_of-steps_of : (ids : List ℕ) (clauses : List (List Literal)) → length ids ≡ length clauses → ids_of (steps_of ids clauses) ≡ ids
ids_of-steps_of [] clauses e = refl
ids_of-steps_of (id ∷ ids) [] e = absurd (omega arith)
ids_of-steps_of (id ∷ ids) (c ∷ clauses) e = ap (λ r. id ∷ r) (ids_of-steps_of ids clauses (omega arith))

clauses_of-steps_of : (ids : List ℕ) (clauses : List (List Literal)) → length ids ≡ length clauses → clauses_of (steps_of ids clauses) ≡ clauses
clauses_of-steps_of [] [] e = refl
clauses_of-steps_of [] (c ∷ clauses) e = absurd (omega arith)
clauses_of-steps_of (id ∷ ids) [] e = absurd (omega arith)
clauses_of-steps_of (id ∷ ids) (c ∷ clauses) e = ap (λ r. c ∷ r) (clauses_of-steps_of ids clauses (omega arith))

steps_of-push : (ids : List ℕ) (clauses : List (List Literal)) (id : ℕ) (clause : List Literal) → length ids ≡ length clauses
    → steps_of (ids ++ id ∷ []) (clauses ++ clause ∷ []) ≡ steps_of ids clauses ++ record { id = id; clause = clause } ∷ []
steps_of-push [] [] id clause e = refl
steps_of-push [] (c ∷ clauses) id clause e = absurd (omega arith)
steps_of-push (x ∷ ids) [] id clause e = absurd (omega arith)
steps_of-push (x ∷ ids) (c ∷ clauses) id clause e = ap (λ r. record { id = x; clause = c } ∷ r) (steps_of-push ids clauses id clause (omega arith))

pub counted-push : (n many : ℕ) → counted n (many + 1) ≡ counted n many ++ (n + many) ∷ []
counted-push n zero = let e : n ≡ n + 0 = omega arith in ap (λ x. x ∷ []) e
counted-push n (suc many) =
    let e : n + 1 + many ≡ n + suc many = omega arith in
    let s : suc many + 1 ≡ suc (many + 1) = omega arith in
    ap (counted n) s ∙ ap (λ r. n ∷ r) (counted-push (n + 1) many ∙ ap (λ x. counted (n + 1) many ++ x ∷ []) e)

pub length-counted : (n many : ℕ) → length (counted n many) ≡ many
length-counted n zero = refl
length-counted n (suc many) = ap suc (length-counted (n + 1) many)

rising-counted : (n many : ℕ) → AreRising n (counted (n + 1) many)
rising-counted n zero = tt
rising-counted n (suc many) = (omega arith, rising-counted (n + 1) many)

-- the last number of a list
abbrev pub last_number : ℕ → List ℕ → ℕ
last_number n [] = n
last_number n (id ∷ ids) = last_number id ids

get_or-default : {X : Type 0} (xs : List X) (k : ℕ) (a b : X) → k < length xs → get_or xs k a ≡ get_or xs k b
get_or-default [] k a b h = absurd (omega arith)
get_or-default (x ∷ xs) zero a b h = refl
get_or-default (x ∷ xs) (suc k) a b h = get_or-default xs k a b (omega arith)

pub last_number-is : (n : ℕ) (ids : List ℕ) → last_number n ids ≡ get_or ids (length ids - 1) n
last_number-is n [] = refl
last_number-is n (id ∷ []) = refl
last_number-is n (id ∷ x ∷ ids) =
    let e : length (id ∷ x ∷ ids) - 1 ≡ suc (length (x ∷ ids) - 1) = omega arith in
    last_number-is id (x ∷ ids) ∙ get_or-default (x ∷ ids) (length (x ∷ ids) - 1) id n (omega arith) ∙ sym (ap (λ k. get_or (id ∷ x ∷ ids) k n) e)

rising-push : (n : ℕ) (ids : List ℕ) (id : ℕ) → AreRising n ids → last_number n ids < id → AreRising n (ids ++ id ∷ [])
rising-push n [] id h k = (k, tt)
rising-push n (x ∷ ids) id h k = (h.0, rising-push x ids id h.1 k)

last_of-number : (n : ℕ) (entries : List Numbered) → last_of n entries ≡ last_number n (ids_of entries)
last_of-number n [] = refl
last_of-number n (e ∷ entries) = last_of-number e.id entries

last_number-counted : (n many : ℕ) (ids : List ℕ) → last_number n (counted (n + 1) many ++ ids) ≡ last_number (n + many) ids
last_number-counted n zero ids = let e : n ≡ n + 0 = omega arith in ap (λ m. last_number m ids) e
last_number-counted n (suc many) ids = let e : n + 1 + many ≡ n + suc many = omega arith in last_number-counted (n + 1) many ids ∙ ap (λ m. last_number m ids) e

find_at : (n : ℕ) (entries : List Numbered) (k : ℕ) (clause : List Literal) → AreRising n (ids_of entries) → k < length (ids_of entries) → get_or (clauses_of entries) k clause ≡ clause
    → find entries (get_or (ids_of entries) k 0) ≡ Some clause
find_at n [] k clause h l e = absurd (omega arith)
find_at n (x ∷ entries) zero clause h l e = ap (λ b. cond b (Some x.clause) (find entries x.id)) (eq-eqb x.id x.id refl) ∙ ap Some e
find_at n (x ∷ entries) (suc k) clause h l e =
    let r = rising_above x.id (ids_of entries) k h.1 (omega arith) in
    let other : x.id ≡ get_or (ids_of entries) k 0 → ⊥ = λ q. omega arith in
    ap (λ b. cond b (Some x.clause) (find entries (get_or (ids_of entries) k 0))) (ne_eqb x.id (get_or (ids_of entries) k 0) other) ∙ find_at x.id entries k clause h.1 (omega arith) e

pub find_none : (entries : List Numbered) (id : ℕ) → IsAbsent (ids_of entries) id → find entries id ≡ None
find_none [] id h = refl
find_none (e ∷ entries) id h =
    ap (λ b. cond b (Some e.clause) (find entries id)) (ne_eqb e.id id (h 0 (omega arith))) ∙ find_none entries id (λ k l. h (suc k) (omega arith))

-- the parts of a store, and the book that they make
module _ (formula : Formula) (steps : List (List Literal)) (ids : List ℕ) (flags : List Bool) (h : IsStore formula steps ids flags) where
  rest_many : length (drop (length formula.clauses) ids) ≡ length steps
  rest_many = let e = h.many_ids in omega (arith, length-drop (length formula.clauses) ids)

  pub clauses-is : clauses_of (all_of (book_of formula steps ids flags)) ≡ formula.clauses ++ steps
  clauses-is = clauses_of-append (numbered 1 formula.clauses) (steps_of (drop (length formula.clauses) ids) steps)
      ∙ (λ i. clauses_of-numbered 1 formula.clauses i ++ clauses_of-steps_of (drop (length formula.clauses) ids) steps rest_many i)

  pub length-all : length (all_of (book_of formula steps ids flags)) ≡ length ids
  length-all = sym (many (all_of (book_of formula steps ids flags))) ∙ ap length h.same_ids where
    many : (entries : List Numbered) → length (ids_of entries) ≡ length entries
    many [] = refl
    many (e ∷ entries) = ap suc (many entries)

  pub last_id-is : last_id (book_of formula steps ids flags) ≡ last_number 0 ids
  last_id-is =
      let all = all_of (book_of formula steps ids flags) in
      let later = steps_of (drop (length formula.clauses) ids) steps in
      let none_more : 0 + length formula.clauses ≡ length formula.clauses = omega arith in
      last_of-number (length formula.clauses) later
      ∙ sym (ap (last_number 0) (sym h.same_ids ∙ ids_of-append (numbered 1 formula.clauses) later ∙ ap (λ w. w ++ ids_of later) (ids_of-numbered 1 formula.clauses))
      ∙ last_number-counted 0 (length formula.clauses) (ids_of later) ∙ ap (λ n. last_number n (ids_of later)) none_more)

  rising_all : AreRising 0 (ids_of (all_of (book_of formula steps ids flags)))
  rising_all = subst (AreRising 0) (sym h.same_ids) h.rising

  pub live_absent : (id : ℕ) → IsAbsent ids id → live (book_of formula steps ids flags) id ≡ None
  live_absent id absent = either (set.contains (gone_of ids flags) id) (find_none (all_of (book_of formula steps ids flags)) id (subst (λ xs. IsAbsent xs id) (sym h.same_ids) absent)) where
    either : (b : Bool) {o : Option (List Literal)} → o ≡ None → cond b None o ≡ None
    either true e = refl
    either false e = e

  has_place : (id place : ℕ) → IsPlace ids id place → set.contains (gone_of ids flags) id ≡ get_or flags place false
  has_place id place p = ap (set.contains (gone_of ids flags)) (sym p.is) ∙ gone_has ids flags (get_or ids place 0) ∙ flagged_at 0 ids flags place h.rising p.within

  flag_at : (id place : ℕ) (flag : Bool) → IsPlace ids id place → flag ≡ get_or flags place flag → set.contains (gone_of ids flags) id ≡ flag
  flag_at id place flag p e =
      let within : place < length flags = (let a = h.many_flags in let b = p.within in omega arith) in
      has_place id place p ∙ get_or-default flags place false flag within ∙ sym e

  pub live_gone : (id place : ℕ) (flag : Bool) → IsPlace ids id place → flag ≡ get_or flags place flag → flag ≡ true → live (book_of formula steps ids flags) id ≡ None
  live_gone id place flag p e t = ap (λ b. cond b None (find (all_of (book_of formula steps ids flags)) id)) (flag_at id place flag p e ∙ t)

  pub live_found : (id place : ℕ) (flag : Bool) (clause : List Literal) → IsPlace ids id place → flag ≡ get_or flags place flag → flag ≡ false
      → get_or (formula.clauses ++ steps) place clause ≡ clause → live (book_of formula steps ids flags) id ≡ Some clause
  live_found id place flag clause p e f c =
      let all = all_of (book_of formula steps ids flags) in
      ap (λ b. cond b None (find all id)) (flag_at id place flag p e ∙ f)
      ∙ ap (find all) (sym p.is ∙ ap (λ xs. get_or xs place 0) (sym h.same_ids))
      ∙ find_at 0 all place clause rising_all (subst (λ xs. place < length xs) (sym h.same_ids) p.within) (ap (λ cs. get_or cs place clause) clauses-is ∙ c)

  -- one more clause
  module _ (id : ℕ) (clause : List Literal) (above : last_id (book_of formula steps ids flags) < id) (over : IsOver formula.vars clause) where
    pub pushed-book : book_of formula (steps ++ clause ∷ []) (ids ++ id ∷ []) (flags ++ false ∷ []) ≡ after_addition (book_of formula steps ids flags) id clause
    pushed-book =
        let within : length formula.clauses ≤ length ids = (let e = h.many_ids in omega arith) in
        λ i. record {
          formula = formula;
          steps = (ap (λ xs. steps_of xs (steps ++ clause ∷ [])) (drop-append-le (length formula.clauses) ids (id ∷ []) within) ∙ steps_of-push (drop (length formula.clauses) ids) steps id clause rest_many) i;
          deleted = set.from_list (flagged-push ids flags id h.many_flags i);
        }

    pub pushed-store : IsStore formula (steps ++ clause ∷ []) (ids ++ id ∷ []) (flags ++ false ∷ [])
    pushed-store = record {
      many_ids = (let e = h.many_ids in omega (arith, length-append ids (id ∷ []), length-append steps (clause ∷ [])));
      many_flags = (let e = h.many_flags in omega (arith, length-append ids (id ∷ []), length-append flags (false ∷ [])));
      same_ids = ap (λ b. ids_of (all_of b)) pushed-book ∙ ap ids_of (sym (append_assoc (numbered 1 formula.clauses) (steps_of (drop (length formula.clauses) ids) steps) (record { id = id; clause = clause } ∷ [])))
          ∙ ids_of-append (all_of (book_of formula steps ids flags)) (record { id = id; clause = clause } ∷ []) ∙ ap (λ w. w ++ id ∷ []) h.same_ids;
      rising = rising-push 0 ids id h.rising (subst (λ n. n < id) last_id-is above);
      over = All-push (IsOver formula.vars) steps clause h.over over;
    }

    pub store_more : (steps' : List (List Literal)) (ids' : List ℕ) (flags' : List Bool) → steps' ≡ steps ++ clause ∷ [] → ids' ≡ ids ++ id ∷ [] → flags' ≡ flags ++ false ∷ [] → IsStore formula steps' ids' flags'
    store_more steps' ids' flags' p q r =
        subst (λ s. IsStore formula s ids' flags') (sym p) (subst (λ s. IsStore formula (steps ++ clause ∷ []) s flags') (sym q) (subst (λ s. IsStore formula (steps ++ clause ∷ []) (ids ++ id ∷ []) s) (sym r) pushed-store))

    pub book_more : (steps' : List (List Literal)) (ids' : List ℕ) (flags' : List Bool) → steps' ≡ steps ++ clause ∷ [] → ids' ≡ ids ++ id ∷ [] → flags' ≡ flags ++ false ∷ [] → book_of formula steps' ids' flags' ≡ after_addition (book_of formula steps ids flags) id clause
    book_more steps' ids' flags' p q r = (λ i. book_of formula (p i) (q i) (r i)) ∙ pushed-book

-- the store of a formula without steps
pub new-book : (formula : Formula) (ids : List ℕ) (many : ℕ) → ids ≡ counted 1 (length formula.clauses) → book_of formula [] ids (replicate many false) ≡ start formula
new-book formula ids many e = λ i. record {
  formula = formula;
  steps = none (drop (length formula.clauses) ids) i;
  deleted = set.from_list (flagged-none ids many i);
} where
  none : (xs : List ℕ) → steps_of xs [] ≡ []
  none [] = refl
  none (x ∷ xs) = refl

pub new-store : (formula : Formula) (ids : List ℕ) (many : ℕ) → ids ≡ counted 1 (length formula.clauses) → many ≡ length formula.clauses → IsStore formula [] ids (replicate many false)
new-store formula ids many e m = record {
  many_ids = ap length e ∙ length-counted 1 (length formula.clauses) ∙ (omega arith);
  many_flags = length-replicate many false ∙ m ∙ sym (ap length e ∙ length-counted 1 (length formula.clauses));
  same_ids = ap (λ b. ids_of (all_of b)) (new-book formula ids many e) ∙ ids_of-append (numbered 1 formula.clauses) [] ∙ append-nil (ids_of (numbered 1 formula.clauses)) ∙ ids_of-numbered 1 formula.clauses ∙ sym e;
  rising = subst (AreRising 0) (sym e) (rising-counted 0 (length formula.clauses));
  over = All-nil (IsOver formula.vars);
}

pub store_made : (formula : Formula) (steps : List (List Literal)) (ids : List ℕ) (flags : List Bool) (count : ℕ) → steps ≡ [] → ids ≡ counted 1 count → flags ≡ replicate count false → count ≡ length formula.clauses → IsStore formula steps ids flags
store_made formula steps ids flags count p q r e =
    subst (λ s. IsStore formula s ids flags) (sym p) (subst (λ s. IsStore formula [] ids s) (sym r) (new-store formula ids count (q ∙ ap (counted 1) e) e))

pub book_made : (formula : Formula) (steps : List (List Literal)) (ids : List ℕ) (flags : List Bool) (count : ℕ) → steps ≡ [] → ids ≡ counted 1 count → flags ≡ replicate count false → count ≡ length formula.clauses → book_of formula steps ids flags ≡ start formula
book_made formula steps ids flags count p q r e = (λ i. book_of formula (p i) ids (r i)) ∙ new-book formula ids count (q ∙ ap (counted 1) e)

-- one clause less
module _ (formula : Formula) (steps : List (List Literal)) (ids : List ℕ) (flags : List Bool) (h : IsStore formula steps ids flags) (id place : ℕ) (p : IsPlace ids id place) where
  within_flags : place < length flags
  within_flags = let a = h.many_flags in let b = p.within in omega arith

  pub store_turned : (flag : Bool) → IsStore formula steps ids (set flags place flag)
  store_turned flag = record {
    many_ids = h.many_ids;
    many_flags = length-set flags place flag ∙ h.many_flags;
    same_ids = h.same_ids;
    rising = h.rising;
    over = h.over;
  }

  pub book_marked : book_of formula steps ids (set flags place true) ≡ without (book_of formula steps ids flags) id
  book_marked = λ i. record {
    formula = formula;
    steps = steps_of (drop (length formula.clauses) ids) steps;
    deleted = (gone_set ids flags place p.within within_flags ∙ ap (set.insert (gone_of ids flags)) p.is) i;
  }

  pub is_live_found : (flag : Bool) → flag ≡ get_or flags place flag → flag ≡ false → is_live (book_of formula steps ids flags) id ≡ true
  is_live_found flag e f =
      let inside : place < length (formula.clauses ++ steps) = (let a = h.many_ids in let b = p.within in omega (arith, length-append formula.clauses steps)) in
      let clause = get_or (formula.clauses ++ steps) place [] in
      ap is_some (live_found formula steps ids flags h id place flag clause p e f (get_or-default (formula.clauses ++ steps) place clause [] inside))

  pub is_live_gone : (flag : Bool) → flag ≡ get_or flags place flag → flag ≡ true → is_live (book_of formula steps ids flags) id ≡ false
  is_live_gone flag e f = ap is_some (live_gone formula steps ids flags h id place flag p e f)

  -- what was marked last is unmarked
  pub book_unmarked : (before : Book) → is_live before id ≡ true → without before id ≡ book_of formula steps ids flags → book_of formula steps ids (set flags place false) ≡ before
  book_unmarked before lives same = λ i. record {
    formula = ap (λ b. b.formula) (sym same) i;
    steps = ap (λ b. b.steps) (sym same) i;
    deleted = (gone_unset ids flags place h.rising p.within ∙ ap (set.remove (gone_of ids flags)) p.is ∙ ap (λ b. set.remove b.deleted id) (sym same)
        ∙ remove-insert before.deleted id (not_gone before id lives)) i;
  } where
    not_gone : (book : Book) (id : ℕ) → is_live book id ≡ true → set.contains book.deleted id ≡ false
    not_gone book id = elim (set.contains book.deleted id) as (λ b. is_some (cond b None (find (all_of book) id)) ≡ true → b ≡ false) [ true ↦ λ e. absurd (cc) | false ↦ λ e. refl ]

pub is_live_absent : (formula : Formula) (steps : List (List Literal)) (ids : List ℕ) (flags : List Bool) → IsStore formula steps ids flags → (id : ℕ) → IsAbsent ids id → is_live (book_of formula steps ids flags) id ≡ false
is_live_absent formula steps ids flags h id absent = ap is_some (live_absent formula steps ids flags h id absent)

-- what is nowhere was not marked
pub never_marked : (formula : Formula) (steps : List (List Literal)) (ids : List ℕ) (flags : List Bool) → IsStore formula steps ids flags → (id : ℕ) → IsAbsent ids id
    → (before : Book) → is_live before id ≡ true → without before id ≡ book_of formula steps ids flags → ⊥
never_marked formula steps ids flags h id absent before lives same =
    let nowhere : find (all_of before) id ≡ None =
    ap (λ b. find (all_of b) id) same ∙ find_none (all_of (book_of formula steps ids flags)) id (subst (λ xs. IsAbsent xs id) (sym h.same_ids) absent) in
    true≢false (sym lives ∙ either (set.contains before.deleted id) (find (all_of before) id) nowhere) where
      either : (b : Bool) (o : Option (List Literal)) → o ≡ None → is_some (cond b None o) ≡ false
      either true o e = refl
      either false o e = ap is_some e
