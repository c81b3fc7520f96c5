-- What a copy of a ledger's clauses tells of the ledger.
use Rattle.std.proofs.Common.{◌≡◌, ℕ, zero, suc, ◌+◌, ◌<◌, ◌≤◌, false, not, cond, ◌||◌, List, [], ◌∷◌, ◌++◌, length, refl, sym, ap, ◌∙◌, subst, arith, ℤ, pos, None, Some, append_assoc, length-append}
use Rattle.std.specs.Prelude.{slice_get, nat_lt, All, map}
use Rattle.std.specs.List.{AllByRecursion}
use Rattle.std.proofs.lemmas.List.Elements.{recursion_from_All, All-map}
use Rattle.std.proofs.lemmas.Bool.Decides.{nat_tests}
use Rattle.clause_core.specs.Formula.{IsOver}
use Rattle.lrat_replay.specs.Ledger.{IsAbove0}
use Rattle.std.specs.FinSet as set
use Rattle.std.specs.Ordering.{nat_cmp}
use Rattle.std.proofs.lemmas.Bool.{eq-eqb, ne_eqb, or_from, lt-ltb, le-ltb}
use Rattle.clause_core.specs.Literal.{Literal}
use Rattle.lrat_replay.specs.Book.{Book, Numbered, numbered, all_of, find, live, last_of, run, Accepted, denied, some_flip, some_above, addition_fault, after_addition}
use Rattle.lrat_replay.proofs.Tools.{addition-none}
use Rattle.clause_solver.specs.Plain.{at_of}
use Rattle.clause_solver.specs.Copy.{IsCopy}

find-none : (n : ℕ) (clauses : List (List Literal)) (id : ℕ) → id < n → find (numbered n clauses) id ≡ None
find-none n [] id h = refl
find-none n (clause ∷ clauses) id h =
    let other : n ≡ id → ⊥ = λ e. omega arith in
    ap (λ b. cond b (Some clause) (find (numbered (n + 1) clauses) id)) (ne_eqb n id other) ∙ find-none (n + 1) clauses id (omega arith)

find-numbered : (n : ℕ) (clauses : List (List Literal)) (k : ℕ) → find (numbered n clauses) (n + k) ≡ slice_get clauses k
find-numbered n [] k = refl
find-numbered n (clause ∷ clauses) zero =
    let here : n ≡ n + 0 = omega arith in
    ap (λ b. cond b (Some clause) (find (numbered (n + 1) clauses) (n + 0))) (eq-eqb n (n + 0) here)
find-numbered n (clause ∷ clauses) (suc k) =
    let other : n ≡ n + suc k → ⊥ = λ e. omega arith in
    let on : n + suc k ≡ n + 1 + k = omega arith in
    ap (λ b. cond b (Some clause) (find (numbered (n + 1) clauses) (n + suc k))) (ne_eqb n (n + suc k) other) ∙ ap (find (numbered (n + 1) clauses)) on ∙ find-numbered (n + 1) clauses k

find-at : (clauses : List (List Literal)) (id : ℕ) → find (numbered 1 clauses) id ≡ at_of clauses id
find-at clauses zero = find-none 1 clauses zero (omega arith)
find-at clauses (suc k) = let e : suc k ≡ 1 + k = omega arith in ap (find (numbered 1 clauses)) e ∙ find-numbered 1 clauses k

numbered-push : (n : ℕ) (clauses : List (List Literal)) (clause : List Literal) → numbered n (clauses ++ clause ∷ []) ≡ numbered n clauses ++ record { id = n + length clauses; clause = clause } ∷ []
numbered-push n [] clause = let e : n ≡ n + 0 = omega arith in ap (λ i. record { id = i; clause = clause } ∷ []) e
numbered-push n (c ∷ clauses) clause =
    let e : n + 1 + length clauses ≡ n + suc (length clauses) = omega arith in
    ap (λ rest. record { id = n; clause = c } ∷ rest) (numbered-push (n + 1) clauses clause ∙ ap (λ i. numbered (n + 1) clauses ++ record { id = i; clause = clause } ∷ []) e)

last_of-push : (n : ℕ) (steps : List Numbered) (step : Numbered) → last_of n (steps ++ step ∷ []) ≡ step.id
last_of-push n [] step = refl
last_of-push n (s ∷ steps) step = last_of-push s.id steps step

module _ (book : Book) (clauses : List (List Literal)) (copy : IsCopy book clauses) where
  pub live-at : live book ≡ at_of clauses
  live-at = λ i. λ id. (ap (λ deleted. cond (set.contains deleted id) None (find (all_of book) id)) copy.kept ∙ ap (λ b. cond b None (find (all_of book) id)) (set.contains-empty nat_cmp id)
      ∙ ap (λ steps. find steps id) copy.same ∙ find-at clauses id) i

  pub copy_more : (clause : List Literal) → IsCopy (after_addition book (length clauses + 1) clause) (clauses ++ clause ∷ [])
  copy_more clause =
      let e : length clauses + 1 ≡ 1 + length clauses = omega arith in
      record {
        same = sym (append_assoc (numbered 1 book.formula.clauses) book.steps (record { id = length clauses + 1; clause = clause } ∷ []))
            ∙ ap (λ s. s ++ record { id = length clauses + 1; clause = clause } ∷ []) copy.same
            ∙ ap (λ i. numbered 1 clauses ++ record { id = i; clause = clause } ∷ []) e ∙ sym (numbered-push 1 clauses clause);
        kept = copy.kept;
        count = last_of-push (length book.formula.clauses) book.steps (record { id = length clauses + 1; clause = clause }) ∙ sym (length-append clauses (clause ∷ []));
      }

  pub copy_accepts : (clause : List Literal) (hints : List ℤ) → run (at_of clauses) (denied clause) hints ≡ Accepted → some_above book.formula.vars clause ≡ false → some_flip clause clause ≡ false → length clauses < 2147483647 →
      addition_fault book (length clauses + 1) clause hints ≡ None
  copy_accepts clause hints h above taut room = addition-none book (length clauses + 1) clause hints (record {
    order = subst (λ n. (not (nat_lt n (length clauses + 1)) || nat_lt 2147483647 (length clauses + 1)) ≡ false) (sym copy.count)
        (or_from (not (nat_lt (length clauses) (length clauses + 1))) (nat_lt 2147483647 (length clauses + 1)) (ap not (lt-ltb (length clauses) (length clauses + 1) (omega arith))) (le-ltb 2147483647 (length clauses + 1) (omega arith)));
    variables = above;
    no_tautology = taut;
    ran = ap (λ at. run at (denied clause) hints) live-at ∙ h;
  })

pub not_above : (vars : ℕ) (clause : List Literal) → IsOver vars clause → some_above vars clause ≡ false
not_above vars clause o = by clause (recursion_from_All (λ (l : Literal). (1 ≤ l.var) × (l.var ≤ vars)) clause o) where
  by : (c : List Literal) → AllByRecursion (λ (l : Literal). (1 ≤ l.var) × (l.var ≤ vars)) c → some_above vars c ≡ false
  by [] h = refl
  by (x ∷ c) h = let below : nat_lt vars x.var ≡ false = (let b = h.0.1 in grind (arith, nat_tests)) in or_from (nat_lt vars x.var) (some_above vars c) below (by c h.1)

pub hints_above : (clauses : List (List Literal)) (ids : List ℕ) → All (λ id. (0 < id) × (id ≤ length clauses)) ids → All IsAbove0 (map pos ids)
hints_above clauses ids h = All-map IsAbove0 pos ids (λ k d i. (h k d i).0)
