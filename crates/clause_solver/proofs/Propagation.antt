-- Steps of propagation.
use Rattle.std.proofs.Common.{◌≡◌, ℕ, zero, suc, ◌+◌, ◌*◌, ◌==◌, ◌<◌, ◌≤◌, Bool, true, false, cond, ◌||◌, List, [], ◌∷◌, length, Option, Some, ◌⊎◌, inl, inr, refl, sym, ap, ◌∙◌, subst, arith}
use Rattle.std.specs.Prelude.{slice_get, All}
use Rattle.std.proofs.Common.{get_or}
use Rattle.std.proofs.lemmas.Bool.{cases_eq, eq-eqb, ne_eqb, true≢false}
use Rattle.clause_core.specs.Literal.{Literal, number, same, has, literal_of, number-literal_of}
use Rattle.clause_core.proofs.Tools.{same-true}
use Rattle.lrat_replay.specs.Status.{Known, status, with_literal, Rests, IsUnit}
use Rattle.lrat_replay.specs.declared.status.Status.TheVariants.{Satisfied, Unresolved}
use Rattle.clause_core.specs.Formula.{IsOver}
use Rattle.lrat_replay.proofs.Tools.{satisfied-is, unresolved-is, has_all}
use Rattle.std.proofs.lemmas.List.Elements.{recursion_from_All}
use Rattle.clause_solver.proofs.TrailPlaces.{number_below}
use Rattle.clause_solver.specs.Trail.{Track, known_by, free, unassigned, IsFresh, IsVariableOf}
use Rattle.clause_solver.specs.Plain.{HaveReasons}

-- the clauses below a place rest
abbrev pub RestBelow : List (List Literal) → Known → ℕ → Type 0
RestBelow clauses known n = (k : ℕ) (clause : List Literal) → k < n → slice_get clauses k ≡ Some clause → Rests known clause

pub rest_more : (clauses : List (List Literal)) (known : Known) (n : ℕ) (clause : List Literal) → RestBelow clauses known n → slice_get clauses n ≡ Some clause → Rests known clause → RestBelow clauses known (n + 1)
rest_more clauses known n clause below at here k c h e = elim (cases_eq k n) [
  | inl q ↦ let s : Some clause ≡ Some c = sym at ∙ ap (slice_get clauses) (sym q) ∙ e in let w : clause ≡ c = cc in subst (Rests known) w here
  | inr q ↦ below k c (omega arith) e
]

pub free_few : (known : Known) (n : ℕ) → free known n ≤ n
free_few known zero = omega arith
free_few known (suc n) = let r = free_few known n in by (known (literal_of n)) r where
  by : (b : Bool) → free known n ≤ n → cond b 0 1 + free known n ≤ suc n
  by true r = omega arith
  by false r = omega arith

-- one more literal that is known
module _ (known : Known) (l : Literal) where
  here : (n : ℕ) → same l (literal_of n) ≡ (number l == n)
  here n = ap (λ m. number l == m) (number-literal_of n)

  free_same : (n : ℕ) → n ≤ number l → free (with_literal known l) n ≡ free known n
  free_same zero h = refl
  free_same (suc n) h =
      let other : number l ≡ n → ⊥ = λ e. omega arith in
      ap (λ b. cond (b || known (literal_of n)) 0 1 + free (with_literal known l) n) (here n ∙ ne_eqb (number l) n other) ∙ ap (λ f. cond (known (literal_of n)) 0 1 + f) (free_same n (omega arith))

  pub free_less : (n : ℕ) → number l < n → known l ≡ false → free (with_literal known l) n + 1 ≡ free known n
  free_less zero h u = absurd (omega arith)
  free_less (suc n) h u = elim (cases_eq (number l) n) [
    | inl e ↦
        let is : same l (literal_of n) ≡ true = here n ∙ eq-eqb (number l) n e in
        let unknown : known (literal_of n) ≡ false = ap known (sym (same-true l (literal_of n) is)) ∙ u in
        let a = ap (λ b. cond (b || known (literal_of n)) 0 1 + free (with_literal known l) n) is in
        let b = ap (λ b. cond b 0 1 + free known n) unknown in
        let c = free_same n (omega arith) in
        omega arith
    | inr ne ↦
        let a = ap (λ b. cond (b || known (literal_of n)) 0 1 + free (with_literal known l) n) (here n ∙ ne_eqb (number l) n ne) in
        let c = free_less n (omega arith) u in
        omega arith
  ]

pub unit_fresh : (known : Known) (clause : List Literal) (u : Literal) → IsUnit known clause u → IsFresh known u
unit_fresh known clause u f = record { unknown = f.unknown; flip_unknown = f.flip_unknown }

pub get_inside : {X : Type 0} (xs : List X) (i : ℕ) (x : X) → slice_get xs i ≡ Some x → (i < length xs) × (get_or xs i x ≡ x)
get_inside [] i x = λ h. absurd (cc)
get_inside (y ∷ ys) zero x = λ h. (omega arith, cc)
get_inside (y ∷ ys) (suc i) x = λ h. let r = get_inside ys i x h in (omega arith, r.1)

pub all_over : (vars : ℕ) (clauses : List (List Literal)) (i : ℕ) (clause : List Literal) → All (IsOver vars) clauses → slice_get clauses i ≡ Some clause → IsOver vars clause
all_over vars clauses i clause a h = let r = get_inside clauses i clause h in subst (IsOver vars) r.1 (a i clause r.0)

-- a literal of a clause over these variables is one of theirs
pub over_has : (vars : ℕ) (clause : List Literal) (l : Literal) → IsOver vars clause → has clause l ≡ true → IsVariableOf vars l
over_has vars clause l o h = let r = has_all (λ (x : Literal). (1 ≤ x.var) × (x.var ≤ vars)) clause l (recursion_from_All (λ (x : Literal). (1 ≤ x.var) × (x.var ≤ vars)) clause o) h in record { counted = r.0; within = r.1 }

-- one more literal of these variables
pub over_none : (vars : ℕ) → IsOver vars []
over_none vars = λ k d h. absurd (omega arith)

pub over_front : (vars n : ℕ) (x : Literal) (xs : List Literal) → n ≡ vars → IsVariableOf n x → IsOver vars xs → IsOver vars (x ∷ xs)
over_front vars n x xs e v o = λ k d h. by k d h where
  by : (k : ℕ) (d : Literal) → k < length (x ∷ xs) → (1 ≤ (get_or (x ∷ xs) k d).var) × ((get_or (x ∷ xs) k d).var ≤ vars)
  by zero d h = (v.counted, subst (λ m. x.var ≤ m) e v.within)
  by (suc k) d h = o k d (omega arith)

pub rests_status : (known : Known) (clause : List Literal) → (status known clause ≡ Satisfied) ⊎ (status known clause ≡ Unresolved) → Rests known clause
rests_status known clause (inl e) = inl (satisfied-is known clause e)
rests_status known clause (inr e) = inr (unresolved-is known clause e)

-- where one pass over the clauses has come: from a trail on which so many literals were free
pub record IsProgress (clauses : List (List Literal)) (vars start : ℕ) (trail : Track) (forced : Bool) (index : ℕ) : Type 0 where
  pub reasons : HaveReasons clauses trail.values
  pub vars_is : trail.vars ≡ vars
  pub rests : forced ≡ false → RestBelow clauses (known_by trail.values) index
  pub less : unassigned trail + cond forced 1 0 ≤ start

pub progress_fewer : (clauses : List (List Literal)) (vars start : ℕ) (trail : Track) (forced : Bool) (index : ℕ) → IsProgress clauses vars start trail forced index → unassigned trail ≤ start
progress_fewer clauses vars start trail true index p = let a = p.less in omega arith
progress_fewer clauses vars start trail false index p = let a = p.less in omega arith

pub progress_forced : (clauses : List (List Literal)) (vars start : ℕ) (trail : Track) (forced : Bool) (index : ℕ) → IsProgress clauses vars start trail forced index → forced ≡ true → unassigned trail < start
progress_forced clauses vars start trail true index p e = let a = p.less in omega arith
progress_forced clauses vars start trail false index p e = absurd (true≢false (sym e))

pub pushed_fewer : (track : Track) (lit : Literal) (reason : Option ℕ) → IsVariableOf track.vars lit → known_by track.values lit ≡ false
    → unassigned (record { vars = track.vars; values = record { lit = lit; reason = reason } ∷ track.values }) + 1 ≡ unassigned track
pushed_fewer track lit reason v u = free_less (known_by track.values) lit (2 * track.vars + 2) (number_below track.vars (2 * track.vars + 2) lit v (omega arith)) u

module _ (clauses : List (List Literal)) (vars start : ℕ) (trail : Track) (forced : Bool) (index : ℕ) (clause : List Literal) (p : IsProgress clauses vars start trail forced index) (at : slice_get clauses index ≡ Some clause) where
  pub progress_rests : Rests (known_by trail.values) clause → IsProgress clauses vars start trail forced (index + 1)
  progress_rests r = record { reasons = p.reasons; vars_is = p.vars_is; rests = λ f. rest_more clauses (known_by trail.values) index clause (p.rests f) at r; less = p.less }

  pub progress_forces : (u : Literal) → IsUnit (known_by trail.values) clause u → IsVariableOf trail.vars u →
      IsProgress clauses vars start (record { vars = trail.vars; values = record { lit = u; reason = Some (index + 1) } ∷ trail.values }) true (index + 1)
  progress_forces u t n = record {
    reasons = (record { place = index; clause = clause; id_is = refl; found = at; unit = t }, p.reasons);
    vars_is = p.vars_is;
    rests = λ f. absurd (true≢false f);
    less =
        let fewer = pushed_fewer trail u (Some (index + 1)) n t.unknown in
        let before : unassigned trail ≤ start = progress_fewer clauses vars start trail forced index p in
        subst (λ n. n ≤ start) (sym fewer) before;
  }
