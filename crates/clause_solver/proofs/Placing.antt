-- The places of values, and sets of places.
use Rattle.std.proofs.Common.{◌≡◌, ℕ, zero, suc, ◌+◌, ◌-◌, ◌*◌, ◌<◌, ◌≤◌, Bool, true, false, not, ◌||◌, ◌&&◌, List, [], ◌∷◌, length, drop, ◌⊎◌, inl, inr, refl, sym, ap, ◌∙◌, subst, arith, get_or, get_or-set_same, get_or-set_other}
use Rattle.std.proofs.Math.ListN.{set}
use Rattle.std.proofs.lemmas.Bool.{or_cases, or_left, or_right, or_from, and_parts, and_from, and_left, and_right, both_ways, true≢false, false_from_ne_true, cases_Bool}
use Rattle.clause_core.specs.Literal.{Literal, flip, same, has}
use Rattle.clause_core.proofs.Tools.{same-true, same-refl, same-at}
use Rattle.lrat_replay.specs.Status.{Known}
use Rattle.clause_solver.specs.Trail.{known_by, free, IsFresh, AreFresh, IsVariableOf, AreOver, StandsAt, oldest}
use Rattle.clause_solver.specs.Kept.{ArePlaced}
use Rattle.clause_solver.specs.Met.{at_places}
use Rattle.clause_core.specs.Formula.{IsOver}
use Rattle.clause_solver.specs.Analysis.{IsNoneSeen, IsSomeSeen, IsWitness}
use Rattle.clause_solver.specs.declared.value.Value.{Value}
use Rattle.clause_solver.proofs.Reduce.{value-first, value-older}
use Rattle.clause_solver.proofs.AnalyseLaws.{value_cases}
use Rattle.clause_solver.proofs.Levels.{oldest-all, oldest-step}
use Rattle.clause_solver.proofs.TrailPlaces.{number_below, fresh-drop}
use Rattle.clause_solver.proofs.Propagation.{free_few, free_less, over_has}
use Rattle.clause_solver.proofs.SomeSeen.{some_here}

-- there are no more values than literals
pub few_values : (vars : ℕ) (values : List Value) → AreFresh values → AreOver vars values → length values + free (known_by values) (2 * vars + 2) ≤ 2 * vars + 2
few_values vars [] f o = let r = free_few (known_by []) (2 * vars + 2) in omega arith
few_values vars (e ∷ older) f o =
    let r = few_values vars older f.1 o.1 in
    let p = free_less (known_by older) e.lit (2 * vars + 2) (number_below vars (2 * vars + 2) e.lit o.0 (omega arith)) f.0.unknown in omega arith

-- and less, where a literal is no value
pub room_left : (vars : ℕ) (values : List Value) (l : Literal) → AreFresh values → AreOver vars values → IsVariableOf vars l → known_by values l ≡ false → length values < 2 * vars + 2
room_left vars values l f o v u =
    let r = few_values vars values f o in
    let p = free_less (known_by values) l (2 * vars + 2) (number_below vars (2 * vars + 2) l v (omega arith)) u in omega arith

-- two literals of one variable
same_variable : (a b : Literal) → a.var ≡ b.var → (b ≡ a) ⊎ (flip b ≡ a)
same_variable a b e = by a.negated b.negated refl refl where
  by : (x y : Bool) → a.negated ≡ x → b.negated ≡ y → (b ≡ a) ⊎ (flip b ≡ a)
  by true true p q = inl (λ i. record { var = sym e i; negated = (q ∙ sym p) i })
  by true false p q = inr (λ i. record { var = sym e i; negated = (ap not q ∙ sym p) i })
  by false true p q = inr (λ i. record { var = sym e i; negated = (ap not q ∙ sym p) i })
  by false false p q = inl (λ i. record { var = sym e i; negated = (q ∙ sym p) i })

fresh_older : (e : Value) (older : List Value) (l : Literal) → IsFresh (known_by (e ∷ older)) l → IsFresh (known_by older) l
fresh_older e older l f = record {
  unknown = false_from_ne_true (known_by older l) (λ k. both_ways (known_by (e ∷ older) l) f.unknown (value-older e older l k));
  flip_unknown = false_from_ne_true (known_by older (flip l)) (λ k. both_ways (known_by (e ∷ older) (flip l)) f.flip_unknown (value-older e older (flip l) k));
}

-- the place of one more value
pub placed_more : (places : List ℕ) (n : ℕ) (l : Literal) (values : List Value) → IsFresh (known_by values) l → ArePlaced places values → ArePlaced (set places l.var n) values
placed_more places n l [] f p = tt
placed_more places n l (e ∷ older) f p = (get_or-set_other places l.var e.lit.var n 0 other ∙ p.0, placed_more places n l older (fresh_older e older l f) p.1) where
  other : e.lit.var ≡ l.var → ⊥
  other q = elim (same_variable e.lit l q) [
    | inl s ↦ both_ways (known_by (e ∷ older) l) f.unknown (ap (known_by (e ∷ older)) s ∙ value-first e older)
    | inr s ↦ both_ways (known_by (e ∷ older) (flip l)) f.flip_unknown (ap (known_by (e ∷ older)) s ∙ value-first e older)
  ]

skip : (e : Value) (older : List Value) (n : ℕ) → n ≤ length older → oldest n (e ∷ older) ≡ oldest n older
skip e older n k = let q : length (e ∷ older) - n ≡ suc (length older - n) = omega arith in ap (λ m. drop m (e ∷ older)) q

stands_first : (e : Value) (older : List Value) (l : Literal) → e.lit ≡ l → StandsAt (e ∷ older) l (length older)
stands_first e older l q = record {
  value = e;
  within = omega arith;
  is = oldest-all (e ∷ older) (length older + 1) (omega arith) ∙ ap (λ r. e ∷ r) (sym (skip e older (length older) (omega arith) ∙ oldest-all older (length older) refl));
  lit_is = q;
}

stands_more : (e : Value) (older : List Value) (l : Literal) (n : ℕ) → StandsAt older l n → StandsAt (e ∷ older) l n
stands_more e older l n s = record {
  value = s.value;
  within = let w = s.within in omega arith;
  is = skip e older (n + 1) (let w = s.within in omega arith) ∙ s.is ∙ ap (λ r. s.value ∷ r) (sym (skip e older n (let w = s.within in omega arith)));
  lit_is = s.lit_is;
}

get_or-any : (xs : List ℕ) (i r d : ℕ) → i < length xs → get_or xs i r ≡ get_or xs i d
get_or-any [] i r d h = absurd (omega arith)
get_or-any (x ∷ xs) zero r d h = refl
get_or-any (x ∷ xs) (suc i) r d h = get_or-any xs i r d (omega arith)

-- what was read at a place of the list
pub read_is : (xs : List ℕ) (i r : ℕ) → i < length xs → r ≡ get_or xs i r → r ≡ get_or xs i 0
read_is xs i r h e = e ∙ get_or-any xs i r 0 h

-- the place of a literal's variable is that of the literal
pub stands : (places : List ℕ) (values : List Value) (l : Literal) → ArePlaced places values → known_by values l ≡ true → StandsAt values l (get_or places l.var 0)
stands places [] l p k = absurd (true≢false (sym k))
stands places (e ∷ older) l p k = elim (value_cases e older l k) [
  | inl q ↦ subst (StandsAt (e ∷ older) l) (sym p.0 ∙ ap (λ (x : Literal). get_or places x.var 0) q) (stands_first e older l q)
  | inr q ↦ stands_more e older l (get_or places l.var 0) (stands places older l p.1 q)
]

-- with more places more literals are met
pub met_more : (p q : ℕ → Bool) → ((n : ℕ) → p n ≡ true → q n ≡ true) → (values : List Value) (x : Literal) → at_places p values x ≡ true → at_places q values x ≡ true
met_more p q m [] x h = h
met_more p q m (e ∷ older) x h = elim (or_cases (same e.lit x && p (length older)) (at_places p older x) h) [
  | inl k ↦ let parts = and_parts (same e.lit x) (p (length older)) k in or_left (same e.lit x && q (length older)) (at_places q older x) (and_from (same e.lit x) (q (length older)) parts.0 (m (length older) parts.1))
  | inr k ↦ or_right (same e.lit x && q (length older)) (at_places q older x) (met_more p q m older x k)
]

-- what was met is a value
pub met_known : (p : ℕ → Bool) (values : List Value) (x : Literal) → at_places p values x ≡ true → known_by values x ≡ true
met_known p [] x h = h
met_known p (e ∷ older) x h = elim (or_cases (same e.lit x && p (length older)) (at_places p older x) h) [
  | inl k ↦ or_left (same e.lit x) (known_by older x) (and_parts (same e.lit x) (p (length older)) k).0
  | inr k ↦ or_right (same e.lit x) (known_by older x) (met_known p older x k)
]

last : (a b : ℕ) → a < b + 1 → (a ≡ b) ⊎ (a < b)
last a b k = grind arith

head_same : {x v : Value} {older rest : List Value} → x ∷ older ≡ v ∷ rest → x ≡ v
head_same e = cc

-- the value at a place is the first of the list there, or stands among the older ones
first_is : (e : Value) (older : List Value) (n : ℕ) (v : Value) → n ≡ length older → oldest (n + 1) (e ∷ older) ≡ v ∷ oldest n (e ∷ older) → e ≡ v
first_is e older n v h is = head_same (sym (oldest-all (e ∷ older) (n + 1) (omega arith)) ∙ is)

inner_is : (e : Value) (older : List Value) (n : ℕ) (v : Value) → n < length older → oldest (n + 1) (e ∷ older) ≡ v ∷ oldest n (e ∷ older) → oldest (n + 1) older ≡ v ∷ oldest n older
inner_is e older n v h is = sym (skip e older (n + 1) (omega arith)) ∙ is ∙ ap (λ r. v ∷ r) (skip e older n (omega arith))

-- the value at a place that was met was met
pub met_at : (p : ℕ → Bool) (values : List Value) (n : ℕ) (v : Value) → n < length values → oldest (n + 1) values ≡ v ∷ oldest n values → p n ≡ true → at_places p values v.lit ≡ true
met_at p [] n v w is h = absurd (omega arith)
met_at p (e ∷ older) n v w is h = elim (last n (length older) (omega arith)) [
  | inl here ↦ or_left (same e.lit v.lit && p (length older)) (at_places p older v.lit)
      (and_from (same e.lit v.lit) (p (length older)) (same-at e.lit v.lit (ap (λ (x : Value). x.lit) (first_is e older n v here is))) (ap p (sym here) ∙ h))
  | inr below ↦ or_right (same e.lit v.lit && p (length older)) (at_places p older v.lit) (met_at p older n v below (inner_is e older n v below is) h)
]

-- the value at a place
value_known : (values : List Value) (n : ℕ) (v : Value) → n < length values → oldest (n + 1) values ≡ v ∷ oldest n values → known_by values v.lit ≡ true
value_known [] n v w is = absurd (omega arith)
value_known (e ∷ older) n v w is = elim (last n (length older) (omega arith)) [
  | inl here ↦ or_left (same e.lit v.lit) (known_by older v.lit) (same-at e.lit v.lit (ap (λ (x : Value). x.lit) (first_is e older n v here is)))
  | inr below ↦ or_right (same e.lit v.lit) (known_by older v.lit) (value_known older n v below (inner_is e older n v below is))
]

-- the value at any other place was not
pub unmet_at : (p : ℕ → Bool) (values : List Value) (n : ℕ) (v : Value) → AreFresh values → n < length values → oldest (n + 1) values ≡ v ∷ oldest n values → p n ≡ false → at_places p values v.lit ≡ false
unmet_at p [] n v f w is h = absurd (omega arith)
unmet_at p (e ∷ older) n v f w is h = elim (last n (length older) (omega arith)) [
  | inl here ↦ or_from (same e.lit v.lit && p (length older)) (at_places p older v.lit) (and_right (same e.lit v.lit) (p (length older)) (ap p (sym here) ∙ h))
      (false_from_ne_true (at_places p older v.lit) (λ k. both_ways (known_by older e.lit) f.0.unknown (ap (λ (x : Value). known_by older x.lit) (first_is e older n v here is) ∙ met_known p older v.lit k)))
  | inr below ↦
      let inner = inner_is e older n v below is in
      or_from (same e.lit v.lit && p (length older)) (at_places p older v.lit)
      (and_left (same e.lit v.lit) (p (length older)) (false_from_ne_true (same e.lit v.lit) (λ k. both_ways (known_by older e.lit) f.0.unknown (ap (known_by older) (same-true e.lit v.lit k) ∙ value_known older n v below inner))))
      (unmet_at p older n v f.1 below inner h)
]

-- the value at a place, and that it is new there
pub record IsThere (values : List Value) (place : ℕ) (value : Value) : Type 0 where
  pub is : oldest (place + 1) values ≡ value ∷ oldest place values
  pub fresh : IsFresh (known_by (oldest place values)) value.lit

pub there : (values : List Value) (place : ℕ) → AreFresh values → place < length values → (value : Value) × IsThere values place value
there values place f h =
    let step = oldest-step values place h in
    (step.0, record { is = step.1; fresh = (subst AreFresh step.1 (fresh-drop values (length values - (place + 1)) f)).0 })

-- one place further down, where nothing was met
pub none_seen_more : (p : ℕ → Bool) (values : List Value) (m n place : ℕ) → AreFresh values → m < length values → n ≡ m + 1 → p m ≡ false
    → IsNoneSeen (known_by (oldest n values)) (oldest place values) (at_places p values) → IsNoneSeen (known_by (oldest m values)) (oldest place values) (at_places p values)
none_seen_more p values m n place f inside e h none x s k =
    let step = oldest-step values m inside in
    let unmet = unmet_at p values m step.0 f inside step.1 h in
    let up : oldest n values ≡ step.0 ∷ oldest m values = ap (λ j. oldest j values) e ∙ step.1 in
    elim (value_cases step.0 (oldest m values) x (subst (λ vs. known_by vs x ≡ true) up (none x s k))) [
      | inl q ↦ absurd (both_ways (at_places p values step.0.lit) unmet (ap (at_places p values) q ∙ s))
      | inr q ↦ q
    ]

-- the value that stands at a place
pub met_there : (p : ℕ → Bool) (values : List Value) (l : Literal) (place : ℕ) → StandsAt values l place → p place ≡ true → at_places p values l ≡ true
met_there p values l place s h = subst (λ x. at_places p values x ≡ true) s.lit_is (met_at p values place s.value s.within s.is h)

-- the complement of a literal of a clause
pub flip_variable : (vars : ℕ) (clause : List Literal) (l : Literal) → IsOver vars clause → has clause l ≡ true → IsVariableOf vars (flip l)
flip_variable vars clause l o h = let v = over_has vars clause l o h in record { counted = v.counted; within = v.within }

-- where one of the last level was met
pub met_late : (p : ℕ → Bool) (values : List Value) (start place n : ℕ) → AreFresh values → place < length values → start ≤ n → n < place → p n ≡ true → IsSomeSeen (known_by (oldest start values)) (oldest place values) (at_places p values)
met_late p values start place n f inside a b h =
    let v = there values n f (omega arith) in
    some_here values start (at_places p values) n place v.0 a b v.1.is v.1.fresh (met_at p values n v.0 (omega arith) v.1.is h)

-- and that it is a witness
pub met_witness : (p : ℕ → Bool) (values : List Value) (start place n : ℕ) → place < length values → p n ≡ true → IsWitness values (at_places p values) start place n
met_witness p values start place n inside h a b v is = met_at p values n v (omega arith) is h
