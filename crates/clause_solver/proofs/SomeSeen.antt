-- Values of the last level that were seen.
use Rattle.std.proofs.Common.{◌≡◌, ℕ, ◌+◌, ◌-◌, ◌<◌, ◌≤◌, true, List, ◌∷◌, length, ◌⊎◌, inl, inr, refl, sym, ap, subst, arith, Option, None, Some}
use Rattle.std.specs.Prelude.{IfSome, IfNone}
use Rattle.std.proofs.lemmas.Bool.{both_ways}
use Rattle.clause_core.specs.Literal.{Literal, flip}
use Rattle.lrat_replay.specs.Status.{Known}
use Rattle.clause_solver.specs.Trail.{known_by, oldest, before_last, IsFresh, AreFresh}
use Rattle.clause_solver.specs.Analysis.{IsWitness, IsSomeSeen, IsNoneSeen, MayResolve, MayKeep}
use Rattle.clause_solver.specs.declared.value.Value.{Value}
use Rattle.clause_solver.proofs.Reduce.{value-first}
use Rattle.clause_solver.proofs.Levels.{known-oldest, unknown-oldest, decision_before, length-oldest, oldest-step}
use Rattle.clause_solver.proofs.TrailPlaces.{fresh-drop}

module _ (values : List Value) (from : ℕ) (seen : Known) where
  before : Known
  before = known_by (oldest from values)

  pub some_here : (place to : ℕ) (v : Value) → from ≤ place → place < to → oldest (place + 1) values ≡ v ∷ oldest place values → IsFresh (known_by (oldest place values)) v.lit → seen v.lit ≡ true
      → IsSomeSeen (known_by (oldest from values)) (oldest to values) seen
  some_here place to v a b is fresh s = record {
    lit = v.lit;
    is_seen = s;
    is_now = known-oldest values (place + 1) to v.lit (omega arith) (subst (λ vs. known_by vs v.lit ≡ true) (sym is) (value-first v (oldest place values)));
    is_late = unknown-oldest values from place v.lit a fresh.unknown;
  }

  pub some_at : (place known : ℕ) → AreFresh values → place < length values → from ≤ known → known < place → IsWitness values seen from place known
      → IsSomeSeen (known_by (oldest from values)) (oldest place values) seen
  some_at place known fresh inside a b w =
      let step = oldest-step values known (omega arith) in
      some_here known place step.0 a b step.1 (subst AreFresh step.1 (fresh-drop values (length values - (known + 1)) fresh)).0 (w a b step.0 step.1)

  -- with less values, and more that were seen
  pub witness_more : (n m known : ℕ) (seen' : Known) → m ≤ n → ((x : Literal) → seen x ≡ true → seen' x ≡ true) → IsWitness values seen from n known → IsWitness values seen' from m known
  witness_more n m known seen' h more w a b v is = more v.lit (w a (omega arith) v is)

  -- a value that is older than the last decision
  pub older_known : (place : ℕ) (v : Value) → place < from → oldest (place + 1) values ≡ v ∷ oldest place values → known_by (oldest from values) v.lit ≡ true
  older_known place v h is = known-oldest values (place + 1) from v.lit (omega arith) (subst (λ vs. known_by vs v.lit ≡ true) (sym is) (value-first v (oldest place values)))

  fresh_before : (place : ℕ) (l : Literal) → from ≤ place → IsFresh (known_by (oldest place values)) l → IsFresh (known_by (oldest from values)) l
  fresh_before place l h f = record { unknown = unknown-oldest values from place l h f.unknown; flip_unknown = unknown-oldest values from place (flip l) h f.flip_unknown }

  pub only_one : (place : ℕ) (v : Value) → from ≤ place → IsFresh (known_by (oldest place values)) v.lit → IsNoneSeen (known_by (oldest from values)) (oldest place values) seen
      → MayKeep (known_by (oldest from values)) (oldest place values) seen v.lit
  only_one place v h f none = inl (fresh_before place v.lit h f, none)

  -- the last decision is the oldest value of its level
  pub decided_one : (place : ℕ) (v : Value) → from ≤ place → place < length values → before_last values ≡ oldest from values → oldest (place + 1) values ≡ v ∷ oldest place values → v.reason ≡ None
      → IsFresh (known_by (oldest place values)) v.lit → MayKeep (known_by (oldest from values)) (oldest place values) seen v.lit
  decided_one place v h inside newest is d f =
      let most = decision_before values place v inside is d in
      let long = ap length newest in
      let few = length-oldest values from (omega arith) in
      let here : from ≡ place = omega arith in
      inl (fresh_before place v.lit h f, λ x s k. subst (λ n. known_by (oldest n values) x ≡ true) (sym here) k)

  -- values that are not newer than one below the last decision are below it
  pub below : (place : ℕ) (v : Value) → IsFresh (known_by (oldest place values)) v.lit → known_by (oldest from values) v.lit ≡ true → (x : Literal) → known_by (oldest place values) x ≡ true → known_by (oldest from values) x ≡ true
  below place v f k x h = elim (order place from) [
    | inl a ↦ known-oldest values place from x a h
    | inr b ↦ absurd (both_ways (known_by (oldest from values) v.lit) (unknown-oldest values from place v.lit b f.unknown) k)
  ] where
    order : (a b : ℕ) → (a ≤ b) ⊎ (b ≤ a)
    order a b = grind arith

-- the two answers, by the reason
pub if_resolves : (before : Known) (older : List Value) (seen : Known) (v : Value) → IsSomeSeen before older seen ⊎ (before v.lit ≡ true) → IfSome v.reason (MayResolve before older seen v)
if_resolves before older seen v h = by (v.reason) refl where
  by : (o : Option ℕ) → v.reason ≡ o → IfSome o (MayResolve before older seen v)
  by None e = tt
  by (Some id) e = record { reason = e; place = h }

pub some_weaker : {P Q : ℕ → Type 0} (o : Option ℕ) → IfSome o P → ((id : ℕ) → P id → Q id) → IfSome o Q
some_weaker None h f = tt
some_weaker (Some id) h f = f id h

pub none_weaker : {P : Type 0} (o : Option ℕ) → (o ≡ None → P) → IfNone o P
none_weaker None h = h refl
none_weaker (Some id) h = tt
