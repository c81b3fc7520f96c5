-- What is said of the order of the finders that stay, while the list is walked.
use Rattle.std.specs.Prelude.{◌≡◌, ◌≢◌, ◌⊎◌, ℕ, ◌+◌, ◌<◌, ◌≤◌, List, [], ◌∷◌, ◌++◌, length, take, All, slice_index, slice_index_or, slice_set}
use Rattle.std.specs.List.{Contains}
use Rattle.std.specs.List.Sorted.{IsStrictlyIncreasing}
use Rattle.std.proofs.Common.{sym, ◌∙◌, ap, subst, inl, inr, arith, length-append}
use Rattle.std.proofs.Math.Seq.{get_or-append_seam}
use Rattle.std.proofs.lemmas.Grind.{common_steps}
use Rattle.std.proofs.lemmas.List.{get_or-set_same, get_or-set_other, get_or_append_left, get_or-take, get_or_default, map-append, length-take-le}
use Rattle.std.proofs.lemmas.List.Elements.{All-push, All-weaker, All-contains, Contains-push_cases}
use Rattle.lattice_grid.specs.Lattice.{Lattice}
use Rattle.finder_set.specs.declared.improve.Dropped.{Dropped}
use Rattle.finder_set.specs.Finders.{StayInOrder, places_of}
use Rattle.wire_io.specs.Causes.{Rose}

-- The finders at the front of the new list are those of the old list at these places before one, in order; no entry has such a place, and each count rose.
pub record InOrder {F : Type 0} (begun : F → ℕ) (old now : List F) (asked place : ℕ) (dropped : List Dropped) : Type 0 where
  pub places : List ℕ
  pub one_each : length places ≡ asked
  pub inside : All (λ p. p < place) places
  pub rising : IsStrictlyIncreasing places
  pub apart : All (λ p. Contains (places_of dropped) p → ⊥) places
  pub rose : (k : ℕ) (d : F) → k < asked → Rose (begun (slice_index_or old (slice_index places k) d)) (begun (slice_index_or now k d))

-- one more number, above the others
pub rising-push : (ns : List ℕ) (n : ℕ) → IsStrictlyIncreasing ns → All (λ m. m < n) ns → IsStrictlyIncreasing (ns ++ n ∷ [])
rising-push ns n up below k h = grind (arith, common_steps, up k, below k 0)

below-or-last : (k n : ℕ) → k < n + 1 → (k < n) ⊎ (k ≡ n)
below-or-last k n h = grind arith

no-less : (n : ℕ) → n < n → ⊥
no-less n h = omega arith

-- the next finder stays, and its count rose
pub InOrder-stays : {F : Type 0} (begun : F → ℕ) (old now : List F) (asked place : ℕ) (dropped : List Dropped) (x y : F)
    → InOrder begun old now asked place dropped → All (λ n. n < place) (places_of dropped) → asked < length now → place < length old → slice_index_or old place x ≡ x → Rose (begun x) (begun y)
    → InOrder begun old (slice_set now asked y) (asked + 1) (place + 1) dropped
InOrder-stays {F} begun old now asked place dropped x y h listed within inside same rose = record {
  places = h.places ++ place ∷ [];
  one_each = length-append h.places (place ∷ []) ∙ ap (λ n. n + 1) h.one_each;
  inside = All-push (λ p. p < place + 1) h.places place (All-weaker (λ p. p < place) (λ p. p < place + 1) (λ p below. omega arith) h.places h.inside) (omega arith);
  rising = rising-push h.places place h.rising h.inside;
  apart = All-push (λ p. Contains (places_of dropped) p → ⊥) h.places place h.apart
      (λ has. no-less place (All-contains (λ n. n < place) (places_of dropped) place listed has));
  rose = λ k d below. at k d (below-or-last k asked below);
} where
  at : (k : ℕ) (d : F) → (k < asked) ⊎ (k ≡ asked) → Rose (begun (slice_index_or old (slice_index (h.places ++ place ∷ []) k) d)) (begun (slice_index_or (slice_set now asked y) k d))
  at k d (inl before) =
      let place-is : slice_index (h.places ++ place ∷ []) k ≡ slice_index h.places k = get_or_append_left h.places (place ∷ []) 0 k (omega (arith, h.one_each)) in
      let other : k ≢ asked = λ e. no-less asked (subst (λ n. n < asked) e before) in
      let now-is : slice_index_or (slice_set now asked y) k d ≡ slice_index_or now k d = get_or-set_other now asked k y d other in
      rw (place-is, now-is) (h.rose k d before)
  at k d (inr last) =
      let place-is : slice_index (h.places ++ place ∷ []) k ≡ place = ap (λ n. slice_index (h.places ++ place ∷ []) n) (last ∙ sym h.one_each) ∙ get_or-append_seam h.places place [] 0 in
      let now-is : slice_index_or (slice_set now asked y) k d ≡ y = ap (λ n. slice_index_or (slice_set now asked y) n d) last ∙ get_or-set_same now asked y d within in
      let old-is : slice_index_or old place d ≡ x = get_or_default old place d x inside ∙ same in
      rw (place-is, now-is, old-is) rose

-- the next finder is dropped: the front stays as it is
pub InOrder-drops : {F : Type 0} (begun : F → ℕ) (old now rest : List F) (asked place : ℕ) (dropped : List Dropped) (proposal : Lattice)
    → InOrder begun old now asked place dropped → asked ≤ length now
    → InOrder begun old (take asked now ++ rest) asked (place + 1) (dropped ++ record { place = place; proposal = proposal } ∷ [])
InOrder-drops {F} begun old now rest asked place dropped proposal h within = record {
  places = h.places;
  one_each = h.one_each;
  inside = All-weaker (λ p. p < place) (λ p. p < place + 1) (λ p below. omega arith) h.places h.inside;
  rising = h.rising;
  apart = λ k d below has. at k d below (Contains-push_cases (places_of dropped) place (slice_index_or h.places k d) (subst (λ ns. Contains ns (slice_index_or h.places k d)) listed has));
  rose = λ k d below.
      let few : k < length (take asked now) = omega (arith, length-take-le asked now within) in
      let now-is : slice_index_or (take asked now ++ rest) k d ≡ slice_index_or now k d = get_or_append_left (take asked now) rest d k few ∙ get_or-take asked now k d below in
      rw now-is (h.rose k d below);
} where
  entry : Dropped
  entry = record { place = place; proposal = proposal }

  listed : places_of (dropped ++ record { place = place; proposal = proposal } ∷ []) ≡ places_of dropped ++ place ∷ []
  listed = map-append (λ (e : Dropped). e.place) dropped (record { place = place; proposal = proposal } ∷ [])

  at : (k : ℕ) (d : ℕ) → k < length h.places → Contains (places_of dropped) (slice_index_or h.places k d) ⊎ (place ≡ slice_index_or h.places k d) → ⊥
  at k d below (inl before) = h.apart k d below before
  at k d below (inr last) = no-less place (subst (λ n. n < place) (sym last) (h.inside k d below))

-- the whole list was walked
pub InOrder-ends : {F : Type 0} (begun : F → ℕ) (old now : List F) (asked place : ℕ) (dropped : List Dropped)
    → InOrder begun old now asked place dropped → asked ≡ length now → place ≡ length old → StayInOrder begun old now dropped
InOrder-ends begun old now asked place dropped h all whole = record {
  places = h.places;
  one_each = h.one_each ∙ all;
  inside = subst (λ n. All (λ p. p < n) h.places) whole h.inside;
  rising = h.rising;
  apart = h.apart;
  rose = λ k d below. h.rose k d (subst (λ n. k < n) (sym all) below);
}
