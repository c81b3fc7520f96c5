-- What holds while the finders of a list are asked one after another.
use Rattle.std.specs.Prelude.{◌≡◌, ℕ, ◌+◌, ◌-◌, ◌^◌, ◌<◌, ◌≤◌, min, List, [], ◌∷◌, ◌++◌, length, map, take, drop, All, slice_index_or, slice_set}
use Rattle.std.specs.List.{remove}
use Rattle.std.specs.List.Sorted.{IsStrictlyIncreasing}
use Rattle.std.proofs.Common.{sym, ◌∙◌, ap, subst, suc, arith, add-zero, add-one, length-append, length-drop}
use Rattle.std.proofs.lemmas.List.{take_more_set, take-set, take_all, drop-set-lt, get_or-drop, get_or-map, drop-drop, map-append, length-map, length-set, length-take-le}
use Rattle.std.proofs.Math.Seq.{take-append_seam, drop-append_seam}
use Rattle.std.proofs.lemmas.List.Elements.{All-push, All-weaker, All-map}
use Rattle.cube_core.specs.Function.{Function}
use Rattle.lattice_grid.specs.Lattice.{Lattice}
use Rattle.finder_set.specs.declared.improve.Dropped.{Dropped}
use Rattle.finder_set.proofs.Ordering.{InOrder, InOrder-stays, InOrder-drops, InOrder-ends, rising-push}
use Rattle.finder_set.specs.Finders.{places_of, AreDropped, IsWrongProposal, AreAsked}
use Rattle.wire_io.specs.Causes.{Rose}

-- The finders before a place of the old list were asked: those that stay stand at the front of the new one, the others were dropped; the later ones stand as they did.
pub record IsAsking {F : Type 0} (begun left : F → ℕ) (f : Function) (bound : ℕ) (old now : List F) (asked place : ℕ) (dropped : List Dropped) : Type 0 where
  pub entries : AreDropped f bound place dropped
  pub counted : asked + length dropped ≡ place
  pub stay : length now + length dropped ≡ length old
  pub later : drop asked now ≡ drop place old
  pub spent : All (λ finder. left finder ≡ 0) (take asked now)
  pub order : InOrder begun old now asked place dropped
  pub rose : (n : ℕ) → All (λ finder. n ≤ begun finder) old → All (λ finder. Rose n (begun finder)) (take asked now)

-- what rose above a number rose above a smaller one
rose-above : (limit n before now : ℕ) → n ≤ before → min (before + 1) limit ≤ now → min (n + 1) limit ≤ now
rose-above limit n before now below rose = omega arith

-- the next place, with no entry
AreDropped-later : (f : Function) (bound place : ℕ) (dropped : List Dropped) → AreDropped f bound place dropped → AreDropped f bound (place + 1) dropped
AreDropped-later f bound place dropped h = record {
  places = All-weaker (λ entry. entry.place < place) (λ entry. entry.place < place + 1) (λ entry below. omega arith) dropped h.places;
  rising = h.rising;
  wrong = h.wrong;
}

-- no entry has the next place yet
places-below : (f : Function) (bound place : ℕ) (dropped : List Dropped) → AreDropped f bound place dropped → All (λ n. n < place) (places_of dropped)
places-below f bound place dropped h = All-map (λ n. n < place) (λ (e : Dropped). e.place) dropped h.places

-- the next place, with an entry
AreDropped-push : (f : Function) (bound place : ℕ) (dropped : List Dropped) (proposal : Lattice) → AreDropped f bound place dropped → IsWrongProposal f bound proposal
    → AreDropped f bound (place + 1) (dropped ++ record { place = place; proposal = proposal } ∷ [])
AreDropped-push f bound place dropped proposal h wrong =
    let entry : Dropped = record { place = place; proposal = proposal } in
    let later : AreDropped f bound (place + 1) dropped = AreDropped-later f bound place dropped h in
    let rising : IsStrictlyIncreasing (places_of dropped ++ place ∷ []) =
    rising-push (places_of dropped) place h.rising (places-below f bound place dropped h) in
    record {
      places = All-push (λ (e : Dropped). e.place < place + 1) dropped entry later.places (omega arith);
      rising = subst IsStrictlyIncreasing (sym (map-append (λ (e : Dropped). e.place) dropped (entry ∷ []))) rising;
      wrong = All-push (λ (e : Dropped). IsWrongProposal f bound e.proposal) dropped entry later.wrong wrong;
    }

-- what stands at the next place
next-same : {F : Type 0} (old now : List F) (asked place : ℕ) (d : F) → drop asked now ≡ drop place old → slice_index_or now asked d ≡ slice_index_or old place d
next-same old now asked place d same =
    let there : slice_index_or now (asked + 0) d ≡ slice_index_or old (place + 0) d = sym (get_or-drop asked now 0 d) ∙ ap (λ xs. slice_index_or xs 0 d) same ∙ get_or-drop place old 0 d in
    ap (λ n. slice_index_or now n d) (sym (add-zero asked)) ∙ there ∙ ap (λ n. slice_index_or old n d) (add-zero place)

-- and what comes after it
next-later : {F : Type 0} (old now : List F) (asked place : ℕ) → drop asked now ≡ drop place old → drop (asked + 1) now ≡ drop (place + 1) old
next-later old now asked place same = sym (drop-drop 1 asked now) ∙ ap (drop 1) same ∙ drop-drop 1 place old

-- The next finder was begun and asked until nothing was left: it stays.
pub IsAsking-stays : {F : Type 0} (begun left : F → ℕ) (f : Function) (bound : ℕ) (old now : List F) (asked place : ℕ) (dropped : List Dropped) (x y : F)
    → IsAsking begun left f bound old now asked place dropped → asked < length now → x ≡ slice_index_or now asked x → Rose (begun x) (begun y) → left y ≡ 0
    → IsAsking begun left f bound old (slice_set now asked y) (asked + 1) (place + 1) dropped
IsAsking-stays {F} begun left f bound old now asked place dropped x y h within is rose spent =
    let front : take (asked + 1) (slice_set now asked y) ≡ take asked now ++ y ∷ [] = take_more_set now asked y within in
    let inside : place < length old = omega (arith, h.counted, h.stay) in
    let same : slice_index_or old place x ≡ x = sym (is ∙ next-same old now asked place x h.later) in
    record {
      entries = AreDropped-later f bound place dropped h.entries;
      counted = omega (arith, h.counted);
      stay = ap (λ n. n + length dropped) (length-set now asked y) ∙ h.stay;
      order = InOrder-stays begun old now asked place dropped x y h.order (places-below f bound place dropped h.entries) within inside same rose;
      later = drop-set-lt (asked + 1) now asked y (omega arith) ∙ next-later old now asked place h.later;
      spent = subst (All (λ (finder : F). left finder ≡ 0)) (sym front) (All-push (λ (finder : F). left finder ≡ 0) (take asked now) y h.spent spent);
      rose = λ n least.
          let below : n ≤ begun x = subst (λ (z : F). n ≤ begun z) same (least place x inside) in
          subst (All (λ (finder : F). Rose n (begun finder))) (sym front)
          (All-push (λ (finder : F). Rose n (begun finder)) (take asked now) y (h.rose n least) (rose-above (2 ^ 64 - 1) n (begun x) (begun y) below rose));
    }

-- a list after what stands at a place was changed and removed
without : {F : Type 0} (xs : List F) (i : ℕ) (y : F) → remove (slice_set xs i y) i ≡ take i xs ++ drop (i + 1) xs
without xs i y = ap (λ ys. ys ++ drop (suc i) (slice_set xs i y)) (take-set xs i y) ∙ ap (λ n. take i xs ++ drop n (slice_set xs i y)) (sym (add-one i))
    ∙ ap (λ ys. take i xs ++ ys) (drop-set-lt (i + 1) xs i y (omega arith))

-- what is so of each image
All-from_map : {F : Type 0} (P : ℕ → Type 0) (b : F → ℕ) (xs : List F) → All P (map b xs) → All (λ x. P (b x)) xs
All-from_map P b xs all k d within =
    subst P (get_or-map b xs k d (b d) within) (all k (b d) (omega (arith, length-map xs b)))

-- The next finder proposed a wrong lattice: it is dropped, with an entry.
pub IsAsking-drops : {F : Type 0} (begun left : F → ℕ) (f : Function) (bound : ℕ) (old now new : List F) (asked place : ℕ) (dropped entries : List Dropped) (y : F) (proposal : Lattice)
    → IsAsking begun left f bound old now asked place dropped → asked < length now → IsWrongProposal f bound proposal
    → new ≡ remove (slice_set now asked y) asked → entries ≡ dropped ++ record { place = place; proposal = proposal } ∷ []
    → IsAsking begun left f bound old new asked (place + 1) entries
IsAsking-drops {F} begun left f bound old now new asked place dropped entries y proposal h within wrong new-is entries-is =
    let rest : List F = drop (asked + 1) now in
    let few : length (take asked now) ≡ asked = length-take-le asked now (omega arith) in
    let front : take asked (take asked now ++ rest) ≡ take asked now = subst (λ n. take n (take asked now ++ rest) ≡ take asked now) few (take-append_seam (take asked now) rest) in
    let back : drop asked (take asked now ++ rest) ≡ rest = subst (λ n. drop n (take asked now ++ rest) ≡ rest) few (drop-append_seam (take asked now) rest) in
    let many : length (take asked now ++ rest) + 1 ≡ length now = omega (arith, length-append (take asked now) rest, few, length-drop (asked + 1) now) in
    let more : length (dropped ++ record { place = place; proposal = proposal } ∷ []) ≡ length dropped + 1 = length-append dropped (record { place = place; proposal = proposal } ∷ []) in
    let asking : IsAsking begun left f bound old (take asked now ++ rest) asked (place + 1) (dropped ++ record { place = place; proposal = proposal } ∷ []) = record {
      entries = AreDropped-push f bound place dropped proposal h.entries wrong;
      counted = omega (arith, h.counted, more);
      stay = omega (arith, h.stay, more, many);
      order = InOrder-drops begun old now rest asked place dropped proposal h.order (omega arith);
      later = back ∙ next-later old now asked place h.later;
      spent = subst (All (λ (finder : F). left finder ≡ 0)) (sym front) h.spent;
      rose = λ n least. subst (All (λ (finder : F). Rose n (begun finder))) (sym front) (h.rose n least);
    } in
    rw (new-is, entries-is, without now asked y) asking

-- All finders were asked.
pub IsAsking-ends : {F : Type 0} (begun left : F → ℕ) (f : Function) (bound : ℕ) (old now : List F) (asked place : ℕ) (dropped : List Dropped)
    → IsAsking begun left f bound old now asked place dropped → length old ≤ place → place ≤ length old → AreAsked begun left f bound old now dropped
IsAsking-ends {F} begun left f bound old now asked place dropped h below above =
    let all : take asked now ≡ now = take_all asked now (omega (arith, h.counted, h.stay)) in
    record {
      entries = subst (λ n. AreDropped f bound n dropped) (omega arith) h.entries;
      stay = h.stay;
      order = InOrder-ends begun old now asked place dropped h.order (omega (arith, h.counted, h.stay)) (omega arith);
      spent = subst (All (λ (finder : F). left finder ≡ 0)) all h.spent;
      rose = λ least is_least. subst (All (λ (finder : F). Rose least (begun finder))) all (h.rose least (All-from_map (λ n. least ≤ n) begun old is_least.below));
    }
