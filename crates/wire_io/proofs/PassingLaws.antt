-- How what one call let pass and what the next one did come to what both did.
use Rattle.std.specs.Prelude.{◌≡◌, ℕ, ◌+◌, ◌<◌, List, [], ◌∷◌, ◌++◌, length, take, drop, refl}
use Rattle.std.specs.List.{flat_map}
use Rattle.std.specs.declared.option.Option.{Option}
use Rattle.std.proofs.Common.{sym, ◌∙◌, ap, subst, append_assoc, get_or, suc, drop-cons}
use Rattle.std.proofs.lemmas.List.Concat.{flat_map-append}
use Rattle.std.proofs.lemmas.List.{append-nil, take-append-drop, take_more}
use Rattle.wire_io.specs.Told.{Gains, GainsFront}
use Rattle.wire_io.specs.Laws.{Gains-none, Gains-append, GainsFront-append}
use Rattle.wire_io.specs.Passing.{Passes, IsHeld, IsStopped}

pub Passes-none : (told : Option (List ℕ)) (waiting : List ℕ) → Passes told told waiting waiting []
Passes-none told waiting = record { passed = []; all = sym (append-nil waiting); gained = Gains-none told }

-- the bytes only wait
pub Passes-kept : (told : Option (List ℕ)) (waiting bytes : List ℕ) → Passes told told waiting (waiting ++ bytes) bytes
Passes-kept told waiting bytes = record { passed = []; all = refl; gained = Gains-none told }

-- all that waited went to the sink
pub Passes-flushed : (a b : Option (List ℕ)) (waiting : List ℕ) → Gains a b waiting → Passes a b waiting [] []
Passes-flushed a b waiting gained = record { passed = waiting; all = refl; gained = gained }

-- the bytes go to the sink, since nothing waits
pub Passes-given : (a b : Option (List ℕ)) (bytes : List ℕ) → Gains a b bytes → Passes a b [] [] bytes
Passes-given a b bytes gained = record { passed = bytes; all = append-nil bytes; gained = gained }

pub Passes-append : (a b c : Option (List ℕ)) (u v w xs ys : List ℕ) → Passes a b u v xs → Passes b c v w ys → Passes a c u w (xs ++ ys)
Passes-append a b c u v w xs ys first second = record {
  passed = first.passed ++ second.passed;
  all = append_assoc first.passed second.passed w ∙ ap (λ z. first.passed ++ z) second.all ∙ sym (append_assoc first.passed v ys)
      ∙ ap (λ z. z ++ ys) first.all ∙ append_assoc u xs ys;
  gained = Gains-append a b c first.passed second.passed first.gained second.gained;
}

-- the bytes pass, and then a front of what waits and of the next bytes goes to the sink
pub Passes-front : (a b c : Option (List ℕ)) (u v xs ys : List ℕ) → Passes a b u v xs → GainsFront b c (v ++ ys) → GainsFront a c (u ++ (xs ++ ys))
Passes-front a b c u v xs ys first second =
    subst (GainsFront a c) (sym (append_assoc first.passed v ys) ∙ ap (λ z. z ++ ys) first.all ∙ append_assoc u xs ys)
    (GainsFront-append a b c first.passed (v ++ ys) first.gained second)

-- what passed, some of it to the sink
pub GainsFront-passed : (a b : Option (List ℕ)) (u v bytes : List ℕ) → Passes a b u v bytes → GainsFront a b (u ++ bytes)
GainsFront-passed a b u v bytes h = record { front = h.passed; rest = v; whole = sym h.all; gained = h.gained }

-- what passed through an empty buffer that is flushed in the end went to the sink
pub Passes-all : (a b c : Option (List ℕ)) (empty waiting bytes : List ℕ) → empty ≡ [] → Passes a b empty waiting bytes → Gains b c waiting → Gains a c bytes
Passes-all a b c empty waiting bytes e h last =
    subst (Gains a c) (h.all ∙ ap (λ w. w ++ bytes) e) (Gains-append a b c h.passed waiting h.gained last)

-- or a front of it did
pub Passes-all_front : (a b c : Option (List ℕ)) (empty waiting bytes : List ℕ) → empty ≡ [] → Passes a b empty waiting bytes → GainsFront b c waiting → GainsFront a c bytes
Passes-all_front a b c empty waiting bytes e h last =
    subst (GainsFront a c) (h.all ∙ ap (λ w. w ++ bytes) e) (GainsFront-append a b c h.passed waiting h.gained last)

pub GainsFront-emptied : (a b : Option (List ℕ)) (empty bytes : List ℕ) → empty ≡ [] → GainsFront a b (empty ++ bytes) → GainsFront a b bytes
GainsFront-emptied a b empty bytes e h = subst (GainsFront a b) (ap (λ w. w ++ bytes) e) h

-- Of a whole text a front has passed, and this is still to come.
pub record IsPassed (old new : Option (List ℕ)) (waiting waiting' rest whole : List ℕ) : Type 0 where
  pub done : List ℕ
  pub text : done ++ rest ≡ whole
  pub passes : Passes old new waiting waiting' done

pub IsPassed-none : (told : Option (List ℕ)) (waiting whole : List ℕ) → IsPassed told told waiting waiting whole whole
IsPassed-none told waiting whole = record { done = []; text = refl; passes = Passes-none told waiting }

pub IsPassed-more : (a b c : Option (List ℕ)) (u v w rest whole piece later : List ℕ) → IsPassed a b u v rest whole → rest ≡ piece ++ later → Passes b c v w piece → IsPassed a c u w later whole
IsPassed-more a b c u v w rest whole piece later h e now = record {
  done = h.done ++ piece;
  text = append_assoc h.done piece later ∙ ap (λ z. h.done ++ z) (sym e) ∙ h.text;
  passes = Passes-append a b c u v w h.done piece h.passes now;
}

pub GainsFront-longer : (a b : Option (List ℕ)) (xs ys : List ℕ) → GainsFront a b xs → GainsFront a b (xs ++ ys)
GainsFront-longer a b xs ys h = record {
  front = h.front;
  rest = h.rest ++ ys;
  whole = ap (λ w. w ++ ys) h.whole ∙ append_assoc h.front h.rest ys;
  gained = h.gained;
}

-- a fault within the next piece
pub IsPassed-stop : (a b c : Option (List ℕ)) (u v rest whole piece later : List ℕ) → IsPassed a b u v rest whole → rest ≡ piece ++ later → GainsFront b c (v ++ piece) → GainsFront a c (u ++ whole)
IsPassed-stop a b c u v rest whole piece later h e now =
    subst (λ z. GainsFront a c (u ++ z)) (ap (λ z. h.done ++ z) (sym e) ∙ h.text)
    (Passes-front a b c u v h.done (piece ++ later) h.passes (subst (GainsFront b c) (append_assoc v piece later) (GainsFront-longer b c (v ++ piece) later now)))

-- at any moment
pub IsPassed-front : (a b : Option (List ℕ)) (u v rest whole : List ℕ) → IsPassed a b u v rest whole → GainsFront a b (u ++ whole)
IsPassed-front a b u v rest whole h = record {
  front = h.passes.passed;
  rest = v ++ rest;
  whole = ap (λ z. u ++ z) (sym h.text) ∙ sym (append_assoc u h.done rest) ∙ ap (λ z. z ++ rest) (sym h.passes.all) ∙ append_assoc h.passes.passed v rest;
  gained = h.passes.gained;
}

-- the last piece
pub IsPassed-end : (a b c : Option (List ℕ)) (u v w rest whole : List ℕ) → IsPassed a b u v rest whole → Passes b c v w rest → Passes a c u w whole
IsPassed-end a b c u v w rest whole h now = subst (Passes a c u w) h.text (Passes-append a b c u v w h.done rest h.passes now)

-- one turn of a loop that lets the piece of each element pass
pub Passes-flat_map : {X : Type 0} (f : X → List ℕ) (xs : List X) (i : ℕ) (d x : X) (a b c : Option (List ℕ)) (u v w : List ℕ) → i < length xs → x ≡ get_or xs i d
    → Passes a b u v (flat_map f (take i xs)) → Passes b c v w (f x) → Passes a c u w (flat_map f (take (i + 1) xs))
Passes-flat_map f xs i d x a b c u v w within is before now =
    let more : flat_map f (take (i + 1) xs) ≡ flat_map f (take i xs) ++ f x =
    ap (flat_map f) (take_more xs i d within) ∙ flat_map-append f (take i xs) (get_or xs i d ∷ [])
    ∙ ap (λ ys. flat_map f (take i xs) ++ ys) (append-nil (f (get_or xs i d)) ∙ ap f (sym is)) in
    subst (Passes a c u w) (sym more) (Passes-append a b c u v w (flat_map f (take i xs)) (f x) before now)

-- the pieces of a list before one element, its own, and those behind it
pub flat_map-parts : {X : Type 0} (f : X → List ℕ) (xs : List X) (i : ℕ) (d x : X) → i < length xs → x ≡ get_or xs i d
    → flat_map f xs ≡ flat_map f (take i xs) ++ (f x ++ flat_map f (drop (suc i) xs))
flat_map-parts f xs i d x within is =
    ap (flat_map f) (sym (take-append-drop i xs)) ∙ flat_map-append f (take i xs) (drop i xs)
    ∙ ap (λ ys. flat_map f (take i xs) ++ flat_map f ys) (drop-cons xs i d within) ∙ ap (λ y. flat_map f (take i xs) ++ (f y ++ flat_map f (drop (suc i) xs))) (sym is)

-- such a loop that stops within the piece of one element
pub Passes-flat_map_front : {X : Type 0} (f : X → List ℕ) (xs : List X) (i : ℕ) (d x : X) (a b c : Option (List ℕ)) (u v : List ℕ) → i < length xs → x ≡ get_or xs i d
    → Passes a b u v (flat_map f (take i xs)) → GainsFront b c (v ++ f x) → GainsFront a c (u ++ flat_map f xs)
Passes-flat_map_front f xs i d x a b c u v within is before now =
    subst (λ z. GainsFront a c (u ++ z)) (sym (flat_map-parts f xs i d x within is))
    (Passes-front a b c u v (flat_map f (take i xs)) (f x ++ flat_map f (drop (suc i) xs)) before
    (subst (GainsFront b c) (append_assoc v (f x) (flat_map f (drop (suc i) xs))) (GainsFront-longer b c (v ++ f x) (flat_map f (drop (suc i) xs)) now)))

-- a fault within the first of two texts
pub GainsFront-first : (a b : Option (List ℕ)) (u xs ys : List ℕ) → GainsFront a b (u ++ xs) → GainsFront a b (u ++ (xs ++ ys))
GainsFront-first a b u xs ys h = subst (GainsFront a b) (append_assoc u xs ys) (GainsFront-longer a b (u ++ xs) ys h)

-- nothing is still to come
pub IsPassed-done : (a b : Option (List ℕ)) (u v whole : List ℕ) → IsPassed a b u v [] whole → Passes a b u v whole
IsPassed-done a b u v whole h = subst (Passes a b u v) (sym (append-nil h.done) ∙ h.text) h.passes

-- a loop in which the piece of one element did not pass
pub IsStopped-flat_map : {X : Type 0} (f : X → List ℕ) (xs : List X) (i : ℕ) (d x : X) (a b c : Option (List ℕ)) (u v w : List ℕ) → i < length xs → x ≡ get_or xs i d
    → Passes a b u v (flat_map f (take i xs)) → IsHeld b c v w (f x) → IsStopped a c u w (flat_map f xs)
IsStopped-flat_map f xs i d x a b c u v w within is before now = record {
  front = flat_map f (take i xs);
  piece = f x;
  rest = flat_map f (drop (suc i) xs);
  whole = flat_map-parts f xs i d x within is;
  middle = b;
  waited = v;
  passed = before;
  held = now;
}
