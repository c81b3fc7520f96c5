-- How what one call moved and what the next one moved come to what both moved.
use Rattle.std.specs.Prelude.{◌≡◌, ℕ, List, [], ◌++◌, None, Some, refl}
use Rattle.std.specs.declared.option.Option.{Option}
use Rattle.std.specs.List.{flat_map}
use Rattle.std.proofs.Common.{get_or, suc, drop-cons}
use Rattle.std.proofs.lemmas.List.Concat.{flat_map-append}
use Rattle.std.specs.Prelude.{◌+◌, ◌-◌, ◌≤◌, ◌<◌, take, drop, length}
use Rattle.std.proofs.Common.{sym, ◌∙◌, ap, subst, append_assoc, arith, length-drop}
use Rattle.std.proofs.lemmas.List.{append-nil, take-append-drop, take_all, drop-drop}
use Rattle.std.proofs.Math.Seq.{take-add, take-append_seam}
use Rattle.wire_io.specs.Told.{Gains, GainsFront, Loses}

pub Gains-none : (told : Option (List ℕ)) → Gains told told []
Gains-none None = tt
Gains-none (Some before) = sym (append-nil before)

pub Gains-append : (a b c : Option (List ℕ)) (xs ys : List ℕ) → Gains a b xs → Gains b c ys → Gains a c (xs ++ ys)
Gains-append a b None xs ys first second = tt
Gains-append a None (Some z) xs ys first second = absurd second
Gains-append None (Some y) (Some z) xs ys first second = absurd first
Gains-append (Some x) (Some y) (Some z) xs ys first second = second ∙ ap (λ w. w ++ ys) first ∙ append_assoc x xs ys

-- a whole piece, and then a front of the next one
pub GainsFront-append : (a b c : Option (List ℕ)) (xs ys : List ℕ) → Gains a b xs → GainsFront b c ys → GainsFront a c (xs ++ ys)
GainsFront-append a b c xs ys first second = record {
  front = xs ++ second.front;
  rest = second.rest;
  whole = ap (λ w. xs ++ w) second.whole ∙ sym (append_assoc xs second.front second.rest);
  gained = Gains-append a b c xs second.front first second.gained;
}

-- a front of the first piece alone
pub GainsFront-more : (a b : Option (List ℕ)) (xs ys : List ℕ) → GainsFront a b xs → GainsFront a b (xs ++ ys)
GainsFront-more a b xs ys first = record {
  front = first.front;
  rest = first.rest ++ ys;
  whole = ap (λ w. w ++ ys) first.whole ∙ append_assoc first.front first.rest ys;
  gained = first.gained;
}

-- a whole first piece, and nothing of what comes next
pub GainsFront-whole : (a b : Option (List ℕ)) (xs ys : List ℕ) → Gains a b xs → GainsFront a b (xs ++ ys)
GainsFront-whole a b xs ys first = record { front = xs; rest = ys; whole = refl; gained = first }

pub GainsFront-take : (a b : Option (List ℕ)) (bytes : List ℕ) (n : ℕ) → Gains a b (take n bytes) → GainsFront a b bytes
GainsFront-take a b bytes n first = record { front = take n bytes; rest = drop n bytes; whole = sym (take-append-drop n bytes); gained = first }

-- a front, and then a front of what is left
pub Gains-take : (a b c : Option (List ℕ)) (bytes : List ℕ) (n m : ℕ) → Gains a b (take n bytes) → Gains b c (take m (drop n bytes)) → Gains a c (take (n + m) bytes)
Gains-take a b c bytes n m first second = subst (Gains a c) (sym (take-add n m bytes)) (Gains-append a b c (take n bytes) (take m (drop n bytes)) first second)

pub Loses-none : (told : Option (List ℕ)) → Loses told told []
Loses-none None = tt
Loses-none (Some left) = refl

pub Loses-append : (a b c : Option (List ℕ)) (xs ys : List ℕ) → Loses a b xs → Loses b c ys → Loses a c (xs ++ ys)
Loses-append None b c xs ys first second = tt
Loses-append (Some x) None c xs ys first second = absurd first
Loses-append (Some x) (Some y) None xs ys first second = absurd second
Loses-append (Some x) (Some y) (Some z) xs ys first second = first ∙ ap (λ w. xs ++ w) second ∙ sym (append_assoc xs ys z)

-- `&bytes[n..]`
pub slice_to_end : (bytes : List ℕ) (n : ℕ) → take (length bytes - n) (drop n bytes) ≡ drop n bytes
slice_to_end bytes n = let within : length (drop n bytes) ≤ length bytes - n = omega (arith, length-drop n bytes) in take_all (length bytes - n) (drop n bytes) within

-- what a read from the place `taken` on gives, and what is left after it
pub piece-append-left : (items piece rest : List ℕ) (taken count : ℕ) → piece ≡ take (taken + count - taken) (drop taken items) → length piece ≡ count → drop taken items ≡ take count (piece ++ rest) ++ drop (taken + count) items
piece-append-left items piece rest taken count given many =
    let whole : taken + count - taken ≡ count = omega arith in
    let front : take count (piece ++ rest) ≡ piece = ap (λ n. take n (piece ++ rest)) (sym many) ∙ take-append_seam piece rest in
    sym (ap (λ w. w ++ drop (taken + count) items) (front ∙ given ∙ ap (λ n. take n (drop taken items)) whole)
    ∙ ap (λ w. take count (drop taken items) ++ w) (sym (drop-drop count taken items)) ∙ take-append-drop count (drop taken items))

-- a loop that stopped within the piece of one element
pub GainsFront-flat_map : {X : Type 0} (f : X → List ℕ) (xs : List X) (i : ℕ) (d : X) (a b c : Option (List ℕ)) → i < length xs → Gains a b (flat_map f (take i xs)) → GainsFront b c (f (get_or xs i d)) → GainsFront a c (flat_map f xs)
GainsFront-flat_map f xs i d a b c within before now =
    let parts : flat_map f xs ≡ flat_map f (take i xs) ++ (f (get_or xs i d) ++ flat_map f (drop (suc i) xs)) =
    ap (flat_map f) (sym (take-append-drop i xs)) ∙ flat_map-append f (take i xs) (drop i xs) ∙ ap (λ ys. flat_map f (take i xs) ++ flat_map f ys) (drop-cons xs i d within) in
    subst (GainsFront a c) (sym parts) (GainsFront-append a b c (flat_map f (take i xs)) (f (get_or xs i d) ++ flat_map f (drop (suc i) xs)) before (GainsFront-more b c (f (get_or xs i d)) (flat_map f (drop (suc i) xs)) now))

-- Of a whole text a front is written, and this is still to be written.
pub record IsWritten (old new : Option (List ℕ)) (rest whole : List ℕ) : Type 0 where
  pub front : List ℕ
  pub text : front ++ rest ≡ whole
  pub gained : Gains old new front

pub IsWritten-none : (told : Option (List ℕ)) (whole : List ℕ) → IsWritten told told whole whole
IsWritten-none told whole = record { front = []; text = refl; gained = Gains-none told }

pub IsWritten-more : (a b c : Option (List ℕ)) (rest whole piece later : List ℕ) → IsWritten a b rest whole → rest ≡ piece ++ later → Gains b c piece → IsWritten a c later whole
IsWritten-more a b c rest whole piece later h e now = record {
  front = h.front ++ piece;
  text = append_assoc h.front piece later ∙ ap (λ w. h.front ++ w) (sym e) ∙ h.text;
  gained = Gains-append a b c h.front piece h.gained now;
}

pub IsWritten-stop : (a b c : Option (List ℕ)) (rest whole piece later : List ℕ) → IsWritten a b rest whole → rest ≡ piece ++ later → GainsFront b c piece → GainsFront a c whole
IsWritten-stop a b c rest whole piece later h e now =
    subst (GainsFront a c) (ap (λ w. h.front ++ w) (sym e) ∙ h.text) (GainsFront-append a b c h.front (piece ++ later) h.gained (GainsFront-more b c piece later now))

-- at any moment
pub IsWritten-front : (a b : Option (List ℕ)) (rest whole : List ℕ) → IsWritten a b rest whole → GainsFront a b whole
IsWritten-front a b rest whole h = subst (GainsFront a b) h.text (GainsFront-whole a b h.front rest h.gained)

pub IsWritten-end : (a b c : Option (List ℕ)) (rest whole : List ℕ) → IsWritten a b rest whole → Gains b c rest → Gains a c whole
IsWritten-end a b c rest whole h now = subst (Gains a c) h.text (Gains-append a b c h.front rest h.gained now)
