-- Bytes that a sink gains, one call after another.
use Rattle.std.proofs.Common.{◌≡◌, ℕ, List, [], ◌∷◌, ◌++◌, sym, ap, ◌∙◌, append_assoc, None, Some}
use Rattle.std.specs.declared.option.Option.{Option}
use Rattle.std.specs.Prelude.{IfSome}
use Rattle.std.proofs.lemmas.List.{append-nil}
use Rattle.std.proofs.lemmas.List.Concat.{flat_map-append}
use Rattle.wire_io.specs.Told.{Gains, GainsFront}
use Rattle.report_text.specs.declared.answer.Version.TheVariants.{Two}
use Rattle.journal_text.specs.Parts.{Part}
use Rattle.journal_text.specs.Text.{part_text, parts_text}

pub gains_then : (a b c : Option (List ℕ)) (xs ys : List ℕ) → Gains a b xs → Gains b c ys → Gains a c (xs ++ ys)
gains_then a b None xs ys g h = tt
gains_then a None (Some z) xs ys g h = absurd h
gains_then None (Some y) (Some z) xs ys g h = absurd g
gains_then (Some x) (Some y) (Some z) xs ys g h = h ∙ ap (λ w. w ++ ys) g ∙ append_assoc x xs ys

pub gains_nothing : (a : Option (List ℕ)) → Gains a a []
gains_nothing None = tt
gains_nothing (Some x) = sym (append-nil x)

pub front_then : (a b c : Option (List ℕ)) (xs ys : List ℕ) → Gains a b xs → GainsFront b c ys → GainsFront a c (xs ++ ys)
front_then a b c xs ys g h = record {
  front = xs ++ h.front;
  rest = h.rest;
  whole = ap (λ w. xs ++ w) h.whole ∙ sym (append_assoc xs h.front h.rest);
  gained = gains_then a b c xs h.front g h.gained;
}

pub front_of_all : (a b : Option (List ℕ)) (xs : List ℕ) → Gains a b xs → GainsFront a b xs
front_of_all a b xs g = record { front = xs; rest = []; whole = sym (append-nil xs); gained = g }

pub front_longer : (a b : Option (List ℕ)) (xs ys : List ℕ) → GainsFront a b xs → GainsFront a b (xs ++ ys)
front_longer a b xs ys h = record { front = h.front; rest = h.rest ++ ys; whole = ap (λ w. w ++ ys) h.whole ∙ append_assoc h.front h.rest ys; gained = h.gained }

-- what is known where a sink tells is known where it tells later
pub told_later : (P Q R : Type 0) (a b : Option (List ℕ)) (xs : List ℕ) → Gains a b xs → IfSome a (λ _. P) → IfSome b (λ _. Q) → (P → Q → R) → IfSome b (λ _. R)
told_later P Q R a None xs g p q f = tt
told_later P Q R None (Some y) xs g p q f = absurd g
told_later P Q R (Some x) (Some y) xs g p q f = f p q

pub told_still : (P R : Type 0) (a : Option (List ℕ)) → IfSome a (λ _. P) → (P → R) → IfSome a (λ _. R)
told_still P R None p f = tt
told_still P R (Some x) p f = f p

-- the text of one more part
pub parts_push : (parts : List Part) (part : Part) → parts_text Two (parts ++ part ∷ []) ≡ parts_text Two parts ++ part_text Two part
parts_push parts part = flat_map-append (part_text Two) parts (part ∷ []) ∙ ap (λ w. parts_text Two parts ++ w) (append-nil (part_text Two part))

pub parts_joined : (earlier later : List Part) → parts_text Two (earlier ++ later) ≡ parts_text Two earlier ++ parts_text Two later
parts_joined earlier later = flat_map-append (part_text Two) earlier later
