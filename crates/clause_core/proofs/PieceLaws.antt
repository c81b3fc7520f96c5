-- Texts whose pieces pass through a buffer one after the other.
use Rattle.std.proofs.Common.{◌≡◌, ℕ, ◌+◌, ◌≤◌, ◌<◌, List, [], ◌++◌, length, drop, get_or, sym, ap, ◌∙◌, subst, append_assoc, drop-cons, add-one}
use Rattle.std.specs.List.{flat_map}
use Rattle.std.proofs.lemmas.List.{drop_all}
use Rattle.std.specs.declared.option.Option.{Option}
use Rattle.wire_io.specs.Told.{GainsFront}
use Rattle.wire_io.specs.Laws.{GainsFront-more}
use Rattle.wire_io.specs.Passing.{Passes}
use Rattle.wire_io.proofs.Tools.{Passes-append, Passes-front, IsPassed, IsPassed-done}

-- nothing is still to come
pub passed_all : (a b : Option (List ℕ)) (u v rest whole : List ℕ) → IsPassed a b u v rest whole → rest ≡ [] → Passes a b u v whole
passed_all a b u v rest whole h e = IsPassed-done a b u v whole (subst (λ z. IsPassed a b u v z whole) e h)

-- a front of the first of two parts
front_more : (a b : Option (List ℕ)) (held xs ys : List ℕ) → GainsFront a b (held ++ xs) → GainsFront a b (held ++ (xs ++ ys))
front_more a b held xs ys h = subst (GainsFront a b) (append_assoc held xs ys) (GainsFront-more a b (held ++ xs) ys h)

-- three parts of a text
pub stop-one : (a b : Option (List ℕ)) (held x y z : List ℕ) → GainsFront a b (held ++ x) → GainsFront a b (held ++ (x ++ (y ++ z)))
stop-one a b held x y z h = front_more a b held x (y ++ z) h

pub stop-two : (a b c : Option (List ℕ)) (h0 h1 x y z : List ℕ) → Passes a b h0 h1 x → GainsFront b c (h1 ++ y) → GainsFront a c (h0 ++ (x ++ (y ++ z)))
stop-two a b c h0 h1 x y z p h = Passes-front a b c h0 h1 x (y ++ z) p (front_more b c h1 y z h)

pub stop-three : (a b c d : Option (List ℕ)) (h0 h1 h2 x y z : List ℕ) → Passes a b h0 h1 x → Passes b c h1 h2 y → GainsFront c d (h2 ++ z) → GainsFront a d (h0 ++ (x ++ (y ++ z)))
stop-three a b c d h0 h1 h2 x y z p q h = Passes-front a b d h0 h1 x (y ++ z) p (Passes-front b c d h1 h2 y z q h)

pub all-three : (a b c d : Option (List ℕ)) (h0 h1 h2 h3 x y z : List ℕ) → Passes a b h0 h1 x → Passes b c h1 h2 y → Passes c d h2 h3 z → Passes a d h0 h3 (x ++ (y ++ z))
all-three a b c d h0 h1 h2 h3 x y z p q r = Passes-append a b d h0 h1 h3 x (y ++ z) p (Passes-append b c d h1 h2 h3 y z q r)

-- one more element of a list whose texts follow one another
pub flat_map-drop : {X : Type 0} (f : X → List ℕ) (xs : List X) (i : ℕ) (d : X) → i < length xs → flat_map f (drop i xs) ≡ f (get_or xs i d) ++ flat_map f (drop (i + 1) xs)
flat_map-drop f xs i d h = ap (flat_map f) (drop-cons xs i d h) ∙ ap (λ n. f (get_or xs i d) ++ flat_map f (drop n xs)) (sym (add-one i))

pub flat_map-end : {X : Type 0} (f : X → List ℕ) (xs : List X) (i : ℕ) → length xs ≤ i → flat_map f (drop i xs) ≡ []
flat_map-end f xs i h = ap (flat_map f) (drop_all i xs h)
