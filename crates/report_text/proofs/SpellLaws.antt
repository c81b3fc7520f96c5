-- How values are spelled as words, and lists of values as lines.
use Rattle.std.proofs.Common.{◌≡◌, ◌≢◌, ℕ, ◌≤◌, ◌<◌, ◌⊎◌, inl, inr, Bool, true, false, not, ◌&&◌, eqb, ltb, List, [], ◌∷◌, length, map, refl, sym, ap, ◌∙◌, subst, arith, codes}
use Rattle.std.specs.Prelude.{All}
use Rattle.std.specs.List.{AllByRecursion, list_all}
use Rattle.std.proofs.lemmas.Bool.{eqb-false, false≢true, ltb-true}
use Rattle.std.proofs.lemmas.List.Elements.{All-nil, All-cons, All-head, All-tail}
use Rattle.report_text.specs.Pieces.{Without}
use Rattle.report_text.proofs.TestedLaws.{Tested, tested_list, tested_as}

-- Each value has one word, without blanks and line feeds, and of each word one can tell whether it is one of these.
pub record Spells (A : Type 0) (Is : A → Type 0) (text : A → List ℕ) : Type 0 where
  pub same : (x y : A) → Is x → Is y → text x ≡ text y → x ≡ y
  pub plain : (at : ℕ) → at < 33 → (x : A) → Is x → Without at (text x)
  pub tested : (w : List ℕ) → Tested ((x : A) × Is x × (w ≡ text x))

-- The same of lines.
pub record SpellsLine (A : Type 0) (Is : A → Type 0) (line : A → List (List ℕ)) : Type 0 where
  pub same : (x y : A) → Is x → Is y → line x ≡ line y → x ≡ y
  pub plain : (at : ℕ) → at < 33 → (x : A) → Is x → AllByRecursion (Without at) (line x)
  pub tested : (ws : List (List ℕ)) → Tested ((x : A) × Is x × (ws ≡ line x))

headed : {X : Type 0} (x y : X) (xs ys : List X) → x ∷ xs ≡ y ∷ ys → (x ≡ y) × (xs ≡ ys)
headed x y xs ys e = (cc, cc)

-- a word that is written out
pub Without-literal : (at : ℕ) (bytes : List ℕ) → list_all (λ b. not (eqb b at)) bytes ≡ true → Without at bytes
Without-literal at [] e = tt
Without-literal at (b ∷ bytes) e = literal_next at b bytes (eqb b at) refl e (λ h. Without-literal at bytes h) where
  literal_next : (at b : ℕ) (bytes : List ℕ) (t : Bool) → eqb b at ≡ t → (not t && list_all (λ c. not (eqb c at)) bytes) ≡ true → (list_all (λ c. not (eqb c at)) bytes ≡ true → Without at bytes) → (b ≢ at) × Without at bytes
  literal_next at b bytes true f e rest = absurd (false≢true e)
  literal_next at b bytes false f e rest = (eqb-false b at f, rest e)

-- a word of bytes from 33 on
abbrev pub IsSolid : List ℕ → Type 0
IsSolid bytes = AllByRecursion (λ b. 33 ≤ b) bytes

pub Without-solid : (at : ℕ) → at < 33 → (bytes : List ℕ) → IsSolid bytes → Without at bytes
Without-solid at h [] solid = tt
Without-solid at h (b ∷ bytes) solid = let above = solid.0 in ((λ e. omega (arith, e, h, above)), Without-solid at h bytes solid.1)

solid_when : (word : List ℕ) → list_all (λ b. ltb 32 b) word ≡ true → IsSolid word
solid_when [] e = tt
solid_when (b ∷ word) e = step b word (ltb 32 b) refl e (λ h. solid_when word h) where
  step : (b : ℕ) (word : List ℕ) (t : Bool) → ltb 32 b ≡ t → (t && list_all (λ c. ltb 32 c) word) ≡ true → (list_all (λ c. ltb 32 c) word ≡ true → IsSolid word) → (33 ≤ b) × IsSolid word
  step b word true f e rest = (let below = ltb-true 32 b f in omega (arith, below), rest e)
  step b word false f e rest = absurd (false≢true e)

-- no word
pub nothing : SpellsLine (Unit {0}) (λ _. Unit {0}) (λ _. [])
nothing = record {
  same = λ x y p q e. refl;
  plain = λ at h x p. tt;
  tested = λ ws. none ws;
} where
  none : (ws : List (List ℕ)) → Tested ((x : Unit {0}) × Unit {0} × (ws ≡ []))
  none [] = inl (tt, tt, refl)
  none (w ∷ ws) = inr (λ h. let e = h.2 in absurd cc)

-- a word, and then others
pub then : {A B : Type 0} {Is : A → Type 0} {Js : B → Type 0} {text : A → List ℕ} {line : B → List (List ℕ)} → Spells A Is text → SpellsLine B Js line
    → SpellsLine (A × B) (λ p. Is p.0 × Js p.1) (λ p. text p.0 ∷ line p.1)
then {A} {B} {Is} {Js} {text} {line} S T = record {
  same = λ (a, b) (c, d) p q e.
      let parts = headed (text a) (text c) (line b) (line d) e in
      let first = S.same a c p.0 q.0 parts.0 in
      let later = T.same b d p.1 q.1 parts.1 in
      λ i. (first i, later i);
  plain = λ at h x p. (S.plain at h x.0 p.0, T.plain at h x.1 p.1);
  tested = λ ws. both ws;
} where
  both : (ws : List (List ℕ)) → Tested ((x : A × B) × (Is x.0 × Js x.1) × (ws ≡ text x.0 ∷ line x.1))
  both [] = inr (λ h. let e = h.2 in absurd cc)
  both (w ∷ ws) = elim (S.tested w) [
    | inl (a, p, e) ↦ elim (T.tested ws) [
      | inl (b, q, f) ↦ inl ((a, b), (p, q), (λ i. e i ∷ f i))
      | inr none ↦ inr (λ (x, r, g). none (x.1, r.1, (headed w (text x.0) ws (line x.1) g).1))
    ]
    | inr none ↦ inr (λ (x, r, g). none (x.0, r.0, (headed w (text x.0) ws (line x.1) g).0))
  ]

-- a word that is written out, and then others
pub after : {A : Type 0} {Is : A → Type 0} {line : A → List (List ℕ)} → (word : List ℕ) → list_all (λ b. ltb 32 b) word ≡ true → SpellsLine A Is line → SpellsLine A Is (λ x. word ∷ line x)
after {A} {Is} {line} word solid T = record {
  same = λ x y p q e. T.same x y p q (headed word word (line x) (line y) e).1;
  plain = λ at h x p. (Without-solid at h word (solid_when word solid), T.plain at h x p);
  tested = λ ws. behind ws;
} where
  behind : (ws : List (List ℕ)) → Tested ((x : A) × Is x × (ws ≡ word ∷ line x))
  behind [] = inr (λ h. let e = h.2 in absurd cc)
  behind (w ∷ ws) = elim (tested_list w word) [
    | inl e ↦ elim (T.tested ws) [
      | inl (x, p, f) ↦ inl (x, p, (λ i. e i ∷ f i))
      | inr none ↦ inr (λ (x, p, g). none (x, p, (headed w word ws (line x) g).1))
    ]
    | inr none ↦ inr (λ (x, p, g). none (headed w word ws (line x) g).0)
  ]

-- those of which something more holds
pub only : {A : Type 0} {Is : A → Type 0} {line : A → List (List ℕ)} (More : A → Type 0) → ((x : A) → Tested (More x)) → SpellsLine A Is line → SpellsLine A (λ x. Is x × More x) line
only {A} {Is} {line} More test T = record {
  same = λ x y p q e. T.same x y p.0 q.0 e;
  plain = λ at h x p. T.plain at h x p.0;
  tested = λ ws. elim (T.tested ws) [
    | inl (x, p, e) ↦ elim (test x) [
      | inl more ↦ inl (x, (p, more), e)
      | inr none ↦ inr (λ (y, q, f). none (subst More (T.same y x q.0 p (sym f ∙ e)) q.1))
    ]
    | inr none ↦ inr (λ (y, q, f). none (y, q.0, f))
  ];
}

-- other values for the same lines
pub seen_as : {A B : Type 0} {Is : A → Type 0} {Js : B → Type 0} {line : A → List (List ℕ)} {line' : B → List (List ℕ)} (to : A → B) (from : B → A)
    → ((b : B) → Js b → to (from b) ≡ b) → ((a : A) → Is a → Js (to a)) → ((b : B) → Js b → Is (from b)) → ((a : A) → Is a → line' (to a) ≡ line a) → ((b : B) → line' b ≡ line (from b))
    → SpellsLine A Is line → SpellsLine B Js line'
seen_as {A} {B} {Is} {Js} {line} {line'} to from round there back lined lined' T = record {
  same = λ x y p q e. sym (round x p) ∙ ap to (T.same (from x) (from y) (back x p) (back y q) (sym (lined' x) ∙ e ∙ lined' y)) ∙ round y q;
  plain = λ at h x p. subst (AllByRecursion (Without at)) (sym (lined' x)) (T.plain at h (from x) (back x p));
  tested = λ ws. elim (T.tested ws) [
    | inl (a, p, e) ↦ inl (to a, there a p, e ∙ sym (lined a p))
    | inr none ↦ inr (λ (b, q, f). none (from b, back b q, f ∙ lined' b))
  ];
}

-- the same values, told in other words
pub told_as : {A : Type 0} {Is Js : A → Type 0} {line : A → List (List ℕ)} → ((x : A) → Is x → Js x) → ((x : A) → Js x → Is x) → SpellsLine A Is line → SpellsLine A Js line
told_as {A} {Is} {Js} {line} there back T = record {
  same = λ x y p q e. T.same x y (back x p) (back y q) e;
  plain = λ at h x p. T.plain at h x (back x p);
  tested = λ ws. elim (T.tested ws) [
    | inl (x, p, e) ↦ inl (x, there x p, e)
    | inr none ↦ inr (λ (x, q, f). none (x, back x q, f))
  ];
}

-- a word for a part of the value, and then words for the value with that part
pub then_of : {A B : Type 0} {Is : A → Type 0} {Js : B → Type 0} {text : A → List ℕ} {line : B → List (List ℕ)} (part : B → A) → ((b : B) → Js b → Is (part b)) → Spells A Is text
    → ((a : A) → SpellsLine B (λ b. Js b × (part b ≡ a)) line) → SpellsLine B Js (λ b. text (part b) ∷ line b)
then_of {A} {B} {Is} {Js} {text} {line} part is S T = record {
  same = λ b c p q e.
      let parts = headed (text (part b)) (text (part c)) (line b) (line c) e in
      let first = S.same (part b) (part c) (is b p) (is c q) parts.0 in
      (T (part b)).same b c (p, refl) (q, sym first) parts.1;
  plain = λ at h b p. (S.plain at h (part b) (is b p), (T (part b)).plain at h b (p, refl));
  tested = λ ws. both ws;
} where
  both : (ws : List (List ℕ)) → Tested ((b : B) × Js b × (ws ≡ text (part b) ∷ line b))
  both [] = inr (λ h. let e = h.2 in absurd cc)
  both (w ∷ ws) = elim (S.tested w) [
    | inl (a, p, e) ↦ elim ((T a).tested ws) [
      | inl (b, (q, is_part), f) ↦ inl (b, q, (λ i. (e ∙ ap text (sym is_part)) i ∷ f i))
      | inr none ↦ inr (λ (b, q, g).
          let parts = headed w (text (part b)) ws (line b) g in
          none (b, (q, sym (S.same a (part b) p (is b q) (sym e ∙ parts.0))), parts.1))
    ]
    | inr none ↦ inr (λ (b, q, g). none (part b, is b q, (headed w (text (part b)) ws (line b) g).0))
  ]

-- a word for each value of a list
pub each : {A : Type 0} {Is : A → Type 0} {text : A → List ℕ} → Spells A Is text → SpellsLine (List A) (All Is) (map text)
each {A} {Is} {text} S = record {
  same = λ xs ys p q e. same_each xs ys p q e;
  plain = λ at h xs p. plain_each at h xs p;
  tested = λ ws. test_each ws;
} where
  same_each : (xs ys : List A) → All Is xs → All Is ys → map text xs ≡ map text ys → xs ≡ ys
  same_each [] [] p q e = refl
  same_each [] (y ∷ ys) p q e = absurd cc
  same_each (x ∷ xs) [] p q e = absurd cc
  same_each (x ∷ xs) (y ∷ ys) p q e =
      let parts = headed (text x) (text y) (map text xs) (map text ys) e in
      let first = S.same x y (All-head Is x xs p) (All-head Is y ys q) parts.0 in
      let later = same_each xs ys (All-tail Is x xs p) (All-tail Is y ys q) parts.1 in
      λ i. first i ∷ later i

  plain_each : (at : ℕ) → at < 33 → (xs : List A) → All Is xs → AllByRecursion (Without at) (map text xs)
  plain_each at h [] p = tt
  plain_each at h (x ∷ xs) p = (S.plain at h x (All-head Is x xs p), plain_each at h xs (All-tail Is x xs p))

  test_each : (ws : List (List ℕ)) → Tested ((xs : List A) × All Is xs × (ws ≡ map text xs))
  test_each [] = inl ([], All-nil Is, refl)
  test_each (w ∷ ws) = elim (S.tested w) [
    | inl (x, p, e) ↦ elim (test_each ws) [
      | inl (xs, q, f) ↦ inl (x ∷ xs, All-cons Is x xs p q, (λ i. e i ∷ f i))
      | inr none ↦ inr (λ (ys, q, g). others none ys q g)
    ]
    | inr none ↦ inr (λ (ys, q, g). first none ys q g)
  ] where
    others : (((xs : List A) × All Is xs × (ws ≡ map text xs)) → ⊥) → (ys : List A) → All Is ys → w ∷ ws ≡ map text ys → ⊥
    others none [] q g = absurd cc
    others none (y ∷ ys) q g = none (ys, All-tail Is y ys q, (headed w (text y) ws (map text ys) g).1)

    first : (((x : A) × Is x × (w ≡ text x)) → ⊥) → (ys : List A) → All Is ys → w ∷ ws ≡ map text ys → ⊥
    first none [] q g = absurd cc
    first none (y ∷ ys) q g = none (y, All-head Is y ys q, (headed w (text y) ws (map text ys) g).0)
