-- Values read from words, one after another.
use Rattle.std.proofs.Common.{◌≡◌, ◌≢◌, ℕ, suc, ◌+◌, ◌<◌, ◌≤◌, List, [], ◌∷◌, ◌++◌, length, map, refl, sym, ap, ◌∙◌, subst, arith, append_assoc, length-append}
use Rattle.std.specs.Prelude.{All}
use Rattle.std.proofs.lemmas.List.{append-nil, map_push, length-map}
use Rattle.std.proofs.lemmas.List.Elements.{All-nil, All-push, All-head, All-tail}

-- these were read, and these words are left
pub record HasItems {A : Type 0} (Is : A → Type 0) (text : A → List ℕ) (ws left : List (List ℕ)) (items : List A) : Type 0 where
  pub each : All Is items
  pub read : ws ≡ map text items ++ left

pub items_none : {A : Type 0} (Is : A → Type 0) (text : A → List ℕ) (ws : List (List ℕ)) (items : List A) → items ≡ [] → HasItems Is text ws ws items
items_none Is text ws [] e = record { each = All-nil Is; read = refl }
items_none Is text ws (x ∷ items) e = absurd cc

pub items_push : {A : Type 0} (Is : A → Type 0) (text : A → List ℕ) (ws left after : List (List ℕ)) (word : List ℕ) (items more : List A) (x : A) → HasItems Is text ws left items → left ≡ word ∷ after → Is x → word ≡ text x
    → more ≡ items ++ x ∷ [] → HasItems Is text ws after more
items_push Is text ws left after word items more x h e is is_text grown =
    subst (HasItems Is text ws after) (sym grown) (record {
      each = All-push Is items x h.each is;
      read = h.read ∙ ap (λ z. map text items ++ z) (e ∙ ap (λ w. w ∷ after) is_text) ∙ sym (append_assoc (map text items) (text x ∷ []) after) ∙ ap (λ z. z ++ after) (sym (map_push text items x));
    })

-- a word behind values is that of a value in whatever values the words are
behind : {A : Type 0} (Is : A → Type 0) (text : A → List ℕ) (items xs : List A) (word : List ℕ) (after : List (List ℕ)) → All Is xs → map text items ++ word ∷ after ≡ map text xs → (x : A) × Is x × (word ≡ text x)
behind Is text [] [] word after h e = absurd cc
behind Is text [] (x ∷ xs) word after h e = (x, All-head Is x xs h, cc)
behind Is text (i ∷ items) [] word after h e = absurd cc
behind Is text (i ∷ items) (x ∷ xs) word after h e = let rest : map text items ++ word ∷ after ≡ map text xs = cc in behind Is text items xs word after (All-tail Is x xs h) rest

pub no_items-word : {A : Type 0} (Is : A → Type 0) (text : A → List ℕ) (ws left after : List (List ℕ)) (word : List ℕ) (items : List A) → HasItems Is text ws left items → left ≡ word ∷ after → ((x : A) → Is x → word ≢ text x)
    → (xs : List A) → All Is xs → ws ≢ map text xs
no_items-word Is text ws left after word items h e none xs is f =
    let found = behind Is text items xs word after is (ap (λ z. map text items ++ z) (sym e) ∙ sym h.read ∙ f) in
    none found.0 found.1 found.2

-- how many words there are
pub many_words : {A : Type 0} (Is : A → Type 0) (text : A → List ℕ) (ws left : List (List ℕ)) (items : List A) → HasItems Is text ws left items → length ws ≡ length items + length left
many_words Is text ws left items h = ap length h.read ∙ length-append (map text items) left ∙ ap (λ n. n + length left) (length-map items text)

-- no values of another number
pub no_items-many : {A : Type 0} (Is : A → Type 0) (text : A → List ℕ) (ws left : List (List ℕ)) (items : List A) (many : ℕ) → HasItems Is text ws left items → (length items + length left ≡ many → ⊥) → (xs : List A) → length xs ≡ many → ws ≢ map text xs
no_items-many Is text ws left items many h other xs is f = other (sym (many_words Is text ws left items h) ∙ ap length f ∙ length-map xs text ∙ is)

pub items_all : {A : Type 0} (Is : A → Type 0) (text : A → List ℕ) (ws left : List (List ℕ)) (items : List A) → HasItems Is text ws left items → left ≡ [] → ws ≡ map text items
items_all Is text ws left items h e = h.read ∙ ap (λ z. map text items ++ z) e ∙ append-nil (map text items)
