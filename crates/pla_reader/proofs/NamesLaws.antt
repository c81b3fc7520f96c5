-- The default names are all different.
use Rattle.std.proofs.Common.{◌≡◌, ℕ, suc, zero, ◌+◌, ◌≤◌, ◌<◌, List, [], ◌∷◌, ◌++◌, map, Bool, true, false, cond, ◌||◌, ◌&&◌, not, true≢false, refl, sym, ap, ◌∙◌, arith, bytes_eq, add-one, subst, length, length-append}
use Rattle.std.specs.Fmt.{decimal}
use Rattle.std.specs.List.{list_any}
use Rattle.std.proofs.lemmas.Fmt.{decimal_injective}
use Rattle.std.proofs.lemmas.List.{map-append}
use Rattle.std.proofs.lemmas.Slice.Eq.{bytes_eq-Decides}
use Rattle.std.proofs.lemmas.Bool.Decides.{same_from_decides, Decides-like}
use Rattle.std.specs.List.{AllByRecursion}
use Rattle.std.proofs.Common.{append_assoc}
use Rattle.pla_reader.specs.Faults.{are_different}
use Rattle.pla_reader.specs.Name.{IsName}
use Rattle.pla_reader.specs.declared.name.Name.{Name}
use Rattle.pla_reader.specs.Names.{bytes_of, default_names}

apart : (letter m i : ℕ) → i < m → m < 256 → bytes_eq (letter ∷ decimal m) (letter ∷ decimal i) ≡ false
apart letter m i below few = go (bytes_eq (letter ∷ decimal m) (letter ∷ decimal i)) refl where
  go : (b : Bool) → bytes_eq (letter ∷ decimal m) (letter ∷ decimal i) ≡ b → b ≡ false
  go false e = refl
  go true e =
      let same = (bytes_eq-Decides (letter ∷ decimal m) (letter ∷ decimal i)).0 e in
      let digits : decimal m ≡ decimal i = cc in
      let equal : m ≡ i = decimal_injective m i (omega arith) (omega arith) digits in
      absurd (omega arith)

any-push : (p : List ℕ → Bool) (xs : List (List ℕ)) (x : List ℕ) → list_any p xs ≡ false → p x ≡ false → list_any p (xs ++ x ∷ []) ≡ false
any-push p [] x e f = ap (λ b. b || false) f
any-push p (y ∷ ys) x e f = elim (p y) as (λ b. (b || list_any p ys) ≡ false → (b || list_any p (ys ++ x ∷ [])) ≡ false) [
  | true ↦ λ h. h
  | false ↦ λ h. any-push p ys x h f
] e

fresh : (letter m n : ℕ) → n ≤ m → m < 256 → list_any (bytes_eq (letter ∷ decimal m)) (default_names letter n) ≡ false
fresh letter m zero le few = refl
fresh letter m (suc n) le few =
    any-push (bytes_eq (letter ∷ decimal m)) (default_names letter n) (letter ∷ decimal n) (fresh letter m n (omega arith) few) (apart letter m n (omega arith) few)

any-map : (E : Name → Bool) (p : List ℕ → Bool) → ((q : Name) → E q ≡ p (bytes_of q)) → (keys : List Name) → list_any E keys ≡ list_any p (map bytes_of keys)
any-map E p same [] = refl
any-map E p same (k ∷ keys) = ap (λ b. b || list_any E keys) (same k) ∙ ap (λ b. p (bytes_of k) || b) (any-map E p same keys)

-- one more default name goes last
pub names_grown : (E : Name → Bool) (k : Name) (keys keys' : List Name) (letter n : ℕ) → n < 256 → ((q : Name) → E q ≡ bytes_eq (bytes_of k) (bytes_of q)) → map bytes_of keys ≡ default_names letter n
    → bytes_of k ≡ letter ∷ decimal n → keys' ≡ cond (list_any E keys) keys (keys ++ k ∷ []) → map bytes_of keys' ≡ default_names letter (n + 1)
names_grown E k keys keys' letter n few same all name e =
    let new : list_any E keys ≡ false =
    any-map E (bytes_eq (bytes_of k)) same keys ∙ ap (list_any (bytes_eq (bytes_of k))) all ∙ ap (λ b. list_any (bytes_eq b) (default_names letter n)) name ∙ fresh letter n n (omega arith) few in
    ap (map bytes_of) (e ∙ ap (λ b. cond b keys (keys ++ k ∷ [])) new) ∙ map-append bytes_of keys (k ∷ [])
    ∙ ap (λ w. w ++ bytes_of k ∷ []) all ∙ ap (λ b. default_names letter n ++ b ∷ []) name ∙ ap (default_names letter) (sym (add-one n))

bytes_eq-sym : (v w : List ℕ) → bytes_eq v w ≡ bytes_eq w v
bytes_eq-sym v w = same_from_decides (bytes_eq v w) (bytes_eq w v) (bytes_eq-Decides v w) (Decides-like (bytes_eq w v) (λ e. sym e) (λ e. sym e) (bytes_eq-Decides w v))

both_true : (a b : Bool) → (a && b) ≡ true → (a ≡ true) × (b ≡ true)
both_true true b h = (refl, h)
both_true false b h = absurd (true≢false (sym h))

both_false : (a b : Bool) → (a || b) ≡ false → (a ≡ false) × (b ≡ false)
both_false true b h = absurd (true≢false h)
both_false false b h = (refl, h)

pub not_true : (b : Bool) → not b ≡ true → b ≡ false
not_true true e = sym e
not_true false e = refl

pub not_false : (b : Bool) → not b ≡ false → b ≡ true
not_false true e = refl
not_false false e = sym e

-- one more name that is new
pub different-push : (ws : List (List ℕ)) (w : List ℕ) → are_different ws ≡ true → list_any (bytes_eq w) ws ≡ false → are_different (ws ++ w ∷ []) ≡ true
different-push [] w h new = refl
different-push (v ∷ vs) w h new =
    let two = both_true (not (list_any (bytes_eq v) vs)) (are_different vs) h in
    let apart = both_false (bytes_eq w v) (list_any (bytes_eq w) vs) new in
    ap (λ b. not b && are_different (vs ++ w ∷ [])) (any-push (bytes_eq v) vs w (not_true _ two.0) (bytes_eq-sym v w ∙ apart.0)) ∙ different-push vs w two.1 apart.1

any-at : (p : List ℕ → Bool) (xs : List (List ℕ)) (x : List ℕ) (ys : List (List ℕ)) → p x ≡ true → list_any p (xs ++ x ∷ ys) ≡ true
any-at p [] x ys h = ap (λ b. b || list_any p ys) h
any-at p (y ∷ xs) x ys h = elim (p y) as (λ b. (b || list_any p (xs ++ x ∷ ys)) ≡ true) [
  | true ↦ refl
  | false ↦ any-at p xs x ys h
]

and_false : (b : Bool) → (b && false) ≡ false
and_false true = refl
and_false false = refl

-- a name that stood before
pub different-not : (ws : List (List ℕ)) (w : List ℕ) (rest : List (List ℕ)) → list_any (bytes_eq w) ws ≡ true → are_different (ws ++ w ∷ rest) ≡ false
different-not [] w rest seen = absurd (true≢false (sym seen))
different-not (v ∷ vs) w rest seen = go (λ h. different-not vs w rest h) (bytes_eq w v) refl where
  go : (list_any (bytes_eq w) vs ≡ true → are_different (vs ++ w ∷ rest) ≡ false) → (b : Bool) → bytes_eq w v ≡ b → are_different (v ∷ (vs ++ w ∷ rest)) ≡ false
  go later true e = ap (λ b. not b && are_different (vs ++ w ∷ rest)) (any-at (bytes_eq v) vs w rest (bytes_eq-sym v w ∙ e))
  go later false e = ap (λ b. not (list_any (bytes_eq v) (vs ++ w ∷ rest)) && b) (later (ap (λ b. b || list_any (bytes_eq w) vs) (sym e) ∙ seen)) ∙ and_false _

-- the names so far, and the words that are left
pub record AreNames (keys : List Name) (rest text : List (List ℕ)) : Type 0 where
  pub words : map bytes_of keys ++ rest ≡ text
  pub different : are_different (map bytes_of keys) ≡ true
  pub each : AllByRecursion IsName rest

pub AreNames-push : (E : Name → Bool) (k : Name) (keys keys' : List Name) (w : List ℕ) (words rest text : List (List ℕ)) → ((q : Name) → E q ≡ bytes_eq (bytes_of k) (bytes_of q)) → AreNames keys words text → words ≡ w ∷ rest → bytes_of k ≡ w
    → list_any E keys ≡ false → keys' ≡ cond (list_any E keys) keys (keys ++ k ∷ []) → AreNames keys' rest text
AreNames-push E k keys keys' w words rest text same h is name new now =
    let grown : map bytes_of keys' ≡ map bytes_of keys ++ w ∷ [] = ap (map bytes_of) (now ∙ ap (λ b. cond b keys (keys ++ k ∷ [])) new) ∙ map-append bytes_of keys (k ∷ []) ∙ ap (λ v. map bytes_of keys ++ v ∷ []) name in
    let fresh_word : list_any (bytes_eq w) (map bytes_of keys) ≡ false = ap (λ v. list_any (bytes_eq v) (map bytes_of keys)) (sym name) ∙ sym (any-map E (bytes_eq (bytes_of k)) same keys) ∙ new in
    record {
      words = ap (λ v. v ++ rest) grown ∙ append_assoc (map bytes_of keys) (w ∷ []) rest ∙ ap (λ v. map bytes_of keys ++ v) (sym is) ∙ h.words;
      different = ap are_different grown ∙ different-push (map bytes_of keys) w h.different fresh_word;
      each = (subst (AllByRecursion IsName) is h.each).1;
    }

pub AreNames-repeated : (E : Name → Bool) (k : Name) (keys : List Name) (w : List ℕ) (words rest text : List (List ℕ)) → ((q : Name) → E q ≡ bytes_eq (bytes_of k) (bytes_of q)) → AreNames keys words text → words ≡ w ∷ rest → bytes_of k ≡ w
    → list_any E keys ≡ true → are_different text ≡ false
AreNames-repeated E k keys w words rest text same h is name seen =
    ap are_different (sym h.words ∙ ap (λ v. map bytes_of keys ++ v) is)
    ∙ different-not (map bytes_of keys) w rest (ap (λ v. list_any (bytes_eq v) (map bytes_of keys)) (sym name) ∙ sym (any-map E (bytes_eq (bytes_of k)) same keys) ∙ seen)

pub length-default_names : (letter n : ℕ) → length (default_names letter n) ≡ n
length-default_names letter zero = refl
length-default_names letter (suc n) =
    let before = length-default_names letter n in
    omega (arith, length-append (default_names letter n) ((letter ∷ decimal n) ∷ []), before)
