-- The names on the second line.
use Rattle.std.proofs.Common.{◌≡◌, ◌≢◌, ℕ, ◌+◌, ◌≤◌, List, [], ◌∷◌, ◌++◌, length, map, refl, sym, ap, ◌∙◌, subst, arith, length-append, append_assoc, codes}
use Rattle.std.specs.Prelude.{All}
use Rattle.std.proofs.lemmas.List.{append-nil, map_push, length-map}
use Rattle.std.proofs.lemmas.List.Elements.{All-nil, All-push, All-head, All-tail}
use Rattle.pla_reader.specs.Name.{IsName}
use Rattle.pla_reader.specs.Names.{bytes_of}
use Rattle.pla_reader.specs.declared.name.Name.{Name}
use Rattle.report_text.specs.Bounds.{AreNames}
use Rattle.report_text.specs.Pieces.{words}
use Rattle.report_text.proofs.PiecesLaws.{pieces-some}

-- so many names were read, and these words are left
pub record NamesRead (ws left : List (List ℕ)) (names : List Name) (many : ℕ) : Type 0 where
  pub read : ws ≡ codes "inputs" ∷ (map bytes_of names ++ left)
  pub many_are : length names ≡ many
  pub each : All IsName (map bytes_of names)

pub NamesRead-none : (ws left : List (List ℕ)) (names : List Name) → ws ≡ codes "inputs" ∷ left → names ≡ [] → NamesRead ws left names 0
NamesRead-none ws left names e none =
    subst (λ ns. NamesRead ws left ns 0) (sym none) (record { read = e; many_are = refl; each = All-nil IsName })

pub NamesRead-push : (ws left after : List (List ℕ)) (word : List ℕ) (names more : List Name) (name : Name) (many : ℕ) → NamesRead ws left names many → left ≡ word ∷ after → bytes_of name ≡ word → IsName word
    → more ≡ names ++ name ∷ [] → NamesRead ws after more (many + 1)
NamesRead-push ws left after word names more name many h e same is grown =
    subst (λ ns. NamesRead ws after ns (many + 1)) (sym grown) (record {
      read = h.read ∙ ap (λ z. codes "inputs" ∷ (map bytes_of names ++ z)) (e ∙ ap (λ w. w ∷ after) (sym same)) ∙ ap (λ z. codes "inputs" ∷ z) (sym (append_assoc (map bytes_of names) (bytes_of name ∷ []) after))
          ∙ ap (λ z. codes "inputs" ∷ (z ++ after)) (sym (map_push bytes_of names name));
      many_are = (let count = h.many_are in omega (arith, length-append names (name ∷ []), count));
      each = subst (All IsName) (sym (map_push bytes_of names name)) (All-push IsName (map bytes_of names) (bytes_of name) h.each (subst IsName (sym same) is));
    })

-- what the words behind the first are, in whatever names the words are
behind_names : (xs ys : List (List ℕ)) (word : List ℕ) (after : List (List ℕ)) → All IsName ys → xs ++ word ∷ after ≡ ys → IsName word
behind_names [] [] word after h e = absurd cc
behind_names [] (y ∷ ys) word after h e = let same : word ≡ y = cc in subst IsName (sym same) (All-head IsName y ys h)
behind_names (x ∷ xs) [] word after h e = absurd cc
behind_names (x ∷ xs) (y ∷ ys) word after h e = let rest : xs ++ word ∷ after ≡ ys = cc in behind_names xs ys word after (All-tail IsName y ys h) rest

tail_names : (ws : List (List ℕ)) (xs ys : List (List ℕ)) → ws ≡ codes "inputs" ∷ xs → ws ≡ codes "inputs" ∷ ys → xs ≡ ys
tail_names ws xs ys e f = cc

pub no_names-word : (ws left after : List (List ℕ)) (word : List ℕ) (names : List Name) (many : ℕ) → NamesRead ws left names many → left ≡ word ∷ after → (IsName word → ⊥)
    → (others : List (List ℕ)) → AreNames others → ws ≢ codes "inputs" ∷ others
no_names-word ws left after word names many h e none others is f =
    none (behind_names (map bytes_of names) others word after is.each (ap (λ z. map bytes_of names ++ z) (sym e) ∙ tail_names ws _ _ h.read f))

pub no_names-many : (ws : List (List ℕ)) (bytes : List ℕ) (names : List Name) → NamesRead ws (words bytes) names 10 → (others : List (List ℕ)) → AreNames others → ws ≢ codes "inputs" ∷ others
no_names-many ws bytes names h others is f =
    let some = pieces-some 32 bytes in
    let few = is.few in
    let same = ap length (tail_names ws _ _ h.read f) in
    let count = h.many_are in
    omega (arith, some, few, same, count, length-append (map bytes_of names) (words bytes), length-map names bytes_of)

pub no_names-first : (ws : List (List ℕ)) → ((w : List ℕ) (more : List (List ℕ)) → ws ≢ codes "inputs" ∷ w ∷ more) → (others : List (List ℕ)) → AreNames others → ws ≢ codes "inputs" ∷ others
no_names-first ws none [] is f = let some = is.some in omega (arith, some)
no_names-first ws none (name ∷ others) is f = none name others f

pub all_names : (ws : List (List ℕ)) (names : List Name) (many : ℕ) → NamesRead ws [] names many → 1 ≤ many → many ≤ 10 → AreNames (map bytes_of names) × (ws ≡ codes "inputs" ∷ map bytes_of names)
all_names ws names many h some few =
    let count = h.many_are in (
      record { some = omega (arith, count, length-map names bytes_of); few = omega (arith, count, length-map names bytes_of); each = h.each },
      h.read ∙ ap (λ z. codes "inputs" ∷ z) (append-nil (map bytes_of names)),
    )
