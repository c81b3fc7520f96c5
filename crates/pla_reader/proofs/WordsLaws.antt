-- The words of a line without a bad byte are names.
use Rattle.std.proofs.Common.{◌≡◌, ℕ, ◌≤◌, ◌<◌, Bool, true, false, cond, ◌&&◌, ◌||◌, List, [], ◌∷◌, length, refl, sym, ap, ◌∙◌, arith, true≢false}
use Rattle.std.specs.Prelude.{◌==◌, filter, nat_le}
use Rattle.std.specs.List.{AllByRecursion, slice_split, onto_first}
use Rattle.std.specs.Str.{bytes_eq}
use Rattle.std.specs.Prelude.{codes}
use Rattle.std.proofs.lemmas.Bool.{cond_both}
use Rattle.std.proofs.lemmas.Bool.Decides.{eqb_tells, leb_tells, Decides-ltb}
use Rattle.std.proofs.lemmas.List.Elements.{All-from_recursion}
use Rattle.std.proofs.Common.{inl, inr, ◌⊎◌}
use Rattle.pla_reader.specs.Name.{IsName, IsNameByte}
use Rattle.pla_reader.specs.Lines.{Line, visible, is_gap, is_printed, is_clean, is_some_word, words_of, digits_of}
use Rattle.pla_reader.specs.Says.{said_by, said_by_words, said_by_word, is_foreign, number_of, kind_of}
use Rattle.pla_reader.specs.Says.Said.{Spoiled, Silent, Unknown, Foreign, GivesInputs, GivesOutputs, GivesKind, NamesInputs, NamesOutputs, GivesRow, Ends}
use Rattle.pla_reader.specs.Views.{NamesIn}

both_true : (a b : Bool) → (a && b) ≡ true → (a ≡ true) × (b ≡ true)
both_true true b h = (refl, h)
both_true false b h = absurd (true≢false (sym h))

or_true : (x : Bool) → (x || true) ≡ true
or_true true = refl
or_true false = refl

-- a byte that is printed and no gap
name_byte : (b : ℕ) → is_printed b ≡ true → is_gap b ≡ false → IsNameByte b
name_byte b printed solid = go (eqb_tells b 9) (eqb_tells b 32) (leb_tells 32 b) (leb_tells b 126) printed solid where
  go : (((b == 9) ≡ true) × (b ≡ 9)) ⊎ (((b == 9) ≡ false) × (b ≡ 9 → ⊥)) → (((b == 32) ≡ true) × (b ≡ 32)) ⊎ (((b == 32) ≡ false) × (b ≡ 32 → ⊥))
      → ((nat_le 32 b ≡ true) × (32 ≤ b)) ⊎ ((nat_le 32 b ≡ false) × (b < 32)) → ((nat_le b 126 ≡ true) × (b ≤ 126)) ⊎ ((nat_le b 126 ≡ false) × (126 < b))
      → ((b == 9) || (nat_le 32 b && nat_le b 126)) ≡ true → ((b == 32) || (b == 9)) ≡ false → IsNameByte b
  go (inl tab) s l h printed solid = absurd (true≢false (sym (ap (λ x. (b == 32) || x) tab.0 ∙ or_true (b == 32)) ∙ solid))
  go (inr tab) (inl blank) l h printed solid = absurd (true≢false (ap (λ x. x || (b == 9)) (sym blank.0) ∙ solid))
  go (inr tab) (inr blank) (inr low) h printed solid = absurd (true≢false (sym (ap (λ x. x || (nat_le 32 b && nat_le b 126)) (sym tab.0) ∙ printed) ∙ ap (λ x. x && nat_le b 126) low.0))
  go (inr tab) (inr blank) (inl low) (inr high) printed solid =
      absurd (true≢false (sym (ap (λ x. x || (nat_le 32 b && nat_le b 126)) (sym tab.0) ∙ printed) ∙ ap (λ x. nat_le 32 b && x) high.0 ∙ ap (λ x. x && false) low.0))
  go (inr tab) (inr blank) (inl low) (inl high) printed solid = let ne : b ≡ 32 → ⊥ = blank.1 in let at_least : 32 ≤ b = low.1 in (omega arith, high.1)

onto : (b : ℕ) → IsNameByte b → (parts : List (List ℕ)) → AllByRecursion (AllByRecursion IsNameByte) parts → AllByRecursion (AllByRecursion IsNameByte) (onto_first b parts)
onto b is [] h = ((is, tt), tt)
onto b is (part ∷ parts) h = ((is, h.0), h.1)

step : (b : ℕ) → is_printed b ≡ true → (parts : List (List ℕ)) → AllByRecursion (AllByRecursion IsNameByte) parts → AllByRecursion (AllByRecursion IsNameByte) (cond (is_gap b) ([] ∷ parts) (onto_first b parts))
step b printed parts h = cond_both (is_gap b) ([] ∷ parts) (onto_first b parts) (AllByRecursion (AllByRecursion IsNameByte)) (λ _. (tt, h)) (λ solid. onto b (name_byte b printed solid) parts h)

solid_parts : (text : List ℕ) → is_clean text ≡ true → AllByRecursion (AllByRecursion IsNameByte) (slice_split is_gap text)
solid_parts [] clean = (tt, tt)
solid_parts (b ∷ text) clean = step b (both_true (is_printed b) (is_clean text) clean).0 (slice_split is_gap text) (solid_parts text (both_true (is_printed b) (is_clean text) clean).1)

words_are_names : (parts : List (List ℕ)) → AllByRecursion (AllByRecursion IsNameByte) parts → AllByRecursion IsName (filter is_some_word parts)
words_are_names [] h = tt
words_are_names (part ∷ parts) h =
    cond_both (is_some_word part) (part ∷ filter is_some_word parts) (filter is_some_word parts) (AllByRecursion IsName)
    (λ some. (record { some = (Decides-ltb 0 (length part)).0 some; each = All-from_recursion IsNameByte part h.0 }, words_are_names parts h.1)) (λ _. words_are_names parts h.1)

names_of_clean : (text : List ℕ) → is_clean text ≡ true → AllByRecursion IsName (words_of text)
unfolding words_of
names_of_clean text clean = words_are_names (slice_split is_gap text) (solid_parts text clean)

names_by_word : (word : List ℕ) (others : List (List ℕ)) → AllByRecursion IsName others → NamesIn (said_by_word word others)
unfolding said_by_word
names_by_word word others h =
    cond_both (bytes_eq word (codes ".i")) (GivesInputs (number_of others)) _ NamesIn (λ _. tt) (λ _.
    cond_both (bytes_eq word (codes ".o")) (GivesOutputs (number_of others)) _ NamesIn (λ _. tt) (λ _.
    cond_both (bytes_eq word (codes ".type")) (GivesKind (kind_of others)) _ NamesIn (λ _. tt) (λ _.
    cond_both (bytes_eq word (codes ".ilb")) (NamesInputs others) _ NamesIn (λ _. h) (λ _.
    cond_both (bytes_eq word (codes ".ob")) (NamesOutputs others) _ NamesIn (λ _. h) (λ _.
    cond_both (bytes_eq word (codes ".p")) Silent _ NamesIn (λ _. tt) (λ _.
    cond_both (bytes_eq word (codes ".e")) Ends _ NamesIn (λ _. tt) (λ _.
    cond_both (bytes_eq word (codes ".end")) Ends _ NamesIn (λ _. tt) (λ _.
    cond_both (is_foreign word) Foreign Unknown NamesIn (λ _. tt) (λ _. tt)))))))))

names_by_words : (text : List ℕ) (words : List (List ℕ)) → AllByRecursion IsName words → NamesIn (said_by_words text words)
names_by_words text [] h = tt
names_by_words text (word ∷ others) h = cond_both _ (said_by_word word others) (GivesRow (digits_of text)) NamesIn (λ _. names_by_word word others h.1) (λ _. tt)

-- what a line gives as names are names
pub names_said : (line : Line) → NamesIn (said_by line)
names_said line = cond_both (is_clean (visible line)) (said_by_words (visible line) (words_of (visible line))) Spoiled NamesIn (λ clean. names_by_words (visible line) (words_of (visible line)) (names_of_clean (visible line) clean)) (λ _. tt)
