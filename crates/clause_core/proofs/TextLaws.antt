-- Lines and words, one cut off after the other.
use Rattle.std.proofs.Common.{◌≡◌, ℕ, zero, suc, ◌+◌, ◌<◌, ◌≤◌, Bool, true, false, not, cond, List, [], ◌∷◌, length, get_or, take, drop, refl, sym, ap, ◌∙◌, arith, inl, inr, add-one, drop-cons}
use Rattle.std.specs.List.{slice_split, onto_first, filter}
use Rattle.std.proofs.lemmas.Bool.{both_ways, cond-true, not-false, cases_lt}
use Rattle.std.proofs.lemmas.List.{take_all, drop_all}
use Rattle.std.proofs.lemmas.List.Splits.{slice_split-cons_yes, slice_split-cons_no}
use Rattle.clause_core.specs.Text.{words_of, is_blank, is_some_bytes, IsFront}

-- the front of what follows the first element
front_rest : (test : ℕ → Bool) (x : ℕ) (xs : List ℕ) (n : ℕ) → IsFront test (x ∷ xs) (suc n) → IsFront test xs n
front_rest test x xs n h = record {
  within = (let a = h.within in omega arith);
  before = λ k l. h.before (suc k) (omega arith);
  found = λ l. h.found (omega arith);
}

pub split-found : (test : ℕ → Bool) (text : List ℕ) (n : ℕ) → IsFront test text n → n < length text → slice_split test text ≡ take n text ∷ slice_split test (drop (n + 1) text)
split-found test [] n h l = absurd (omega arith)
split-found test (x ∷ xs) zero h l = slice_split-cons_yes test x xs (h.found l) ∙ (let e : drop (0 + 1) (x ∷ xs) ≡ xs = ap (λ k. drop k (x ∷ xs)) (add-one 0) in ap (λ r. [] ∷ slice_split test r) (sym e))
split-found test (x ∷ xs) (suc n) h l =
    slice_split-cons_no test x xs (h.before 0 (omega arith)) ∙ ap (onto_first x) (split-found test xs n (front_rest test x xs n h) (omega arith))
    ∙ (let e : suc n + 1 ≡ suc (n + 1) = omega arith in ap (λ k. (x ∷ take n xs) ∷ slice_split test (drop k (x ∷ xs))) (sym e))

pub split-all : (test : ℕ → Bool) (text : List ℕ) (n : ℕ) → IsFront test text n → length text ≤ n → slice_split test text ≡ text ∷ []
split-all test [] n h l = refl
split-all test (x ∷ xs) zero h l = absurd (omega arith)
split-all test (x ∷ xs) (suc n) h l = slice_split-cons_no test x xs (h.before 0 (omega arith)) ∙ ap (onto_first x) (split-all test xs n (front_rest test x xs n h) (omega arith))

-- separators at the front
words-gap : (b : ℕ) (bytes : List ℕ) → is_blank b ≡ true → words_of (b ∷ bytes) ≡ words_of bytes
words-gap b bytes e = ap (filter is_some_bytes) (slice_split-cons_yes is_blank b bytes e)

pub words-skip : (text : List ℕ) (n : ℕ) → IsFront (λ b. not (is_blank b)) text n → words_of (drop n text) ≡ words_of text
words-skip [] zero h = refl
words-skip [] (suc n) h = absurd (let a = h.within in omega arith)
words-skip (x ∷ xs) zero h = refl
words-skip (x ∷ xs) (suc n) h = words-skip xs n (front_rest (λ b. not (is_blank b)) x xs n h) ∙ sym (words-gap x xs (not-false (is_blank x) (h.before 0 (omega arith))))

-- a word at the front
some_front : (text : List ℕ) (n : ℕ) → 0 < n → 0 < length text → is_some_bytes (take n text) ≡ true
some_front [] n h k = absurd (omega arith)
some_front (x ∷ xs) zero h k = absurd (omega arith)
some_front (x ∷ xs) (suc n) h k = refl

pub words-cut : (text : List ℕ) (n : ℕ) → IsFront is_blank text n → 0 < n → words_of text ≡ take n text ∷ words_of (drop n text)
words-cut text n h some = elim (cases_lt n (length text)) [
  | inl below ↦
      let later = words_of (drop (n + 1) text) in
      ap (filter is_some_bytes) (split-found is_blank text n h below)
      ∙ cond-true (is_some_bytes (take n text)) (take n text ∷ later) later (some_front text n some (omega arith))
      ∙ ap (λ r. take n text ∷ r) (sym (ap words_of (drop-cons text n 0 below) ∙ words-gap (get_or text n 0) (drop (suc n) text) (h.found below) ∙ ap (λ k. words_of (drop k text)) (sym (add-one n))))
  | inr past ↦
      let long : 0 < length text = (let a = h.within in omega arith) in
      ap (filter is_some_bytes) (split-all is_blank text n h past)
      ∙ ap (λ w. cond (is_some_bytes w) (text ∷ []) []) (sym (take_all n text past))
      ∙ cond-true (is_some_bytes (take n text)) (text ∷ []) [] (some_front text n some long)
      ∙ (λ i. sym (take_all n text past) i ∷ words_of (sym (drop_all n text past) i))
]

-- where the first element does not pass
pub front_some : (test : ℕ → Bool) (text : List ℕ) (n : ℕ) → IsFront test text n → 0 < length text → test (get_or text 0 0) ≡ false → 0 < n
front_some test text zero h long e = absurd (both_ways (test (get_or text 0 0)) e (h.found long))
front_some test text (suc n) h long e = omega arith
