-- The tally of answers, one block after another.
use Rattle.std.proofs.Common.{◌≡◌, ◌∙◌, ℕ, ◌+◌, ◌*◌, ◌^◌, ◌≤◌, ◌<◌, Bool, true, false, ◌||◌, cond, List, [], ◌∷◌, ◌++◌, map, refl, sym, ap, arith, subst}
use Rattle.std.specs.Prelude.{count_by, nat_lt}
use Rattle.std.specs.List.{list_any, sum_by}
use Rattle.std.proofs.lemmas.Bool.{lt-ltb}
use Rattle.std.proofs.lemmas.List.{map-append}
use Rattle.std.proofs.lemmas.List.Sums.{sum_by-append, sum_by-cons}
use Rattle.report_text.specs.Report.{BlockParts}
use Rattle.report_text.specs.declared.answer.Answer.{Answer}
use Rattle.four_lattice.specs.Minima.{is_open, joined, IsTallyOf}
use Rattle.four_lattice.specs.Synth.{is_undecided}
use Rattle.four_lattice.specs.Trial.{answers_in, cells_of, is_minimum, tally_of}
use Rattle.four_lattice.specs.declared.tally.Tally.{Tally}

-- before the first answer
abbrev pub no_answers_yet : Tally
no_answers_yet = record { minimum = 0; undecided = 0; area = 0 }

zero-plus : (n : ℕ) → 0 + n ≡ n
zero-plus n = omega arith

-- a count is a sum of ones
ones : {X : Type 0} → (X → Bool) → X → ℕ
ones p x = cond (p x) 1 0

count-append : {X : Type 0} (p : X → Bool) (xs ys : List X) → count_by p (xs ++ ys) ≡ count_by p xs + count_by p ys
unfolding ones
count-append p xs ys = sum_by-append (ones p) xs ys

count-cons : {X : Type 0} (p : X → Bool) (x : X) (xs : List X) → count_by p (x ∷ xs) ≡ ones p x + count_by p xs
unfolding ones
count-cons p x xs = sum_by-cons (ones p) x xs

tally-append : (xs ys : List Answer) → joined (tally_of xs) (tally_of ys) ≡ tally_of (xs ++ ys)
tally-append xs ys = λ i. record {
  minimum = sym (count-append is_minimum xs ys) i;
  undecided = sym (count-append is_undecided xs ys) i;
  area = sym (sum_by-append cells_of xs ys) i;
}

pub tally-more : (blocks : List BlockParts) (block : BlockParts) → joined (tally_of (answers_in blocks)) (tally_of (block.answer ∷ [])) ≡ tally_of (answers_in (blocks ++ block ∷ []))
tally-more blocks block =
    tally-append (answers_in blocks) (block.answer ∷ []) ∙ ap tally_of (sym (map-append (λ (b : BlockParts). b.answer) blocks (block ∷ [])))

-- where an answer is undecided, more than none are
pub open-undecided : (blocks : List BlockParts) → is_open (tally_of (answers_in blocks)) ≡ list_any (λ block. is_undecided block.answer) blocks
unfolding ones
open-undecided [] = refl
open-undecided (block ∷ blocks) = ap (nat_lt 0) (count-cons is_undecided block.answer (answers_in blocks)) ∙ go (is_undecided block.answer) (open-undecided blocks) where
  go : (b : Bool) → nat_lt 0 (count_by is_undecided (answers_in blocks)) ≡ list_any (λ other. is_undecided other.answer) blocks
      → nat_lt 0 (cond b 1 0 + count_by is_undecided (answers_in blocks)) ≡ (b || list_any (λ other. is_undecided other.answer) blocks)
  go true e = lt-ltb 0 (1 + count_by is_undecided (answers_in blocks)) (omega arith)
  go false e = ap (nat_lt 0) (zero-plus (count_by is_undecided (answers_in blocks))) ∙ e

-- before the first answer
pub joined-none : (t : Tally) → t ≡ joined no_answers_yet t
joined-none t = λ i. record { minimum = sym (zero-plus t.minimum) i; undecided = sym (zero-plus t.undecided) i; area = sym (zero-plus t.area) i }

-- a tally of one more
pub tally-few : (n : ℕ) (s t : Tally) → IsTallyOf n s → IsTallyOf 1 t → IsTallyOf (n + 1) (joined s t)
tally-few n s t h k =
    let a = h.minimum in let b = k.minimum in let c = h.undecided in let d = k.undecided in let e = h.area in let f = k.area in
    record { minimum = omega (arith, a, b); undecided = omega (arith, c, d); area = omega (arith, e, f) }

-- tallies of at most sixty-four answers are far from the end of their type
pub tally-fits : (n : ℕ) (s t : Tally) → n ≤ 64 → IsTallyOf n s → IsTallyOf 1 t → (s.minimum + t.minimum < 2 ^ 32) × (s.undecided + t.undecided < 2 ^ 32) × (s.area + t.area < 2 ^ 32)
tally-fits n s t few h k =
    let a = h.minimum in let b = k.minimum in let c = h.undecided in let d = k.undecided in let e = h.area in let f = k.area in
    (omega (arith, few, a, b), omega (arith, few, c, d), omega (arith, few, e, f))
