-- Lists that grow by one turn of a loop.
use Rattle.std.proofs.Common.{◌≡◌, ℕ, ◌+◌, ◌*◌, ◌%◌, ◌^◌, ◌≤◌, ◌<◌, arith, List, [], ◌∷◌, ◌++◌, length, get_or, take, cond, refl, sym, ap, ◌∙◌, add-one}
use Rattle.std.specs.List.{flat_map, range_with_len}
use Rattle.std.specs.FinSet as set
use Rattle.std.proofs.Math.Pow.{pow_mono}
use Rattle.std.proofs.lemmas.List.{take_more}
use Rattle.std.proofs.lemmas.List.Concat.{flat_map-append}
use Rattle.std.proofs.lemmas.List.{append-nil, map-id}
use Rattle.std.proofs.lemmas.List.FromFn.{map-range_with_len_more}
use Rattle.cube_core.specs.Members.{Assignments}
use Rattle.cube_core.specs.Rising.{rising}

pub flat_map-take_more : {X A : Type 0} (f : X → List A) (xs : List X) (i : ℕ) (x : X) → i < length xs → x ≡ get_or xs i x → flat_map f (take (i + 1) xs) ≡ flat_map f (take i xs) ++ f x
flat_map-take_more f xs i x below is =
    ap (flat_map f) (take_more xs i x below) ∙ flat_map-append f (take i xs) (get_or xs i x ∷ [])
    ∙ ap (λ ys. flat_map f (take i xs) ++ ys) (append-nil (f (get_or xs i x)) ∙ ap f (sym is))

pub rising-more : (n : ℕ) (s : Assignments) → rising (n + 1) s ≡ cond (set.contains s n) (rising n s ++ n ∷ []) (rising n s)
rising-more n s = rw add-one refl

-- one turn of a loop that adds the piece of each element
pub flat_map-grown : {X A : Type 0} (f : X → List A) (xs : List X) (i : ℕ) (x : X) (old new : List A) → i < length xs → x ≡ get_or xs i x → old ≡ flat_map f (take i xs) → new ≡ old ++ f x → new ≡ flat_map f (take (i + 1) xs)
flat_map-grown f xs i x old new below is before now = now ∙ ap (λ ys. ys ++ f x) before ∙ sym (flat_map-take_more f xs i x below is)

-- `1 << n` for at most ten inputs
pub shl_few : (n : ℕ) → n ≤ 10 → 1 * 2 ^ n % 65536 ≤ 1024
shl_few n few = let small : 2 ^ n ≤ 2 ^ 10 = pow_mono few in omega arith

-- ---- lists over the numbers below n
pub range_more : (n : ℕ) → range_with_len 0 (n + 1) ≡ range_with_len 0 n ++ n ∷ []
range_more n = sym (map-id (range_with_len 0 (n + 1))) ∙ map-range_with_len_more (λ x. x) 0 n n (omega arith) ∙ ap (λ xs. xs ++ n ∷ []) (map-id (range_with_len 0 n))

pub flat_map_range_more : {X : Type 0} (f : ℕ → List X) (n : ℕ) → flat_map f (range_with_len 0 (n + 1)) ≡ flat_map f (range_with_len 0 n) ++ f n
flat_map_range_more f n = ap (flat_map f) (range_more n) ∙ flat_map-append f (range_with_len 0 n) (n ∷ []) ∙ ap (λ ys. flat_map f (range_with_len 0 n) ++ ys) (append-nil (f n))
