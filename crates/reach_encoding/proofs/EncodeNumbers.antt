-- The numbers of variables, cells and assignments are small.
use Rattle.std.proofs.Common.{◌≡◌, ℕ, ◌+◌, ◌*◌, ◌≤◌, ◌<◌, Bool, not, arith}
use Rattle.clause_core.specs.Literal.{Literal}
use Rattle.std.proofs.lemmas.Nat.{mul-add-lt, mul-le}
use Rattle.std.specs.FinSet as set
use Rattle.lattice_grid.proofs.Tools.{length-controls_of, length-rising_few}
use Rattle.reach_encoding.specs.Encoding.{Question, cells_of, many_controls, many_asked, choice, value, mark}
use Rattle.reach_encoding.specs.EncodeParts.{vars_of, IsAsked, IsOneOf}

-- a number in each of the three blocks, of P rows of K places, M rows of P places, and M more
in_first : (P K M p c : ℕ) → p < P → c < K → p * K + c + 1 ≤ P * (K + 2 * M)
in_first P K M p c h k = let low = mul-add-lt p K c P h k in omega arith

in_second : (P K M p t : ℕ) → p < P → t < M → P * K + t * P + p + 1 ≤ P * K + M * P
in_second P K M p t h k = let low = mul-add-lt t P p M k h in omega arith

few_products : (P K M : ℕ) → P ≤ 32768 → K ≤ 22 → M ≤ 1024 → P * (K + 2 * M) ≤ 67829760
few_products P K M p k m = mul-le P (K + 2 * M) 32768 2070 p (omega arith)

pub record HasFew (q : Question) : Type 0 where
  pub controls : many_controls q ≤ 22
  pub assignments : many_asked q ≤ 1024
  pub vars : vars_of q ≤ 67829760

pub few_of : (q : Question) → IsAsked q → HasFew q
few_of q h =
    let few = h.function.few in
    let most = length-controls_of q.function.inputs q.rails in
    let controls : many_controls q ≤ 22 = omega arith in
    let assignments : many_asked q ≤ 1024 = length-rising_few q.function (set.union q.function.on q.function.off) h.function in
    record { controls = controls; assignments = assignments; vars = few_products (cells_of q) (many_controls q) (many_asked q) h.few controls assignments }

pub choice_within : (q : Question) (p c : ℕ) → p < cells_of q → c < many_controls q → choice q p c ≤ vars_of q
choice_within q p c h k = in_first (cells_of q) (many_controls q) (many_asked q) p c h k

pub value_within : (q : Question) (p t : ℕ) → p < cells_of q → t < many_asked q → value q p t ≤ vars_of q
value_within q p t h k = let low = in_second (cells_of q) (many_controls q) (many_asked q) p t h k in omega arith

pub mark_within : (q : Question) (p t : ℕ) → p < cells_of q → t < many_asked q → mark q p t ≤ vars_of q
mark_within q p t h k = let low = in_second (cells_of q) (many_controls q) (many_asked q) p t h k in omega arith

-- the same of numbers as the code has them
pub choice_low : (q : Question) → IsAsked q → (p c controls : ℕ) → controls ≡ many_controls q → p < cells_of q → c < many_controls q → p * controls + c + 1 ≤ 67829760
choice_low q asked p c controls e h k = let few = (few_of q asked).vars in let low = choice_within q p c h k in rw e (omega arith)

pub value_low : (q : Question) → IsAsked q → (p t cells controls : ℕ) → cells ≡ cells_of q → controls ≡ many_controls q → p < cells_of q → t < many_asked q → cells * controls + t * cells + p + 1 ≤ 67829760
value_low q asked p t cells controls d e h k = let few = (few_of q asked).vars in let low = value_within q p t h k in rw (d, e) (omega arith)

pub mark_low : (q : Question) → IsAsked q → (p t cells controls many : ℕ) → cells ≡ cells_of q → controls ≡ many_controls q → many ≡ many_asked q → p < cells_of q → t < many_asked q → cells * controls + many * cells + t * cells + p + 1 ≤ 67829760
mark_low q asked p t cells controls many d e f h k = let few = (few_of q asked).vars in let low = mark_within q p t h k in rw (d, e, f) (omega arith)

pub vars_low : (q : Question) → IsAsked q → (cells controls many : ℕ) → cells ≡ cells_of q → controls ≡ many_controls q → many ≡ many_asked q → cells * (controls + 2 * many) ≤ 67829760
vars_low q asked cells controls many d e f = rw (d, e, f) ((few_of q asked).vars)

pub choice_over : (q : Question) (p c : ℕ) (on : Bool) (l : Literal) → l ≡ record { var = choice q p c; negated = not on } → p < cells_of q → c < many_controls q → IsOneOf (vars_of q) l
choice_over q p c on l e h k = rw e (record { counted = omega arith; within = choice_within q p c h k })

pub value_over : (q : Question) (p t : ℕ) (on : Bool) (l : Literal) → l ≡ record { var = value q p t; negated = not on } → p < cells_of q → t < many_asked q → IsOneOf (vars_of q) l
value_over q p t on l e h k = rw e (record { counted = omega arith; within = value_within q p t h k })

pub mark_over : (q : Question) (p t : ℕ) (on : Bool) (l : Literal) → l ≡ record { var = mark q p t; negated = not on } → p < cells_of q → t < many_asked q → IsOneOf (vars_of q) l
mark_over q p t on l e h k = rw e (record { counted = omega arith; within = mark_within q p t h k })
