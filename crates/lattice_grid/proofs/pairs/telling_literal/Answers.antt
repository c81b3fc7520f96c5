use Rattle.std.proofs.Common.{◌≡◌, ◌≢◌, ℕ, ◌<◌, sym, ◌∙◌, subst, lit≤, w16}
use Rattle.std.specs.Int.{trailing_zeros}
use Rattle.std.specs.Int.RustNames.{bit_xor}
use Rattle.lattice_grid.proofs.Differences.{least_difference-trailing_zeros, telling_plain, telling_bar, IsLeastDifference}
use Rattle.lattice_grid.proofs.pairs.telling_literal.Goals as goal

-- the two numbers as the code reads them
at_numbers : (on off : ℕ) → on < 1024 → off < 1024 → on ≢ off → IsLeastDifference on off (trailing_zeros w16 (bit_xor on off)) 10
at_numbers on off p q apart = least_difference-trailing_zeros on off 10 (lit≤ tt) p q p q apart

read : (on off x y : ℕ) → x ≡ on → y ≡ off → x < 1024 → y < 1024 → on ≢ off → IsLeastDifference on off (trailing_zeros w16 (bit_xor x y)) 10
read on off x y p q bx by apart = rw (p, q) (at_numbers on off (subst (λ n. n < 1024) p bx) (subst (λ n. n < 1024) q by) apart)

pub bit-requires : goal.bit-requires
bit-requires c = (read _ _ _ _ c.number.ensures.same c.number-2.ensures.same c.number.ensures.below c.number-2.ensures.below c.requires).within

pub returns-then-bit-clause-same : goal.returns-then-bit-clause-same
returns-then-bit-clause-same c =
    let found = read _ _ _ _ c.number.ensures.same c.number-2.ensures.same c.number.ensures.below c.number-2.ensures.below c.requires in
    sym (telling_plain _ _ _ found.least (sym c.bit.ensures ∙ c.if-bit.true))

pub returns-else-bit-clause-same : goal.returns-else-bit-clause-same
returns-else-bit-clause-same c =
    let found = read _ _ _ _ c.number.ensures.same c.number-2.ensures.same c.number.ensures.below c.number-2.ensures.below c.requires in
    sym (telling_bar _ _ _ found.least (sym c.bit.ensures ∙ c.if-bit.false))

pub returns-then-bit-clause-input : goal.returns-then-bit-clause-input
returns-then-bit-clause-input c = (read _ _ _ _ c.number.ensures.same c.number-2.ensures.same c.number.ensures.below c.number-2.ensures.below c.requires).within

pub returns-else-bit-clause-input : goal.returns-else-bit-clause-input
returns-else-bit-clause-input c = (read _ _ _ _ c.number.ensures.same c.number-2.ensures.same c.number.ensures.below c.number-2.ensures.below c.requires).within
