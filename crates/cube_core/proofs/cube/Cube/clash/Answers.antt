use Rattle.std.proofs.Common.{refl}
use Rattle.std.proofs.lemmas.Bool.{true≢false}
use Rattle.cube_core.specs.Cube.{Product}
use Rattle.cube_core.proofs.LiteralLaws.{no_clash-from_mask, mask-from_no_clash, no_clash-Meet, Meet-no_clash, IsLeastClash-mask}
use Rattle.cube_core.proofs.cube.Cube.clash.Goals as goal

pub returns-then-opposite-eq0-clause-none : goal.returns-then-opposite-eq0-clause-none
returns-then-opposite-eq0-clause-none c =
    let one : Product = record { care = c.self.inside.care; value = c.self.inside.value } in
    let two : Product = record { care = c.other.inside.care; value = c.other.inside.value } in
    rw (← c.self.view_is, ← c.other.view_is) (λ _. no_clash-from_mask one two c.if-opposite-eq0.true, λ _. refl)

pub returns-then-opposite-eq0-clause-meets : goal.returns-then-opposite-eq0-clause-meets
returns-then-opposite-eq0-clause-meets c =
    let one : Product = record { care = c.self.inside.care; value = c.self.inside.value } in
    let two : Product = record { care = c.other.inside.care; value = c.other.inside.value } in
    rw (← c.self.view_is, ← c.other.view_is)
    (λ _. no_clash-Meet one two c.self.invariant c.other.invariant (no_clash-from_mask one two c.if-opposite-eq0.true), λ _. refl)

pub returns-else-opposite-eq0-clause-none : goal.returns-else-opposite-eq0-clause-none
returns-else-opposite-eq0-clause-none c =
    let one : Product = record { care = c.self.inside.care; value = c.self.inside.value } in
    let two : Product = record { care = c.other.inside.care; value = c.other.inside.value } in
    rw (← c.self.view_is, ← c.other.view_is) (λ e. absurd (true≢false e), λ none. absurd (c.if-opposite-eq0.false (mask-from_no_clash one two none)))

pub returns-else-opposite-eq0-clause-meets : goal.returns-else-opposite-eq0-clause-meets
returns-else-opposite-eq0-clause-meets c =
    let one : Product = record { care = c.self.inside.care; value = c.self.inside.value } in
    let two : Product = record { care = c.other.inside.care; value = c.other.inside.value } in
    rw (← c.self.view_is, ← c.other.view_is) (
      λ e. absurd (true≢false e),
      λ meet. absurd (c.if-opposite-eq0.false (mask-from_no_clash one two (Meet-no_clash one two c.self.invariant c.other.invariant meet))),
    )

pub returns-else-opposite-eq0-clause-some : goal.returns-else-opposite-eq0-clause-some
returns-else-opposite-eq0-clause-some c =
    let one : Product = record { care = c.self.inside.care; value = c.self.inside.value } in
    let two : Product = record { care = c.other.inside.care; value = c.other.inside.value } in
    rw (← c.self.view_is, ← c.other.view_is) (IsLeastClash-mask one two c.self.invariant c.other.invariant c.if-opposite-eq0.false).1
