-- What cannot be untrue, as one of the senses in which a thing is said to be so. Cases that nothing decides may be told apart in it.
use Rattle.std.proofs.Common.{◌⊎◌, inl, inr}

-- it cannot be untrue
abbrev pub Surely : Type 0 → Type 0
Surely P = (P → ⊥) → ⊥

pub surely : {P : Type 0} → P → Surely P
surely p none = none p

pub next : {P Q : Type 0} → Surely P → (P → Surely Q) → Surely Q
next h f none = h (λ p. f p none)

-- in which sense a thing is said to be so
pub record Sense (M : Type 0 → Type 0) : Type 1 where
  pub given : {P : Type 0} → P → M P
  pub then : {P Q : Type 0} → M P → (P → M Q) → M Q

-- it is so
pub plainly : Sense (λ P. P)
plainly = record { given = λ it. it; then = λ it f. f it }

-- it cannot be untrue
pub denied_twice : Sense Surely
denied_twice = record { given = surely; then = next }

pub either : (P : Type 0) → Surely (P ⊎ (P → ⊥))
either P none = none (inr (λ p. none (inl p)))
