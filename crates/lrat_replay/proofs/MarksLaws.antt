-- One more mark.
use Rattle.std.proofs.Common.{◌≡◌, ℕ, ◌==◌, ◌<◌, not, ◌||◌, ◌&&◌, List, length, refl, sym, ap, ◌∙◌, inl, inr, get_or, get_or-set_same, get_or-set_other, arith}
use Rattle.std.proofs.Math.ListN.{set}
use Rattle.std.proofs.lemmas.Bool.{cases_eq, eq-eqb, ne_eqb}
use Rattle.clause_core.specs.Literal.{Literal, number, same}

pub marked_more : (stamps : List ℕ) (present place : ℕ) (lit l : Literal) → place ≡ number lit → place < length stamps →
    (get_or (set stamps place present) (number l) 0 == present) ≡ (same lit l || (get_or stamps (number l) 0 == present))
marked_more stamps present place lit l at within = elim (cases_eq (number lit) (number l)) [
  | inl e ↦
      ap (λ n. get_or (set stamps place present) n 0 == present) (sym (at ∙ e)) ∙ ap (λ x. x == present) (get_or-set_same stamps place present 0 within)
      ∙ eq-eqb present present refl ∙ sym (ap (λ b. b || (get_or stamps (number l) 0 == present)) (eq-eqb (number lit) (number l) e))
  | inr ne ↦
      let other : number l ≡ place → ⊥ = λ q. ne (sym at ∙ sym q) in
      ap (λ x. x == present) (get_or-set_other stamps place (number l) present 0 other) ∙ sym (ap (λ b. b || (get_or stamps (number l) 0 == present)) (ne_eqb (number lit) (number l) ne))
]

pub marked_less : (stamps : List ℕ) (present place : ℕ) (lit l : Literal) → place ≡ number lit → place < length stamps → 0 < present →
    (get_or (set stamps place 0) (number l) 0 == present) ≡ (not (same lit l) && (get_or stamps (number l) 0 == present))
marked_less stamps present place lit l at within begun = elim (cases_eq (number lit) (number l)) [
  | inl e ↦
      let never : 0 ≡ present → ⊥ = λ q. omega arith in
      ap (λ n. get_or (set stamps place 0) n 0 == present) (sym (at ∙ e)) ∙ ap (λ x. x == present) (get_or-set_same stamps place 0 0 within)
      ∙ ne_eqb 0 present never ∙ sym (ap (λ b. not b && (get_or stamps (number l) 0 == present)) (eq-eqb (number lit) (number l) e))
  | inr ne ↦
      let other : number l ≡ place → ⊥ = λ q. ne (sym at ∙ sym q) in
      ap (λ x. x == present) (get_or-set_other stamps place (number l) 0 0 other) ∙ sym (ap (λ b. not b && (get_or stamps (number l) 0 == present)) (ne_eqb (number lit) (number l) ne))
]
