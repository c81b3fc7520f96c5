use Rattle.std.proofs.Common.{◌≡◌, ◌↔◌, ◌∙◌, true, false, not, ap, sym, subst}
use Rattle.std.proofs.lemmas.Bool.{not-false, not-true}
use Rattle.lrat_replay.specs.Laws.{IsRefuted, AddsEmpty}
use Rattle.lrat_replay.proofs.ReplayLaws.{refuted, adds_exactly, adds_not}
use Rattle.lrat_replay.proofs.replay.Replay.refutation.Goals as goal

pub invariant_of-result : goal.invariant_of-result
invariant_of-result c = subst IsRefuted (sym c.into_formula.ensures) (refuted c.self.inside.store c.self.invariant.history (sym c.self.invariant.reaches ∙ not-false c.self.inside.reached c.if-not-self.false))

pub returns-then-not-self-clause-ok_exactly : goal.returns-then-not-self-clause-ok_exactly
returns-then-not-self-clause-ok_exactly c =
    let none : c.self.inside.reached ≡ false = not-true c.self.inside.reached c.if-not-self.true in
    subst (λ b. (false ≡ true) ↔ AddsEmpty b) c.self.view_is (adds_exactly c.self.inside.store false c.self.invariant.history (sym none ∙ c.self.invariant.reaches))

pub returns-then-not-self-clause-err_exactly : goal.returns-then-not-self-clause-err_exactly
returns-then-not-self-clause-err_exactly c =
    let none : c.self.inside.reached ≡ false = not-true c.self.inside.reached c.if-not-self.true in
    subst (λ b. (true ≡ true) ↔ (AddsEmpty b → ⊥)) c.self.view_is (adds_not c.self.inside.store c.self.inside.reached true c.self.invariant.history c.self.invariant.reaches (sym (ap not none)))

pub returns-clause-ok_exactly : goal.returns-clause-ok_exactly
returns-clause-ok_exactly c =
    let some : c.self.inside.reached ≡ true = not-false c.self.inside.reached c.if-not-self.false in
    subst (λ b. (true ≡ true) ↔ AddsEmpty b) c.self.view_is (adds_exactly c.self.inside.store true c.self.invariant.history (sym some ∙ c.self.invariant.reaches))

pub returns-clause-err_exactly : goal.returns-clause-err_exactly
returns-clause-err_exactly c =
    let some : c.self.inside.reached ≡ true = not-false c.self.inside.reached c.if-not-self.false in
    subst (λ b. (false ≡ true) ↔ (AddsEmpty b → ⊥)) c.self.view_is (adds_not c.self.inside.store c.self.inside.reached false c.self.invariant.history c.self.invariant.reaches (sym (ap not some)))
