use Rattle.std.proofs.Common.{◌≡◌, ◌≤◌, ◌+◌, ◌*◌, ap, ◌∙◌, sym, subst, reverse, [], ◌∷◌}
use Rattle.std.proofs.lemmas.List.{reverse-append}
use Rattle.lrat_replay.specs.Marks.{room}
use Rattle.lrat_replay.specs.Status.{without_literal}
use Rattle.clause_solver.specs.Trail.{known_by, AreFresh, AreOver}
use Rattle.clause_solver.specs.Kept.{ArePlaced}
use Rattle.clause_solver.proofs.TrailPlaces.{known-pop, number_below}
use Rattle.clause_solver.proofs.trail.Trail.pop.Goals as goal

pub remove-requires : goal.remove-requires
remove-requires c =
    let older = reverse c.pop.new.self.items in
    let newest : reverse c.self.inside.values.items ≡ c.in-Some.value ∷ older = ap reverse c.in-Some.ensures.items ∙ reverse-append c.pop.new.self.items (c.in-Some.value ∷ []) in
    let over = subst (AreOver c.self.inside.vars) newest c.self.invariant.over in
    number_below c.self.inside.vars (room c.self.inside.marks) c.in-Some.value.lit over.0 c.self.invariant.wide

pub invariant_of-self : goal.invariant_of-self
invariant_of-self c =
    let older = reverse c.pop.new.self.items in
    let newest : reverse c.self.inside.values.items ≡ c.in-Some.value ∷ older = ap reverse c.in-Some.ensures.items ∙ reverse-append c.pop.new.self.items (c.in-Some.value ∷ []) in
    let fresh = subst AreFresh newest c.self.invariant.fresh in
    let over = subst (AreOver c.self.inside.vars) newest c.self.invariant.over in
    record {
      few = c.self.invariant.few;
      wide = subst (λ n. 2 * c.self.inside.vars + 2 ≤ n) (sym c.remove.ensures.room) c.self.invariant.wide;
      same = c.remove.ensures.removed ∙ ap (λ k. without_literal k c.in-Some.value.lit) (c.self.invariant.same ∙ ap known_by newest) ∙ known-pop c.in-Some.value older fresh.0.unknown;
      over = over.1;
      fresh = fresh.1;
      spread = c.self.invariant.spread;
      placed = (subst (ArePlaced c.self.inside.places.items) newest c.self.invariant.placed).1;
    }
