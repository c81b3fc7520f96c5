use Rattle.std.proofs.Common.{◌≡◌, ℕ, ◌≤◌, ◌<◌, ◌+◌, ◌*◌, ap, ◌∙◌, sym, subst, reverse, List, [], ◌∷◌, length, arith, get_or, get_or-set_same}
use Rattle.std.proofs.Math.ListN.{set}
use Rattle.std.proofs.lemmas.List.{reverse-append, length-reverse, length-set}
use Rattle.lrat_replay.specs.Status.{with_literal}
use Rattle.clause_solver.specs.Trail.{Track, known_by, AreFresh, IsFresh, IsVariableOf, AreOver}
use Rattle.lrat_replay.specs.Marks.{room}
use Rattle.clause_solver.specs.declared.value.Value.{Value}
use Rattle.clause_solver.specs.Kept.{ArePlaced}
use Rattle.clause_solver.proofs.TrailPlaces.{number_below}
use Rattle.clause_solver.proofs.Placing.{placed_more, room_left}
use Rattle.clause_solver.proofs.trail.Trail.push.Goals as goal

pub add-requires : goal.add-requires
add-requires c = number_below c.self.inside.vars (room c.self.inside.marks) c.args.lit (subst (λ (t : Track). IsVariableOf t.vars c.args.lit) (sym c.self.view_is) c.requires.variable) c.self.invariant.wide

pub invariant_of-self-2 : goal.invariant_of-self-2
invariant_of-self-2 c =
    let v : Value = record { lit = c.args.lit; reason = c.args.reason } in
    let places = c.self.inside.places.items in
    let variable = subst (λ (t : Track). IsVariableOf t.vars c.args.lit) (sym c.self.view_is) c.requires.variable in
    let inside : c.var.result < length places = omega (arith, variable.within, c.self.invariant.spread, c.var.ensures.value) in
    let newest : reverse c.push.new.self.items ≡ v ∷ reverse c.self.inside.values.items = ap reverse c.in_ok-push.ensures.items ∙ reverse-append c.self.inside.values.items (v ∷ []) in
    record {
      few = c.self.invariant.few;
      wide = subst (λ n. 2 * c.self.inside.vars + 2 ≤ n) (sym c.add.ensures.room) c.self.invariant.wide;
      same = c.add.ensures.added ∙ ap (λ k. with_literal k c.args.lit) c.self.invariant.same ∙ ap known_by (sym newest);
      over = subst (AreOver c.self.inside.vars) (sym newest) (subst (λ (t : Track). IsVariableOf t.vars c.args.lit) (sym c.self.view_is) c.requires.variable, c.self.invariant.over);
      fresh = subst AreFresh (sym newest) (subst (λ (t : Track). IsFresh (known_by t.values) c.args.lit) (sym c.self.view_is) c.requires.fresh, c.self.invariant.fresh);
      spread = omega (arith, length-set places c.var.result c.len-place.result, c.self.invariant.spread);
      placed = subst (ArePlaced (set places c.var.result c.len-place.result)) (sym newest) (
        get_or-set places c.args.lit.var c.var.result c.len-place.result c.var.ensures.value inside ∙ c.len-place.ensures ∙ c.self.inside.values.ok.0 ∙ sym (length-reverse c.self.inside.values.items),
        subst (λ n. ArePlaced (set places n c.len-place.result) (reverse c.self.inside.values.items)) (sym c.var.ensures.value)
            (placed_more places c.len-place.result c.args.lit (reverse c.self.inside.values.items) (subst (λ (t : Track). IsFresh (known_by t.values) c.args.lit) (sym c.self.view_is) c.requires.fresh) c.self.invariant.placed),
      );
    } where
      get_or-set : (xs : List ℕ) (at i n : ℕ) → i ≡ at → i < length xs → get_or (set xs i n) at 0 ≡ n
      get_or-set xs at i n e h = ap (λ k. get_or (set xs i n) k 0) (sym e) ∙ get_or-set_same xs i n 0 h

pub overflow_cast-place : goal.overflow_cast-place
overflow_cast-place c =
    let items = c.self.inside.values.items in
    let variable = subst (λ (t : Track). IsVariableOf t.vars c.args.lit) (sym c.self.view_is) c.requires.variable in
    let fresh = subst (λ (t : Track). IsFresh (known_by t.values) c.args.lit) (sym c.self.view_is) c.requires.fresh in
    let few = room_left c.self.inside.vars (reverse items) c.args.lit c.self.invariant.fresh c.self.invariant.over variable fresh.unknown in
    omega (arith, c.len-place.ensures, c.self.inside.values.ok.0, length-reverse items, c.self.invariant.few, few)
