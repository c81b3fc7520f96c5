use Rattle.std.proofs.Common.{ap, ◌∙◌, sym, subst, reverse, arith}
use Rattle.clause_solver.specs.Trail.{known_by, AreFresh, AreOver}
use Rattle.clause_solver.specs.Kept.{ArePlaced}
use Rattle.clause_solver.proofs.trail.Trail.new.Goals as goal

pub invariant_of-result : goal.invariant_of-result
invariant_of-result c = record {
  few = c.requires;
  wide = omega (arith, c.in_ok-new.ensures.room);
  same = c.in_ok-new.ensures.empty ∙ ap (λ vs. known_by (reverse vs)) (sym c.new.ensures.items);
  over = subst (λ vs. AreOver c.args.vars (reverse vs)) (sym c.new.ensures.items) tt;
  fresh = subst (λ vs. AreFresh (reverse vs)) (sym c.new.ensures.items) tt;
  spread = omega (arith, c.in_ok-vec.ensures.len);
  placed = subst (λ vs. ArePlaced c.in_ok-vec.field-0.items (reverse vs)) (sym c.new.ensures.items) tt;
}
