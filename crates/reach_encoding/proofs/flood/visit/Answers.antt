use Rattle.std.proofs.Common.{rules, ℕ, ◌+◌, ◌*◌, [], ◌∷◌, slice_set, sym, ap, subst, true}
use Rattle.reach_encoding.specs.ModelOf.{Spreads}
use Rattle.reach_encoding.proofs.ModelOfFlood.{spreads_entered}
use Rattle.reach_encoding.proofs.flood.visit.Goals as goal

pub returns-in_ok-push : goal.returns-in_ok-push
returns-in_ok-push c =
    let i : ℕ = c.args.p.row * c.cols.result + c.args.p.col in
    let index = ap (λ n. c.args.p.row * n + c.args.p.col) c.cols.ensures.same in
    record {
      spreads = subst (λ w. Spreads c.args.shape c.args.free.now (c.args.p ∷ []) c.args.marks.now.items c.args.waiting.now.items (slice_set c.args.marks.now.items i true) w)
          (sym c.in_ok-push.ensures.items)
          (spreads_entered c.args.shape c.args.free.now c.args.p i c.args.marks.now.items c.args.waiting.now.items (c.requires.row, c.requires.col) c.requires.marks index
          (search rules) (search rules));
    }
