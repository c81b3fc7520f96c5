use Rattle.std.proofs.Common.{◌+◌, ◌*◌, ◌≤◌, ◌∙◌, sym, arith}
use Rattle.lrat_replay.specs.Marks.{known_of, room}
use Rattle.lrat_replay.proofs.HintsLaws.{forced_fits}
use Rattle.lrat_replay.proofs.DenyLaws.{fits_over}
use Rattle.lrat_replay.proofs.hints.follow.Goals as goal

pub add-requires : goal.add-requires
add-requires c =
    let wide : 2 * c.args.store.now.formula.vars + 2 ≤ room c.loop-hint.marks = omega (arith, c.requires, c.loop-hint.invariant.same_room) in
    forced_fits (room c.loop-hint.marks) (known_of c.loop-hint.marks) c.in-Some.clause.now c.in-Forces.lit
    (fits_over c.args.store.now.formula.vars (room c.loop-hint.marks) c.in-Some.clause.now c.in-Some.ensures.over wide) (sym c.scan.ensures ∙ c.in-Forces.is)
