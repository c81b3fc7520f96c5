use Rattle.std.proofs.Common.{◌∙◌, sym, arith}
use Rattle.clause_solver.specs.Met.{is_met}
use Rattle.clause_solver.proofs.Placing.{met_more, met_there}
use Rattle.clause_solver.proofs.analyse.meet.Goals as goal

pub returns-then-has-clause-marked : goal.returns-then-has-clause-marked
returns-then-has-clause-marked c = met_there (is_met c.args.met.now) c.args.trail.now.values c.args.lit c.place-place.result (c.place-place.ensures c.requires.known) (sym c.has.ensures ∙ c.if-has.true)

pub add-requires : goal.add-requires
add-requires c = let s = c.place-place.ensures c.requires.known in omega (arith, s.within, c.requires.room)

pub returns-clause-kept : goal.returns-clause-kept
returns-clause-kept c = met_more (is_met c.args.met.now) (is_met c.add.new.self) c.add.ensures.kept c.args.trail.now.values

pub returns-clause-marked : goal.returns-clause-marked
returns-clause-marked c = met_there (is_met c.add.new.self) c.args.trail.now.values c.args.lit c.place-place.result (c.place-place.ensures c.requires.known) c.add.ensures.added
