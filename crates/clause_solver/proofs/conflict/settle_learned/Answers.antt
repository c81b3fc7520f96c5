use Rattle.std.proofs.Common.{arith}
use Rattle.std.proofs.lemmas.Option.{slice_get_within}
use Rattle.clause_solver.specs.Watch.{width_of}
use Rattle.clause_solver.proofs.TrailPlaces.{number_below}
use Rattle.clause_solver.proofs.Learning.{first_some, learned_first, learned_variable, learned_open, learned_second, learned_two_variable, learned_passed, learned_watched, learned_advanced, learned_many}
use Rattle.clause_solver.proofs.conflict.settle_learned.Goals as goal

pub bounds-clause-0 : goal.bounds-clause-0
bounds-clause-0 c = first_some c.args.clause.now c.requires.learning.first c.requires.learning.first_at

pub push-requires-clause-variable : goal.push-requires-clause-variable
push-requires-clause-variable c = learned_variable c.args.work.now c.args.clause.now c.requires.learning c.index-clause-0.result (learned_first c.args.work.now c.args.clause.now c.requires.learning c.index-clause-0.result c.index-clause-0.is)

pub push-requires-clause-fresh : goal.push-requires-clause-fresh
push-requires-clause-fresh c = learned_open c.args.work.now c.args.clause.now c.requires.learning c.index-clause-0.result (learned_first c.args.work.now c.args.clause.now c.requires.learning c.index-clause-0.result c.index-clause-0.is)

pub returns-then-clause-eq1-clause-working : goal.returns-then-clause-eq1-clause-working
returns-then-clause-eq1-clause-working c = learned_passed c.args.work.now c.args.clause.now c.requires.learning c.index-clause-0.result (learned_first c.args.work.now c.args.clause.now c.requires.learning c.index-clause-0.result c.index-clause-0.is) c.len.result c.len.ensures c.push.new.self c.in_ok-push.ensures.ok c.if-clause-eq1.true c.pass_over.new.self c.in_ok-pass_over.ensures

pub returns-then-clause-eq1-clause-advanced : goal.returns-then-clause-eq1-clause-advanced
returns-then-clause-eq1-clause-advanced c = learned_advanced c.args.work.now c.args.clause.now c.requires.learning c.index-clause-0.result (learned_first c.args.work.now c.args.clause.now c.requires.learning c.index-clause-0.result c.index-clause-0.is) c.len.result c.len.ensures c.push.new.self c.in_ok-push.ensures.ok c.pass_over.new.self

pub bounds-clause-1 : goal.bounds-clause-1
bounds-clause-1 c = let s = learned_second c.args.work.now c.args.clause.now c.requires.learning c.if-clause-eq1.false in slice_get_within c.args.clause.now 1 s.two s.at

pub watch-requires-clause-one : goal.watch-requires-clause-one
watch-requires-clause-one c = number_below c.args.work.now.trail.vars (width_of c.args.work.now.watches) c.index-clause-0.result (learned_variable c.args.work.now c.args.clause.now c.requires.learning c.index-clause-0.result (learned_first c.args.work.now c.args.clause.now c.requires.learning c.index-clause-0.result c.index-clause-0.is)) c.requires.learning.wide

pub watch-requires-clause-two : goal.watch-requires-clause-two
watch-requires-clause-two c =
    let s = learned_second c.args.work.now c.args.clause.now c.requires.learning c.if-clause-eq1.false in
    number_below c.args.work.now.trail.vars (width_of c.args.work.now.watches) c.index-clause-1.result (learned_two_variable c.args.work.now c.args.clause.now c.requires.learning c.index-clause-1.result c.index-clause-1.is (slice_get_within c.args.clause.now 1 s.two s.at)) c.requires.learning.wide

pub watch-requires-clause-few : goal.watch-requires-clause-few
watch-requires-clause-few c = let many = learned_many c.args.work.now c.args.clause.now c.requires.learning in omega (arith, c.requires.few)

pub returns-clause-working : goal.returns-clause-working
returns-clause-working c = learned_watched c.args.work.now c.args.clause.now c.requires.learning c.index-clause-0.result (learned_first c.args.work.now c.args.clause.now c.requires.learning c.index-clause-0.result c.index-clause-0.is) c.len.result c.len.ensures c.push.new.self c.in_ok-push.ensures.ok c.if-clause-eq1.false c.index-clause-1.result c.index-clause-1.is c.is_short-is_whole.result c.is_short-is_whole.ensures c.watch.new.self c.in_ok-watch.ensures

pub returns-clause-advanced : goal.returns-clause-advanced
returns-clause-advanced c = learned_advanced c.args.work.now c.args.clause.now c.requires.learning c.index-clause-0.result (learned_first c.args.work.now c.args.clause.now c.requires.learning c.index-clause-0.result c.index-clause-0.is) c.len.result c.len.ensures c.push.new.self c.in_ok-push.ensures.ok c.watch.new.self
