use Rattle.std.proofs.Common.{◌+◌, refl, sym, ◌∙◌}
use Rattle.clause_solver.specs.Watch.{width_of}
use Rattle.clause_solver.specs.declared.work.Work.{Work}
use Rattle.clause_solver.proofs.TrailPlaces.{number_below}
use Rattle.clause_solver.proofs.Visits.{unit_of, conflict_of, settle_over, settle_variable, working_watched, working_passed, working_forced, satisfied_forced, advanced_forced, advanced_same, advanced_then}
use Rattle.clause_solver.proofs.propagate.settle_next.Goals as goal

pub first_not_false-requires : goal.first_not_false-requires
first_not_false-requires c =
    let work = c.args.work.now in
    let w = c.requires.working in
    let clause = c.clause-clause.result.now in
    let place = c.len-place.result in
    settle_over work w c.requires.some place c.len-place.ensures clause c.clause-clause.ensures

pub returns-in_default-clause-conflict : goal.returns-in_default-clause-conflict
returns-in_default-clause-conflict c =
    let work = c.args.work.now in
    let w = c.requires.working in
    let clause = c.clause-clause.result.now in
    let place = c.len-place.result in
    record { clause = clause; found = c.clause-clause.ensures; conflict = conflict_of work.trail.values w.fresh clause c.in_default.ensures.none }

pub other_not_false-requires : goal.other_not_false-requires
other_not_false-requires c =
    let work = c.args.work.now in
    let w = c.requires.working in
    let clause = c.clause-clause.result.now in
    let place = c.len-place.result in
    settle_over work w c.requires.some place c.len-place.ensures clause c.clause-clause.ensures

pub watch-requires-clause-one : goal.watch-requires-clause-one
watch-requires-clause-one c =
    let work = c.args.work.now in
    let w = c.requires.working in
    let clause = c.clause-clause.result.now in
    let place = c.len-place.result in
    number_below work.trail.vars (width_of work.watches) c.in-Some.one (settle_variable work w c.requires.some place c.len-place.ensures clause c.clause-clause.ensures c.in-Some.one c.in-Some.ensures.some.0) w.wide

pub watch-requires-clause-two : goal.watch-requires-clause-two
watch-requires-clause-two c =
    let work = c.args.work.now in
    let w = c.requires.working in
    let clause = c.clause-clause.result.now in
    let place = c.len-place.result in
    number_below work.trail.vars (width_of work.watches) c.in-Some-other_not_false.two (settle_variable work w c.requires.some place c.len-place.ensures clause c.clause-clause.ensures c.in-Some-other_not_false.two c.in-Some-other_not_false.ensures.some.0) w.wide

pub returns-in-Some-other_not_false-clause-working : goal.returns-in-Some-other_not_false-clause-working
returns-in-Some-other_not_false-clause-working c =
    let work = c.args.work.now in
    let w = c.requires.working in
    let clause = c.clause-clause.result.now in
    let place = c.len-place.result in
    working_watched work w c.requires.some place c.len-place.ensures clause c.clause-clause.ensures c.in-Some.one c.in-Some-other_not_false.two c.is_short-is_whole.result c.is_short-is_whole.ensures c.in-Some.ensures.some.0 c.in-Some-other_not_false.ensures.some.0 c.in-Some-other_not_false.ensures.some.2 c.watch.new.self c.in_ok-watch.ensures

pub has-requires : goal.has-requires
has-requires c =
    let work = c.args.work.now in
    let w = c.requires.working in
    let clause = c.clause-clause.result.now in
    let place = c.len-place.result in
    settle_variable work w c.requires.some place c.len-place.ensures clause c.clause-clause.ensures c.in-Some.one c.in-Some.ensures.some.0

pub push-requires-clause-variable : goal.push-requires-clause-variable
push-requires-clause-variable c =
    let work = c.args.work.now in
    let w = c.requires.working in
    let clause = c.clause-clause.result.now in
    let place = c.len-place.result in
    settle_variable work w c.requires.some place c.len-place.ensures clause c.clause-clause.ensures c.in-Some.one c.in-Some.ensures.some.0

pub returns-then-not-has-clause-working : goal.returns-then-not-has-clause-working
returns-then-not-has-clause-working c =
    let work = c.args.work.now in
    let w = c.requires.working in
    let clause = c.clause-clause.result.now in
    let place = c.len-place.result in
    let one = c.in-Some.one in
    let variable = settle_variable work w c.requires.some place c.len-place.ensures clause c.clause-clause.ensures one c.in-Some.ensures.some.0 in
    let unit = unit_of work.trail.values w.fresh clause one c.in-Some.ensures.some.0 (sym c.has.ensures ∙ c.if-not-has.true) c.in-Some.ensures.some.1 c.in_default-other_not_false.ensures.none in
    let next : Work = record { clauses = work.clauses; trail = c.push.new.self; seen = work.seen; watches = work.watches; looked = work.looked } in
    working_passed next (working_forced work w one (place + 1) place clause c.push.new.self c.in_ok-push.ensures.ok unit variable refl c.clause-clause.ensures) c.requires.some place c.len-place.ensures clause c.clause-clause.ensures (satisfied_forced work w one (place + 1) place clause c.push.new.self c.in_ok-push.ensures.ok unit variable) c.pass_over.new.self c.in_ok-pass_over.ensures

pub returns-then-not-has-clause-advanced : goal.returns-then-not-has-clause-advanced
returns-then-not-has-clause-advanced c =
    let work = c.args.work.now in
    let w = c.requires.working in
    let clause = c.clause-clause.result.now in
    let place = c.len-place.result in
    let one = c.in-Some.one in
    let variable = settle_variable work w c.requires.some place c.len-place.ensures clause c.clause-clause.ensures one c.in-Some.ensures.some.0 in
    let unit = unit_of work.trail.values w.fresh clause one c.in-Some.ensures.some.0 (sym c.has.ensures ∙ c.if-not-has.true) c.in-Some.ensures.some.1 c.in_default-other_not_false.ensures.none in
    let next : Work = record { clauses = work.clauses; trail = c.push.new.self; seen = work.seen; watches = work.watches; looked = work.looked } in
    advanced_then work next _ (advanced_forced work w one (place + 1) place clause c.push.new.self c.in_ok-push.ensures.ok unit variable) (advanced_same next _ refl refl refl)

pub returns-clause-working : goal.returns-clause-working
returns-clause-working c =
    let work = c.args.work.now in
    let w = c.requires.working in
    let clause = c.clause-clause.result.now in
    let place = c.len-place.result in
    working_passed work w c.requires.some place c.len-place.ensures clause c.clause-clause.ensures (record { lit = c.in-Some.one; is_in = c.in-Some.ensures.some.0; is_known = sym c.has.ensures ∙ c.if-not-has.false }) c.pass_over-2.new.self c.in_ok-pass_over-2.ensures
