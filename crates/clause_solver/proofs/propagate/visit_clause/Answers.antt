use Rattle.std.proofs.Common.{◌≡◌, ◌⊎◌, ◌+◌, true, refl, sym, ap, ◌∙◌, subst, Some}
use Rattle.clause_core.specs.Literal.{Literal, flip, has}
use Rattle.clause_solver.specs.Trail.{known_by, oldest, IsVariableOf}
use Rattle.clause_solver.specs.Watch.{width_of, pair_at}
use Rattle.clause_solver.specs.Watching.{IsWatched}
use Rattle.clause_solver.proofs.Propagation.{over_has}
use Rattle.clause_solver.proofs.TrailPlaces.{number_below}
use Rattle.clause_solver.proofs.Visits.{pair_of, same_clause_at, other_is, other_variable, visiting_same, working_noted, visiting_noted, not_lost, other_inside, working_turned, visiting_turned, visit_unit, visit_conflict, visiting_forced, working_forced, advanced_forced}
use Rattle.clause_solver.proofs.propagate.visit_clause.Goals as goal

pub returns-in_default-clause-visiting : goal.returns-in_default-clause-visiting
returns-in_default-clause-visiting c = visiting_same c.args.work.now c.args.lost c.args.index c.args.place c.requires.visiting c.requires.at
    (λ clause pair found e. absurd (c.in_default.not-Some pair (c.pair.ensures ∙ e)))

pub has-requires : goal.has-requires
has-requires c =
    let work = c.args.work.now in
    let v = c.requires.visiting in
    let was : pair_at work.watches c.args.place ≡ Some c.in-Some.pair = sym c.pair.ensures ∙ c.in-Some.is in
    let q = pair_of work v.working c.args.place c.in-Some.pair was in
    let o = other_is c.in-Some.pair c.args.lost c.other_of-other.result q.watched.apart c.other_of-other.ensures in
    other_variable work c.args.lost c.args.index c.args.place v c.requires.at c.in-Some.pair q was c.other_of-other.result o

pub returns-then-has-clause-working : goal.returns-then-has-clause-working
returns-then-has-clause-working c =
    let work = c.args.work.now in
    let v = c.requires.visiting in
    let was : pair_at work.watches c.args.place ≡ Some c.in-Some.pair = sym c.pair.ensures ∙ c.in-Some.is in
    let q = pair_of work v.working c.args.place c.in-Some.pair was in
    let o = other_is c.in-Some.pair c.args.lost c.other_of-other.result q.watched.apart c.other_of-other.ensures in
    let inside = other_inside work c.args.lost c.args.index c.args.place v c.requires.at c.in-Some.pair q was c.other_of-other.result o in
    working_noted work c.args.lost c.args.index c.args.place v c.requires.at c.in-Some.pair q was c.other_of-other.result o (record { place = c.args.place; blocker = c.other_of-other.result }) refl inside c.note.new.self c.note.ensures

pub returns-then-has-clause-visiting : goal.returns-then-has-clause-visiting
returns-then-has-clause-visiting c =
    let work = c.args.work.now in
    let v = c.requires.visiting in
    let was : pair_at work.watches c.args.place ≡ Some c.in-Some.pair = sym c.pair.ensures ∙ c.in-Some.is in
    let q = pair_of work v.working c.args.place c.in-Some.pair was in
    let o = other_is c.in-Some.pair c.args.lost c.other_of-other.result q.watched.apart c.other_of-other.ensures in
    let inside = other_inside work c.args.lost c.args.index c.args.place v c.requires.at c.in-Some.pair q was c.other_of-other.result o in
    visiting_noted work c.args.lost c.args.index c.args.place v c.requires.at c.in-Some.pair q was c.other_of-other.result o (record { place = c.args.place; blocker = c.other_of-other.result }) refl inside c.note.new.self c.note.ensures (sym c.has.ensures ∙ c.if-has.true)

pub another-requires-clause-inside : goal.another-requires-clause-inside
another-requires-clause-inside c =
    let work = c.args.work.now in
    let v = c.requires.visiting in
    let was : pair_at work.watches c.args.place ≡ Some c.in-Some.pair = sym c.pair.ensures ∙ c.in-Some.is in
    let q = pair_of work v.working c.args.place c.in-Some.pair was in
    q.inside

pub another-requires-clause-over : goal.another-requires-clause-over
another-requires-clause-over c = c.requires.visiting.working.over

pub another-requires-clause-watched : goal.another-requires-clause-watched
another-requires-clause-watched c =
    let work = c.args.work.now in
    let v = c.requires.visiting in
    let was : pair_at work.watches c.args.place ≡ Some c.in-Some.pair = sym c.pair.ensures ∙ c.in-Some.is in
    let q = pair_of work v.working c.args.place c.in-Some.pair was in
    λ clause found. subst (λ w. IsWatched w c.in-Some.pair (known_by (oldest work.looked work.trail.values)) (known_by work.trail.values)) (same_clause_at work c.args.place c.in-Some.pair q clause found) q.watched

pub another-requires-clause-stays : goal.another-requires-clause-stays
another-requires-clause-stays c =
    let work = c.args.work.now in
    let v = c.requires.visiting in
    let was : pair_at work.watches c.args.place ≡ Some c.in-Some.pair = sym c.pair.ensures ∙ c.in-Some.is in
    let q = pair_of work v.working c.args.place c.in-Some.pair was in
    let o = other_is c.in-Some.pair c.args.lost c.other_of-other.result q.watched.apart c.other_of-other.ensures in
    o.stays

pub has-requires-in-Some-another : goal.has-requires-in-Some-another
has-requires-in-Some-another c =
    let work = c.args.work.now in
    let v = c.requires.visiting in
    let was : pair_at work.watches c.args.place ≡ Some c.in-Some.pair = sym c.pair.ensures ∙ c.in-Some.is in
    let q = pair_of work v.working c.args.place c.in-Some.pair was in
    let o = other_is c.in-Some.pair c.args.lost c.other_of-other.result q.watched.apart c.other_of-other.ensures in
    let one = c.in-Some-another.one in
    let one_in : has q.clause one ≡ true = (c.in-Some-another.ensures.some q.clause q.found).0 in
    over_has work.trail.vars q.clause one q.over one_in

pub returns-then-has-2-clause-working : goal.returns-then-has-2-clause-working
returns-then-has-2-clause-working c =
    let work = c.args.work.now in
    let v = c.requires.visiting in
    let was : pair_at work.watches c.args.place ≡ Some c.in-Some.pair = sym c.pair.ensures ∙ c.in-Some.is in
    let q = pair_of work v.working c.args.place c.in-Some.pair was in
    let o = other_is c.in-Some.pair c.args.lost c.other_of-other.result q.watched.apart c.other_of-other.ensures in
    let one = c.in-Some-another.one in
    let one_in : has q.clause one ≡ true = (c.in-Some-another.ensures.some q.clause q.found).0 in
    working_noted work c.args.lost c.args.index c.args.place v c.requires.at c.in-Some.pair q was c.other_of-other.result o (record { place = c.args.place; blocker = one }) refl one_in c.note-then-has-2.new.self c.note-then-has-2.ensures

pub returns-then-has-2-clause-visiting : goal.returns-then-has-2-clause-visiting
returns-then-has-2-clause-visiting c =
    let work = c.args.work.now in
    let v = c.requires.visiting in
    let was : pair_at work.watches c.args.place ≡ Some c.in-Some.pair = sym c.pair.ensures ∙ c.in-Some.is in
    let q = pair_of work v.working c.args.place c.in-Some.pair was in
    let o = other_is c.in-Some.pair c.args.lost c.other_of-other.result q.watched.apart c.other_of-other.ensures in
    let one = c.in-Some-another.one in
    let one_in : has q.clause one ≡ true = (c.in-Some-another.ensures.some q.clause q.found).0 in
    visiting_noted work c.args.lost c.args.index c.args.place v c.requires.at c.in-Some.pair q was c.other_of-other.result o (record { place = c.args.place; blocker = one }) refl one_in c.note-then-has-2.new.self c.note-then-has-2.ensures
    (sym c.has-in-Some-another.ensures ∙ c.if-has-2.true)

pub turn-requires-clause-one : goal.turn-requires-clause-one
turn-requires-clause-one c =
    let work = c.args.work.now in
    let v = c.requires.visiting in
    let was : pair_at work.watches c.args.place ≡ Some c.in-Some.pair = sym c.pair.ensures ∙ c.in-Some.is in
    let q = pair_of work v.working c.args.place c.in-Some.pair was in
    let o = other_is c.in-Some.pair c.args.lost c.other_of-other.result q.watched.apart c.other_of-other.ensures in
    let one = c.in-Some-another.one in
    let facts = c.in-Some-another.ensures.some q.clause q.found in
    let one_in : has q.clause one ≡ true = facts.0 in
    number_below work.trail.vars (width_of work.watches) one (over_has work.trail.vars q.clause one q.over one_in) v.working.wide

pub turn-requires-clause-settled : goal.turn-requires-clause-settled
turn-requires-clause-settled c =
    let work = c.args.work.now in
    let v = c.requires.visiting in
    let was : pair_at work.watches c.args.place ≡ Some c.in-Some.pair = sym c.pair.ensures ∙ c.in-Some.is in
    let q = pair_of work v.working c.args.place c.in-Some.pair was in
    let o = other_is c.in-Some.pair c.args.lost c.other_of-other.result q.watched.apart c.other_of-other.ensures in
    q.low

pub turn-requires-clause-apart : goal.turn-requires-clause-apart
turn-requires-clause-apart c =
    let work = c.args.work.now in
    let v = c.requires.visiting in
    let was : pair_at work.watches c.args.place ≡ Some c.in-Some.pair = sym c.pair.ensures ∙ c.in-Some.is in
    let q = pair_of work v.working c.args.place c.in-Some.pair was in
    let o = other_is c.in-Some.pair c.args.lost c.other_of-other.result q.watched.apart c.other_of-other.ensures in
    let one = c.in-Some-another.one in
    let facts = c.in-Some-another.ensures.some q.clause q.found in
    let one_in : has q.clause one ≡ true = facts.0 in
    not_lost work c.args.lost c.args.index c.args.place v c.requires.at c.in-Some.pair q was c.other_of-other.result o one one_in facts.1 facts.2

pub returns-in-Some-another-clause-working : goal.returns-in-Some-another-clause-working
returns-in-Some-another-clause-working c =
    let work = c.args.work.now in
    let v = c.requires.visiting in
    let was : pair_at work.watches c.args.place ≡ Some c.in-Some.pair = sym c.pair.ensures ∙ c.in-Some.is in
    let q = pair_of work v.working c.args.place c.in-Some.pair was in
    let o = other_is c.in-Some.pair c.args.lost c.other_of-other.result q.watched.apart c.other_of-other.ensures in
    let one = c.in-Some-another.one in
    let facts = c.in-Some-another.ensures.some q.clause q.found in
    let one_in : has q.clause one ≡ true = facts.0 in
    working_turned work c.args.lost c.args.index c.args.place v c.requires.at c.in-Some.pair q was c.other_of-other.result o one one_in facts.1 facts.2 c.turn.new.self c.in_ok-turn.ensures

pub returns-in-Some-another-clause-visiting : goal.returns-in-Some-another-clause-visiting
returns-in-Some-another-clause-visiting c =
    let work = c.args.work.now in
    let v = c.requires.visiting in
    let was : pair_at work.watches c.args.place ≡ Some c.in-Some.pair = sym c.pair.ensures ∙ c.in-Some.is in
    let q = pair_of work v.working c.args.place c.in-Some.pair was in
    let o = other_is c.in-Some.pair c.args.lost c.other_of-other.result q.watched.apart c.other_of-other.ensures in
    let one = c.in-Some-another.one in
    let facts = c.in-Some-another.ensures.some q.clause q.found in
    let one_in : has q.clause one ≡ true = facts.0 in
    visiting_turned work c.args.lost c.args.index c.args.place v c.requires.at c.in-Some.pair q was c.other_of-other.result o one one_in facts.1 facts.2 c.turn.new.self c.in_ok-turn.ensures

pub has-requires-2 : goal.has-requires-2
has-requires-2 c =
    let work = c.args.work.now in
    let v = c.requires.visiting in
    let was : pair_at work.watches c.args.place ≡ Some c.in-Some.pair = sym c.pair.ensures ∙ c.in-Some.is in
    let q = pair_of work v.working c.args.place c.in-Some.pair was in
    let o = other_is c.in-Some.pair c.args.lost c.other_of-other.result q.watched.apart c.other_of-other.ensures in
    let n = other_variable work c.args.lost c.args.index c.args.place v c.requires.at c.in-Some.pair q was c.other_of-other.result o in
    subst (IsVariableOf work.trail.vars) (sym c.flip.ensures) (record { counted = n.counted; within = n.within })

pub returns-then-has-3-clause-conflict : goal.returns-then-has-3-clause-conflict
returns-then-has-3-clause-conflict c =
    let work = c.args.work.now in
    let v = c.requires.visiting in
    let was : pair_at work.watches c.args.place ≡ Some c.in-Some.pair = sym c.pair.ensures ∙ c.in-Some.is in
    let q = pair_of work v.working c.args.place c.in-Some.pair was in
    let o = other_is c.in-Some.pair c.args.lost c.other_of-other.result q.watched.apart c.other_of-other.ensures in
    let others : (l : Literal) → has q.clause l ≡ true → (c.other_of-other.result ≡ l) ⊎ (known_by work.trail.values (flip l) ≡ true) = c.in_default-another.ensures.none q.clause q.found in
    visit_conflict work c.args.lost c.args.index c.args.place v c.requires.at c.in-Some.pair q was c.other_of-other.result o others (ap (known_by work.trail.values) (sym c.flip.ensures) ∙ sym c.has-2.ensures ∙ c.if-has-3.true)

pub push-requires-clause-variable : goal.push-requires-clause-variable
push-requires-clause-variable c =
    let work = c.args.work.now in
    let v = c.requires.visiting in
    let was : pair_at work.watches c.args.place ≡ Some c.in-Some.pair = sym c.pair.ensures ∙ c.in-Some.is in
    let q = pair_of work v.working c.args.place c.in-Some.pair was in
    let o = other_is c.in-Some.pair c.args.lost c.other_of-other.result q.watched.apart c.other_of-other.ensures in
    other_variable work c.args.lost c.args.index c.args.place v c.requires.at c.in-Some.pair q was c.other_of-other.result o

pub returns-clause-working : goal.returns-clause-working
returns-clause-working c =
    let work = c.args.work.now in
    let v = c.requires.visiting in
    let was : pair_at work.watches c.args.place ≡ Some c.in-Some.pair = sym c.pair.ensures ∙ c.in-Some.is in
    let q = pair_of work v.working c.args.place c.in-Some.pair was in
    let o = other_is c.in-Some.pair c.args.lost c.other_of-other.result q.watched.apart c.other_of-other.ensures in
    let others : (l : Literal) → has q.clause l ≡ true → (c.other_of-other.result ≡ l) ⊎ (known_by work.trail.values (flip l) ≡ true) = c.in_default-another.ensures.none q.clause q.found in
    let unit = visit_unit work c.args.lost c.args.index c.args.place v c.requires.at c.in-Some.pair q was c.other_of-other.result o others (sym c.has.ensures ∙ c.if-has.false) (ap (known_by work.trail.values) (sym c.flip.ensures) ∙ sym c.has-2.ensures ∙ c.if-has-3.false) in
    working_forced work v.working c.other_of-other.result (c.args.place + 1) c.args.place q.clause c.push.new.self c.in_ok-push.ensures.ok unit (other_variable work c.args.lost c.args.index c.args.place v c.requires.at c.in-Some.pair q was c.other_of-other.result o) refl q.found

pub returns-clause-advanced : goal.returns-clause-advanced
returns-clause-advanced c =
    let work = c.args.work.now in
    let v = c.requires.visiting in
    let was : pair_at work.watches c.args.place ≡ Some c.in-Some.pair = sym c.pair.ensures ∙ c.in-Some.is in
    let q = pair_of work v.working c.args.place c.in-Some.pair was in
    let o = other_is c.in-Some.pair c.args.lost c.other_of-other.result q.watched.apart c.other_of-other.ensures in
    let others : (l : Literal) → has q.clause l ≡ true → (c.other_of-other.result ≡ l) ⊎ (known_by work.trail.values (flip l) ≡ true) = c.in_default-another.ensures.none q.clause q.found in
    let unit = visit_unit work c.args.lost c.args.index c.args.place v c.requires.at c.in-Some.pair q was c.other_of-other.result o others (sym c.has.ensures ∙ c.if-has.false) (ap (known_by work.trail.values) (sym c.flip.ensures) ∙ sym c.has-2.ensures ∙ c.if-has-3.false) in
    advanced_forced work v.working c.other_of-other.result (c.args.place + 1) c.args.place q.clause c.push.new.self c.in_ok-push.ensures.ok unit (other_variable work c.args.lost c.args.index c.args.place v c.requires.at c.in-Some.pair q was c.other_of-other.result o)

pub returns-clause-visiting : goal.returns-clause-visiting
returns-clause-visiting c =
    let work = c.args.work.now in
    let v = c.requires.visiting in
    let was : pair_at work.watches c.args.place ≡ Some c.in-Some.pair = sym c.pair.ensures ∙ c.in-Some.is in
    let q = pair_of work v.working c.args.place c.in-Some.pair was in
    let o = other_is c.in-Some.pair c.args.lost c.other_of-other.result q.watched.apart c.other_of-other.ensures in
    let others : (l : Literal) → has q.clause l ≡ true → (c.other_of-other.result ≡ l) ⊎ (known_by work.trail.values (flip l) ≡ true) = c.in_default-another.ensures.none q.clause q.found in
    let unit = visit_unit work c.args.lost c.args.index c.args.place v c.requires.at c.in-Some.pair q was c.other_of-other.result o others (sym c.has.ensures ∙ c.if-has.false) (ap (known_by work.trail.values) (sym c.flip.ensures) ∙ sym c.has-2.ensures ∙ c.if-has-3.false) in
    visiting_forced work c.args.lost c.args.index c.args.place v c.requires.at c.in-Some.pair q was c.other_of-other.result o others unit (c.args.place + 1) refl c.push.new.self c.in_ok-push.ensures.ok
