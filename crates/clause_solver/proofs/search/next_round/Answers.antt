use Rattle.std.proofs.Common.{ap, Ok}
use Rattle.lrat_replay.specs.Marks.{room}
use Rattle.clause_solver.proofs.Searching.{goes_after, quiet_after, conflict_after, working_round}
use Rattle.clause_solver.proofs.search.next_round.Goals as goal

pub returns-in_ok-decide-in-None-clause-so : goal.returns-in_ok-decide-in-None-clause-so
returns-in_ok-decide-in-None-clause-so g c =
    let rests = rw c.in-None.is at c.in_ok-propagate.ensures.rests in
    quiet_after (g.L.Ledger.book c.args.ledger.now) (g.L.Ledger.broken c.args.ledger.now) c.args.work.now c.propagate.new.work c.requires.goes.ready c.in_ok-propagate.ensures.advanced c.in_ok-propagate.ensures.working
    rests c.decide.new.trail c.args.left c.in_ok-decide-in-None.field-0
    (λ e. c.in_ok-decide-in-None.ensures.decided (ap Ok e)) (λ e. c.in_ok-decide-in-None.ensures.satisfied (ap Ok e)) c.in_ok-decide-in-None.ensures.other

pub returns-in_ok-decide-in-None-clause-working : goal.returns-in_ok-decide-in-None-clause-working
returns-in_ok-decide-in-None-clause-working g c =
    let rests = rw c.in-None.is at c.in_ok-propagate.ensures.rests in
    let quiet = rw c.in-None.is at c.in_ok-propagate.ensures.quiet in
    working_round c.propagate.new.work c.in_ok-propagate.ensures.working quiet rests c.decide.new.trail c.in_ok-decide-in-None.field-0 (λ e. c.in_ok-decide-in-None.ensures.decided (ap Ok e)) c.in_ok-decide-in-None.ensures.other

pub end_at_conflict-requires-clause-goes : goal.end_at_conflict-requires-clause-goes
end_at_conflict-requires-clause-goes g c =
    goes_after (g.L.Ledger.book c.args.ledger.now) (g.L.Ledger.broken c.args.ledger.now) c.args.work.now c.propagate.new.work c.requires.goes.ready c.in_ok-propagate.ensures.advanced c.in_ok-propagate.ensures.working

pub returns-in-Some-clause-so : goal.returns-in-Some-clause-so
returns-in-Some-clause-so g c =
    conflict_after (g.L.Ledger.book c.args.ledger.now) (g.L.Ledger.broken c.args.ledger.now) c.args.work.now c.propagate.new.work c.requires.goes.ready c.in_ok-propagate.ensures.advanced c.in_ok-propagate.ensures.working
    (record { book = g.L.Ledger.book c.end_at_conflict.new.ledger; broken = g.L.Ledger.broken c.end_at_conflict.new.ledger; clauses = c.end_at_conflict.new.work.clauses; track = c.end_at_conflict.new.work.trail; width = room c.end_at_conflict.new.work.seen }) c.args.left
    c.end_at_conflict.result c.end_at_conflict.ensures.so
