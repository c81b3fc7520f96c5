use Rattle.std.proofs.Common.{sym, ap, ◌∙◌, Err}
use Rattle.lattice_question.proofs.Closing.{verdict_so}
use Rattle.lattice_question.proofs.Sections.{stopped_wanting, stopped_solver}
use Rattle.lattice_question.proofs.question.solve.Goals.{in-Ledger, in-NoMemory}
use Rattle.lattice_question.proofs.question.solve.Goals as goal

pub returns-in-Err-clause-stopped : goal.returns-in-Err-clause-stopped
returns-in-Err-clause-stopped g c =
    stopped_wanting g.K.Sink.got g.K.Sink.faults c.args.section c.in-Err.stopped.held c.into_sink.result c.out_of_memory.result.held c.out_of_memory.result.fault c.out_of_memory.ensures.fault c.in-Err.ensures.held c.out_of_memory.ensures.held
    c.into_sink.ensures.same c.into_sink.ensures.begun

pub returns-in-Ok-solve-clause-verdict : goal.returns-in-Ok-solve-clause-verdict
returns-in-Ok-solve-clause-verdict g c =
    verdict_so c.in-Ok-solve.verdict c.solve.result c.args.section c.in-Ok.solver.ledger c.solve.new.self.ledger c.into_ledger.result c.args.budget c.in-Ok-solve.is c.in-Ok.ensures.ledger c.into_ledger.ensures
    c.solve.ensures.satisfied c.solve.ensures.refuted c.solve.ensures.no_solution c.solve.ensures.spent c.solve.ensures.open

pub returns-after-fault-clause-stopped : goal.returns-after-fault-clause-stopped
returns-after-fault-clause-stopped g c =
    stopped_solver g.K.Sink.got g.K.Sink.faults c.args.section c.in-Ok.solver.ledger c.solve.new.self.ledger c.into_ledger-in-Err-solve.result c.into_sink-in-Err-solve.result c.match-fault.result c.in-Ok.ensures.ledger c.into_ledger-in-Err-solve.ensures
    c.solve.ensures.origin c.solve.ensures.faults c.into_sink-in-Err-solve.ensures.same c.into_sink-in-Err-solve.ensures.begun
    (λ e. elim c.match-fault.branch [
      | in-Ledger w ↦ c.solve.ensures.ledger (c.in-Err-solve.is ∙ ap Err w.in-Ledger.is)
      | in-NoMemory w ↦ absurd (cc (sym w.result-is ∙ e))
    ])
