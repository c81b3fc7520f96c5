use Rattle.four_lattice.proofs.run.end_of_job.Goals as goal

pub returns-in-Pairs-clause-finishes : goal.returns-in-Pairs-clause-finishes
returns-in-Pairs-clause-finishes g c = rw c.in-Pairs.is (c.end_of_lattices-ending.ensures.finishes (record { told = g.K.Sink.got c.args.journal; faults = g.K.Sink.faults c.args.journal }))

pub returns-in-Dual-clause-finishes : goal.returns-in-Dual-clause-finishes
returns-in-Dual-clause-finishes g c = rw c.in-Dual.is (c.end_of_lattices-ending-in-Dual.ensures.finishes (record { told = g.K.Sink.got c.args.journal; faults = g.K.Sink.faults c.args.journal }))

pub returns-in-Cnf-clause-finishes : goal.returns-in-Cnf-clause-finishes
returns-in-Cnf-clause-finishes g c = rw c.in-Cnf.is (c.end_of_cnf-ending.ensures.finishes (record { told = g.K.Sink.got c.args.journal; faults = g.K.Sink.faults c.args.journal }))

pub returns-in-Verify-clause-finishes : goal.returns-in-Verify-clause-finishes
returns-in-Verify-clause-finishes g c = rw c.in-Verify.is (c.end_of_verify-ending.ensures.finishes (record { told = g.K.Sink.got c.args.journal; faults = g.K.Sink.faults c.args.journal }))

pub returns-in-Check-clause-finishes : goal.returns-in-Check-clause-finishes
returns-in-Check-clause-finishes g c = rw c.in-Check.is (c.end_of_check-ending.ensures.finishes (record { told = g.K.Sink.got c.args.journal; faults = g.K.Sink.faults c.args.journal }))

pub returns-in-Audit-clause-finishes : goal.returns-in-Audit-clause-finishes
returns-in-Audit-clause-finishes g c = rw c.in-Audit.is (c.end_of_audit-ending.ensures.finishes (record { told = g.K.Sink.got c.args.journal; faults = g.K.Sink.faults c.args.journal }))

pub returns-in-Renew-clause-finishes : goal.returns-in-Renew-clause-finishes
returns-in-Renew-clause-finishes g c = rw c.in-Renew.is (c.end_of_renew-ending.ensures.finishes (record { told = g.K.Sink.got c.args.journal; faults = g.K.Sink.faults c.args.journal }))

pub returns-in-Synth-clause-finishes : goal.returns-in-Synth-clause-finishes
returns-in-Synth-clause-finishes g c = rw c.in-Synth.is c.end_of_synth.ensures.finishes

pub returns-in-Synth-clause-finders_used : goal.returns-in-Synth-clause-finders_used
returns-in-Synth-clause-finders_used g c = rw c.in-Synth.is (λ done uses. c.end_of_synth.ensures.used done)

pub returns-in-Map-clause-finishes : goal.returns-in-Map-clause-finishes
returns-in-Map-clause-finishes g c = rw c.in-Map.is c.end_of_map.ensures.finishes

pub returns-in-Trial-clause-finishes : goal.returns-in-Trial-clause-finishes
returns-in-Trial-clause-finishes g c =
    rw c.in-Trial.is (c.end_of_trial.ensures.finishes (record { told = g.S.Source.left c.args.pla.now; faults = g.S.Source.faults c.args.pla.now }) (record { told = g.S.Source.left c.args.side.now; faults = g.S.Source.faults c.args.side.now }))

pub returns-in-Trial-clause-finders_used : goal.returns-in-Trial-clause-finders_used
returns-in-Trial-clause-finders_used g c = rw c.in-Trial.is (λ done uses. c.end_of_trial.ensures.used done)
