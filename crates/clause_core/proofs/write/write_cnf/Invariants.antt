use Rattle.std.proofs.Common.{◌≡◌, [], drop}
use Rattle.std.specs.List.{flat_map}
use Rattle.wire_io.proofs.Tools.{IsPassed}
use Rattle.clause_core.specs.Cnf.{clause_text, cnf_text}
use Rattle.clause_core.proofs.write.write_cnf.Given as goal

abbrev pub invariant-loop-index : goal.invariant-loop-index
invariant-loop-index g l =
    IsPassed (g.K.Sink.got l.fn.sink) (g.K.Sink.got l.sink) [] l.buffer (flat_map clause_text (drop l.index l.formula.clauses)) (cnf_text l.formula)
    × (g.K.Sink.faults l.sink ≡ g.K.Sink.faults l.fn.sink)
