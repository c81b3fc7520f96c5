use Rattle.std.proofs.Common.{ap, length, arith}
use Rattle.clause_core.proofs.PiecesLaws.{length-pieces}
use Rattle.clause_core.proofs.clauses.Clauses.clause.Goals as goal

pub piece-requires-clause-inside : goal.piece-requires-clause-inside
piece-requires-clause-inside c =
    let e = length-pieces c.self.inside.lits.items 0 c.self.inside.ends.items in
    let v = ap length c.self.view_is in
    let d = ap length c.deref-2.ensures.value in
    omega arith
