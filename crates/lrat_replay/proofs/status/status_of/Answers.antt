use Rattle.lrat_replay.specs.Marks.{known_of}
use Rattle.lrat_replay.proofs.StatusLaws.{satisfied_told, unresolved_told, unit_told, conflict_told}
use Rattle.lrat_replay.proofs.status.status_of.Goals as goal

pub returns : goal.returns
returns c =
    let known = known_of c.args.marks.now in
    record {
      value = c.scan.ensures;
      satisfied = satisfied_told known c.args.clause.now c.scan.result c.scan.ensures;
      unresolved = unresolved_told known c.args.clause.now c.scan.result c.scan.ensures;
      unit = unit_told known c.args.clause.now c.scan.result c.scan.ensures;
      conflict = conflict_told known c.args.clause.now c.scan.result c.scan.ensures;
    }
