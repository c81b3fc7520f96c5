use Rattle.std.proofs.Common.{◌<◌, length, subst, sym}
use Rattle.lrat_replay.proofs.MarksLaws.{marked_less}
use Rattle.lrat_replay.proofs.marks.Marks.remove.Goals as goal

pub returns-clause-removed : goal.returns-clause-removed
returns-clause-removed c =
    λ i. λ l. marked_less c.args.self.now.stamps.items c.args.self.now.present c.code.result c.args.lit l c.code.ensures
    (subst (λ n. n < length c.args.self.now.stamps.items) (sym c.code.ensures) c.requires) c.args.self.now.begun i
