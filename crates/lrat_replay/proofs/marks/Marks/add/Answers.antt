use Rattle.std.proofs.Common.{◌<◌, length, subst, sym}
use Rattle.lrat_replay.proofs.MarksLaws.{marked_more}
use Rattle.lrat_replay.proofs.marks.Marks.add.Goals as goal

pub returns-clause-added : goal.returns-clause-added
returns-clause-added c =
    λ i. λ l. marked_more c.args.self.now.stamps.items c.args.self.now.present c.code.result c.args.lit l c.code.ensures
    (subst (λ n. n < length c.args.self.now.stamps.items) (sym c.code.ensures) c.requires) i
