use Rattle.four_lattice.proofs.CheckLaws.{side_refuted, side_stopped}
use Rattle.four_lattice.proofs.check.refute_side.Goals as goal

pub returns-clause-refuted : goal.returns-clause-refuted
returns-clause-refuted g c =
    side_refuted c.args.formula _ _ c.in-Ok.bytes.items c.deref.result.now c.refute.result c.deref.ensures.value c.in-Ok.ensures.all c.in-Ok.ensures.spent c.in-Ok.ensures.few c.refute.ensures.refuted

pub returns-clause-ends : goal.returns-clause-ends
returns-clause-ends g c =
    side_stopped c.args.formula _ c.in-Ok.bytes.items c.deref.result.now c.refute.result c.deref.ensures.value c.in-Ok.ensures.all c.in-Ok.ensures.spent c.in-Ok.ensures.few c.refute.ensures.ends
