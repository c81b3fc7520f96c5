use Rattle.std.proofs.Common.{◌∙◌, below_more, subst, arith}
use Rattle.lattice_grid.proofs.Tools.{shl_few}
use Rattle.std.specs.Option.{option_copied}
use Rattle.path_meaning.specs.Failing.{MeetsIn}
use Rattle.path_meaning.proofs.realise.realises_in.Goals as goal
use Rattle.path_meaning.proofs.realise.realises_in.Goals.{in-Some+else-not-meets, in_default}

pub loop-number-preserved : goal.loop-number-preserved
loop-number-preserved c = elim c.match-new.branch [
  | in-Some+else-not-meets w ↦ record {
    met = below_more (MeetsIn c.args.grid.now (option_copied c.args.array) c.args.spec.now) c.loop-number.number c.loop-number.invariant.met
        (subst (MeetsIn c.args.grid.now (option_copied c.args.array) c.args.spec.now) w.in-Some.ensures.1 w.if-not-meets.ensures.cases);
    cells = w.marks-is ∙ w.meets.ensures.cells ∙ c.loop-number.invariant.cells;
  }
  | in_default w ↦ absurd (w.in_default.ensures (omega (arith, shl_few c.inputs.result (omega (arith, c.inputs.ensures.same, c.inputs.ensures.kept.few)))))
]
