use Rattle.std.proofs.Common.{sym, ◌∙◌}
use Rattle.std.specs.Option.{is_none}
use Rattle.lattice_grid.specs.Start.{telling_among}
use Rattle.lattice_grid.proofs.FindLaws.{none_more, some_found}
use Rattle.lattice_grid.proofs.start.lacking.Goals as goal

pub returns-in-Some : goal.returns-in-Some
returns-in-Some c = sym (some_found (λ pair. is_none (telling_among c.args.literals.now pair.0 pair.1)) c.args.ons.now c.args.offs.now c.loop-on.on-index c.on-item.result c.in-Some.off c.loop-on-test.true c.on-item.is c.loop-on.invariant (sym c.lacking_off.ensures ∙ c.in-Some.is))

pub loop-on-preserved : goal.loop-on-preserved
loop-on-preserved c = none_more (λ pair. is_none (telling_among c.args.literals.now pair.0 pair.1)) c.args.ons.now c.args.offs.now c.loop-on.on-index c.on-item.result c.loop-on-test.true c.on-item.is c.loop-on.invariant (sym c.lacking_off.ensures ∙ c.in_default.is)
