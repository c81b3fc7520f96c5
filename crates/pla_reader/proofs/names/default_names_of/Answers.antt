use Rattle.std.proofs.Common.{refl, arith}
use Rattle.pla_reader.proofs.NamesLaws.{names_grown}
use Rattle.pla_reader.proofs.names.default_names_of.Goals as goal

pub loop-number-preserved : goal.loop-number-preserved
loop-number-preserved c = names_grown _ c.in_ok-default_name.field-0 c.loop-number.names.keys _ c.args.letter c.loop-number.number (omega arith) (λ q. refl) c.loop-number.invariant c.in_ok-default_name.ensures c.in_ok-insert.ensures.keys
