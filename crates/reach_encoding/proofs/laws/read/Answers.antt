use Rattle.reach_encoding.proofs.DecodeLaws.{chooses_from_satisfied}
use Rattle.reach_encoding.proofs.ReadLaws.{read_as_lattice}
use Rattle.reach_encoding.proofs.laws.read.Goals as goal

pub returns-clause-lattice : goal.returns-clause-lattice
returns-clause-lattice c = read_as_lattice

pub returns-clause-chooses : goal.returns-clause-chooses
returns-clause-chooses c = chooses_from_satisfied
