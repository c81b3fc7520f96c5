use Rattle.reach_encoding.proofs.Excluded.{excluded_below}
use Rattle.reach_encoding.proofs.ModelLaws.{solution_of}
use Rattle.reach_encoding.proofs.ReadLaws.{realised_from_solution}
use Rattle.reach_encoding.proofs.laws.solved.Goals as goal

pub returns-clause-lattices : goal.returns-clause-lattices
returns-clause-lattices c = λ q asked. (realised_from_solution q asked, solution_of q asked)

pub returns-clause-excluded : goal.returns-clause-excluded
returns-clause-excluded c = excluded_below
