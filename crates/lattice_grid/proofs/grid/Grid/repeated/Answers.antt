use Rattle.std.proofs.Common.{ℕ}
use Rattle.std.proofs.lemmas.Result.{IfOk-weaker}
use Rattle.lattice_grid.specs.Drawn.{IsDrawn}
use Rattle.lattice_grid.specs.Lattice.{IsOver, control_at}
use Rattle.lattice_grid.specs.Rails.{IsOverRails}
use Rattle.lattice_grid.specs.Repeated.{nearest}
use Rattle.lattice_grid.proofs.RepeatLaws.{names_drawn, stands_drawn}
use Rattle.lattice_grid.proofs.grid.Grid.repeated.Goals as goal

pub returns-clause-over : goal.returns-clause-over
returns-clause-over c =
    let small = c.args.self.now in
    IfOk-weaker c.drawn.result (IsDrawn (λ p. control_at small (nearest small.size p)) c.args.shape) (λ grid. (n : ℕ) → IsOver n small → IsOver n grid)
    (λ grid h n over. names_drawn n small c.args.shape grid h over) c.drawn.ensures

pub returns-clause-rails : goal.returns-clause-rails
returns-clause-rails c =
    let small = c.args.self.now in
    IfOk-weaker c.drawn.result (IsDrawn (λ p. control_at small (nearest small.size p)) c.args.shape) (λ grid. (n rails : ℕ) → IsOverRails n rails small → IsOverRails n rails grid)
    (λ grid h n rails over. stands_drawn n rails small c.args.shape grid h over) c.drawn.ensures
