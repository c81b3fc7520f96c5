use Rattle.std.proofs.Common.{ℕ}
use Rattle.std.proofs.lemmas.Result.{IfOk-weaker}
use Rattle.lattice_grid.specs.declared.shape.Place.{Place}
use Rattle.lattice_grid.specs.Drawn.{IsDrawn}
use Rattle.lattice_grid.specs.Lattice.{Lattice, IsOver}
use Rattle.lattice_grid.specs.Rails.{IsOverRails}
use Rattle.lattice_compose.specs.Pictures.{passing, control_without_row}
use Rattle.lattice_compose.proofs.WithoutLaws.{read_over, read_rails}
use Rattle.lattice_compose.proofs.without.drop_row.Goals as goal

-- where a cell of the smaller lattice stands in the larger one
abbrev from : ℕ → Place → Place
from row p = record { row = passing row p.row; col = p.col }

pub returns-clause-over : goal.returns-clause-over
returns-clause-over c =
    let a : Lattice = c.args.grid.now in
    let s = c.shape_of-smaller.result in
    IfOk-weaker c.drawn.result (IsDrawn (control_without_row a c.args.row) s) (λ g. (n : ℕ) → IsOver n a → IsOver n g) (λ g h. read_over a (from c.args.row) s g h) c.drawn.ensures

pub returns-clause-rails : goal.returns-clause-rails
returns-clause-rails c =
    let a : Lattice = c.args.grid.now in
    let s = c.shape_of-smaller.result in
    IfOk-weaker c.drawn.result (IsDrawn (control_without_row a c.args.row) s) (λ g. (n rails : ℕ) → IsOverRails n rails a → IsOverRails n rails g)
    (λ g h. read_rails a (from c.args.row) s g h) c.drawn.ensures
