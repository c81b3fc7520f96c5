use Rattle.std.proofs.Common.{◌≡◌, ℕ, ◌+◌, max, rules}
use Rattle.std.proofs.lemmas.Result.{IfOk-weaker}
use Rattle.lattice_grid.specs.Drawn.{IsDrawn}
use Rattle.lattice_grid.specs.Lattice.{Lattice, IsOver}
use Rattle.lattice_grid.specs.Rails.{IsOverRails}
use Rattle.lattice_grid.specs.Rectangle.{IsSize}
use Rattle.lattice_compose.specs.Either.{IsEither, JoinsEither}
use Rattle.lattice_compose.specs.Pictures.{control_beside}
use Rattle.lattice_compose.proofs.EitherLaws.{IsEither-drawn, either_over, either_rails, joins_either}
use Rattle.lattice_compose.proofs.compose.either.Goals as goal

pub returns-clause-cells : goal.returns-clause-cells
returns-clause-cells c =
    let a : Lattice = c.args.left.now in
    let b : Lattice = c.args.right.now in
    let s = c.shape_of.result in
    let rows : s.rows ≡ max a.size.rows b.size.rows = search rules in
    let cols : s.cols ≡ a.size.cols + 1 + b.size.cols = search rules in
    IfOk-weaker c.drawn.result (IsDrawn (control_beside a b) s) (IsEither a b) (λ g h. IsEither-drawn a b s g rows cols h) c.drawn.ensures

pub returns-clause-joined : goal.returns-clause-joined
returns-clause-joined c =
    let a : Lattice = c.args.left.now in
    let b : Lattice = c.args.right.now in
    let size_a : IsSize a.size = search rules in
    let size_b : IsSize b.size = search rules in
    IfOk-weaker c.drawn.result (IsEither a b) (JoinsEither a b) (λ g h. joins_either a b g size_a size_b h) (returns-clause-cells c)

pub returns-clause-over : goal.returns-clause-over
returns-clause-over c =
    let a : Lattice = c.args.left.now in
    let b : Lattice = c.args.right.now in
    let s = c.shape_of.result in
    IfOk-weaker c.drawn.result (IsDrawn (control_beside a b) s) (λ g. (n : ℕ) → IsOver n a → IsOver n b → IsOver n g) (λ g h. either_over a b s g h) c.drawn.ensures

pub returns-clause-rails : goal.returns-clause-rails
returns-clause-rails c =
    let a : Lattice = c.args.left.now in
    let b : Lattice = c.args.right.now in
    let s = c.shape_of.result in
    IfOk-weaker c.drawn.result (IsDrawn (control_beside a b) s) (λ g. (n rails : ℕ) → IsOverRails n rails a → IsOverRails n rails b → IsOverRails n rails g)
    (λ g h. either_rails a b s g h) c.drawn.ensures
