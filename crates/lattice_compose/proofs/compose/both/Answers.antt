use Rattle.std.proofs.Common.{◌≡◌, ℕ, ◌+◌, max, rules}
use Rattle.std.proofs.lemmas.Result.{IfOk-weaker}
use Rattle.lattice_grid.specs.Drawn.{IsDrawn}
use Rattle.lattice_grid.specs.Lattice.{Lattice, IsOver}
use Rattle.lattice_grid.specs.Rails.{IsOverRails}
use Rattle.lattice_grid.specs.Rectangle.{IsSize}
use Rattle.lattice_compose.specs.Both.{IsBoth, JoinsBoth}
use Rattle.lattice_compose.specs.Pictures.{control_stacked}
use Rattle.lattice_compose.proofs.BothLaws.{IsBoth-drawn, both_over, both_rails, joins_both}
use Rattle.lattice_compose.proofs.compose.both.Goals as goal

pub returns-clause-cells : goal.returns-clause-cells
returns-clause-cells c =
    let a : Lattice = c.args.upper.now in
    let b : Lattice = c.args.lower.now in
    let s = c.shape_of.result in
    let rows : s.rows ≡ a.size.rows + 1 + b.size.rows = search rules in
    let cols : s.cols ≡ max a.size.cols b.size.cols = search rules in
    IfOk-weaker c.drawn.result (IsDrawn (control_stacked a b) s) (IsBoth a b) (λ g h. IsBoth-drawn a b s g rows cols h) c.drawn.ensures

pub returns-clause-joined : goal.returns-clause-joined
returns-clause-joined c =
    let a : Lattice = c.args.upper.now in
    let b : Lattice = c.args.lower.now in
    let size_a : IsSize a.size = search rules in
    let size_b : IsSize b.size = search rules in
    IfOk-weaker c.drawn.result (IsBoth a b) (JoinsBoth a b) (λ g h. joins_both a b g size_a size_b h) (returns-clause-cells c)

pub returns-clause-over : goal.returns-clause-over
returns-clause-over c =
    let a : Lattice = c.args.upper.now in
    let b : Lattice = c.args.lower.now in
    let s = c.shape_of.result in
    IfOk-weaker c.drawn.result (IsDrawn (control_stacked a b) s) (λ g. (n : ℕ) → IsOver n a → IsOver n b → IsOver n g) (λ g h. both_over a b s g h) c.drawn.ensures

pub returns-clause-rails : goal.returns-clause-rails
returns-clause-rails c =
    let a : Lattice = c.args.upper.now in
    let b : Lattice = c.args.lower.now in
    let s = c.shape_of.result in
    IfOk-weaker c.drawn.result (IsDrawn (control_stacked a b) s) (λ g. (n rails : ℕ) → IsOverRails n rails a → IsOverRails n rails b → IsOverRails n rails g)
    (λ g h. both_rails a b s g h) c.drawn.ensures
