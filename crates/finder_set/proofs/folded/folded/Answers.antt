use Rattle.std.proofs.Common.{◌≡◌, ◌*◌, length, ap, refl, subst, ◌∙◌, rules}
use Rattle.std.specs.Option.{SomeIff}
use Rattle.finder_set.specs.Folded.{folded_control}
use Rattle.finder_set.specs.Folding.{IsOneLess}
use Rattle.lattice_grid.specs.Drawn.{IsDrawn}
use Rattle.lattice_grid.specs.Lattice.{Lattice}
use Rattle.lattice_grid.specs.Rectangle.{Size, IsSize}
use Rattle.lattice_grid.proofs.Tools.{IsDrawn-read, IsDrawnTo-more}
use Rattle.finder_set.proofs.FoldLaws.{IsFolded-drawn, folded_over, covered}
use Rattle.finder_set.proofs.folded.folded.Goals as goal

pub cell-requires : goal.cell-requires
cell-requires c =
    let whole : Size = c.args.grid.now.size in
    let size : IsSize whole = subst IsSize c.shape.ensures c.shorter-shape.ensures.size in
    let less : IsOneLess c.args.lines whole c.shorter-shape.result = subst (λ (s : Size). IsOneLess c.args.lines s c.shorter-shape.result) c.shape.ensures c.shorter-shape.ensures.less in
    covered c.args.lines whole c.shorter-shape.result c.place.result size less c.place.ensures.within

pub loop-index-preserved : goal.loop-index-preserved
loop-index-preserved c =
    IsDrawnTo-more (folded_control c.args.lines c.args.number c.args.grid.now) _ c.loop-index.index c.loop-index.cells.items c.push.new.self.items c.cell.result
    c.loop-index.invariant (c.cell.ensures.same ∙ ap (folded_control c.args.lines c.args.number c.args.grid.now) c.place.ensures.same) c.cell.ensures.input c.in_ok-push.ensures.items

-- the lattice that comes back is drawn
is_drawn : (c : goal.After-unwrap) → IsDrawn (folded_control c.args.lines c.args.number c.args.grid.now) c.shorter-shape.result c.unwrap.result
is_drawn c =
    let s : Size = c.shorter-shape.result in
    let cells = c.loop-index.cells.items in
    let whole : Lattice = record { size = s; cells = cells } in
    let made : (length cells ≡ s.rows * s.cols) × (c.unwrap.result ≡ whole) = subst (λ o. SomeIff o (length cells ≡ s.rows * s.cols) whole) c.unwrap.ensures c.new.ensures in
    IsDrawn-read (folded_control c.args.lines c.args.number c.args.grid.now) s c.loop-index.index s.cols cells c.unwrap.result (search rules) refl c.loop-index.invariant made.1

pub returns-clause-folded : goal.returns-clause-folded
returns-clause-folded c =
    let less : IsOneLess c.args.lines c.args.grid.now.size c.shorter-shape.result =
    subst (λ (s : Size). IsOneLess c.args.lines s c.shorter-shape.result) c.shape.ensures c.shorter-shape.ensures.less in
    IsFolded-drawn c.args.lines c.args.number c.args.grid.now c.shorter-shape.result c.unwrap.result less (is_drawn c)

pub returns-clause-over : goal.returns-clause-over
returns-clause-over c = folded_over c.args.lines c.args.number c.args.grid.now c.shorter-shape.result c.unwrap.result (is_drawn c)
