use Rattle.std.proofs.Common.{◌≡◌, ◌*◌, length, ap, refl, subst, ◌∙◌, rules}
use Rattle.std.specs.Option.{SomeIff}
use Rattle.lattice_grid.specs.Lattice.{Lattice}
use Rattle.lattice_grid.proofs.Tools.{IsDrawn-read, IsDrawnTo-more}
use Rattle.lattice_compose.proofs.drawn.drawn.Goals as goal

pub loop-index-preserved : goal.loop-index-preserved
loop-index-preserved g c =
    IsDrawnTo-more (g.P.Picture.control c.args.picture.now) c.args.shape.cols c.loop-index.index c.loop-index.cells.items c.push.new.self.items c.control.result
    c.loop-index.invariant (c.control.ensures.same ∙ ap (g.P.Picture.control c.args.picture.now) c.place.ensures.same) c.control.ensures.input c.in_ok-push.ensures.items

pub returns : goal.returns
returns g c =
    let s = c.args.shape in
    let cells = c.loop-index.cells.items in
    let whole : Lattice = record { size = s; cells = cells } in
    let made : (length cells ≡ s.rows * s.cols) × (c.unwrap.result ≡ whole) = subst (λ o. SomeIff o (length cells ≡ s.rows * s.cols) whole) c.unwrap.ensures c.new.ensures in
    IsDrawn-read (g.P.Picture.control c.args.picture.now) s c.loop-index.index s.cols cells c.unwrap.result (search rules) refl c.loop-index.invariant made.1
