use Rattle.std.proofs.Common.{◌∙◌, ap, option_copied}
use Rattle.path_meaning.specs.Defective.{is_on_in}
use Rattle.reach_encoding.specs.Encoding.{place_of}
use Rattle.reach_encoding.specs.ModelOf.{is_free}
use Rattle.reach_encoding.proofs.ModelOfTables.{entry_more}
use Rattle.reach_encoding.proofs.model.free_cells.Goals as goal

pub loop-cell-preserved : goal.loop-cell-preserved
loop-cell-preserved c =
    entry_more (λ p. is_free c.args.side (is_on_in c.args.grid.now (option_copied c.args.array) c.args.x (place_of c.args.grid.now.size p))) c.loop-cell.cell
    c.loop-cell.cells.items c.push.new.self.items c.lets_in.result c.loop-cell.invariant
    (c.lets_in.ensures ∙ ap (is_free c.args.side) (c.is_on-on.ensures ∙ ap (is_on_in c.args.grid.now (option_copied c.args.array) c.args.x) (c.place.ensures.same ∙ ap (λ s. place_of s c.loop-cell.cell) c.shape-shape.ensures)))
    c.in_ok-push.ensures.items
