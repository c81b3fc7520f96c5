use Rattle.std.proofs.Common.{◌∙◌}
use Rattle.path_meaning.proofs.FloodLaws.{fresh_flood, answer}
use Rattle.path_meaning.proofs.flood.is_joined.Goals as goal

pub visit_top-requires : goal.visit_top-requires
visit_top-requires g c = fresh_flood (g.C.Cells.size c.args.cells.now) (g.C.Cells.on c.args.cells.now) c.args.marked.now c.begin.new.self c.begin.ensures c.requires

pub returns : goal.returns
returns g c =
    let size = c.visit_top.ensures.size in
    let found = answer (g.C.Cells.size c.args.cells.now) (g.C.Cells.on c.args.cells.now) c.reaches_bottom.result size.some_rows size.some_cols c.reaches_bottom.ensures.joined in
    record {
      joined = c.reaches_bottom.ensures.joined;
      not_cut = found.not_cut;
      cut = found.cut;
      not_joined = found.not_joined;
      cells = c.reaches_bottom.ensures.cells ∙ c.visit_top.ensures.cells ∙ c.begin.ensures.stamps;
    }
