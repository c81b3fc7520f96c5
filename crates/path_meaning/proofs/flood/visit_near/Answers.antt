use Rattle.path_meaning.proofs.StampLaws.{visit_near-some, visit_near-none}
use Rattle.path_meaning.proofs.flood.visit_near.Goals as goal

pub returns-in-Some-clause-visited : goal.returns-in-Some-clause-visited
returns-in-Some-clause-visited g c = visit_near-some (g.C.Cells.size c.args.cells.now) c.shape.result (g.C.Cells.on c.args.cells.now) c.args.p c.in-Some.q c.args.down c.args.right c.args.marked.now c.visit.new.marked c.shape.ensures c.in-Some.ensures.0 c.in-Some.ensures.1 c.visit.ensures.visited

pub returns-in_default-clause-visited : goal.returns-in_default-clause-visited
returns-in_default-clause-visited g c = visit_near-none (g.C.Cells.size c.args.cells.now) c.shape.result (g.C.Cells.on c.args.cells.now) c.args.p c.args.down c.args.right c.args.marked.now c.shape.ensures c.in_default.ensures
