use Rattle.std.proofs.Common.{rules, ◌*◌, ◌+◌, sym}
use Rattle.path_meaning.proofs.StampLaws.{visit-pushed, visit-marked, visited-off, IsVisit}
use Rattle.path_meaning.proofs.flood.visit.Goals as goal
use Rattle.path_meaning.proofs.flood.visit.Goals.{else-not-is_marked-via-then-not-is_marked+else-is_on, else-not-is_marked-via-else-not-is_marked}

pub returns-then-is_on : goal.returns-then-is_on
returns-then-is_on g c =
    let done : IsVisit (g.C.Cells.size c.args.cells.now) (g.C.Cells.on c.args.cells.now) c.args.p c.args.marked.now c.push.new.self =
    visit-pushed (g.C.Cells.size c.args.cells.now) (g.C.Cells.on c.args.cells.now) c.args.p c.args.marked.now c.push.new.self _ c.requires.room (c.requires.row, c.requires.col) (search rules) (search rules) (search rules) c.push.ensures in
    record { visited = done.visited; room = done.room; left = done.left; cells = done.cells }

pub returns-else-not-is_marked-clause-visited : goal.returns-else-not-is_marked-clause-visited
returns-else-not-is_marked-clause-visited g c = elim c.else-not-is_marked.branch [
  | else-not-is_marked-via-then-not-is_marked+else-is_on w ↦ sym (visited-off (g.C.Cells.size c.args.cells.now) (g.C.Cells.on c.args.cells.now) c.args.p c.args.marked.now (search rules))
  | else-not-is_marked-via-else-not-is_marked w ↦ visit-marked (g.C.Cells.size c.args.cells.now) (g.C.Cells.on c.args.cells.now) c.args.p c.args.marked.now (c.args.p.row * c.cols.result + c.args.p.col) (search rules) (search rules)
]
