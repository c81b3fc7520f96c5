use Rattle.std.proofs.Common.{◌+◌, ◌*◌, ◌<◌, rules, sym}
use Rattle.reach_encoding.specs.EncodeParts.{start_clause}
use Rattle.reach_encoding.specs.Encoding.{below, cells_of}
use Rattle.reach_encoding.proofs.EncodeLists.{All-below-at, Adds-push, room_push, Adds-same, HasRoom-same, map-map}
use Rattle.reach_encoding.proofs.encode.push_start.Goals as goal

pub valued-requires-clause-cell : goal.valued-requires-clause-cell
valued-requires-clause-cell c = rw c.at-cell.ensures (All-below-at (λ p. p < cells_of c.args.task.now) (λ i. c.args.line.first + i * c.args.line.step) c.args.line.count c.loop-i.i (search rules) c.requires.line)

pub marked-requires-clause-cell : goal.marked-requires-clause-cell
marked-requires-clause-cell c = rw c.at-cell.ensures (All-below-at (λ p. p < cells_of c.args.task.now) (λ i. c.args.line.first + i * c.args.line.step) c.args.line.count c.loop-i.i (search rules) c.requires.line)

pub push-requires-clause-room : goal.push-requires-clause-room
push-requires-clause-room c = room_push c.args.task.now (λ i. start_clause c.args.task.now c.args.time c.args.through (c.args.line.first + i * c.args.line.step)) c.loop-i.i c.args.line.count _ _ (HasRoom-same _ _ _ _ (map-map (start_clause c.args.task.now c.args.time c.args.through) (λ i. c.args.line.first + i * c.args.line.step) (below c.args.line.count)) c.requires.room) c.loop-i.invariant (search rules)

pub loop-i-preserved : goal.loop-i-preserved
loop-i-preserved c = Adds-push (λ i. start_clause c.args.task.now c.args.time c.args.through (c.args.line.first + i * c.args.line.step)) c.loop-i.i _ _ _ c.loop-i.invariant (search rules)

pub returns : goal.returns
returns c = Adds-same _ _ _ _ (sym (map-map (start_clause c.args.task.now c.args.time c.args.through) (λ i. c.args.line.first + i * c.args.line.step) (below c.args.line.count))) (search rules)
