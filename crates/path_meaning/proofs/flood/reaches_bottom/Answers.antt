use Rattle.std.proofs.Common.{◌≡◌, ◌∙◌, ap, sym, length, arith, true}
use Rattle.std.proofs.lemmas.Bool.{false≢true}
use Rattle.path_meaning.proofs.FloodLaws.{pops_flood, flood_turn, ended_flood, joined_from_reached, TopIsMarked-grows}
use Rattle.path_meaning.proofs.flood.reaches_bottom.Goals as goal

pub overflow_add-p : goal.overflow_add-p
overflow_add-p g c =
    let taken = pops_flood (g.C.Cells.size c.args.cells.now) (g.C.Cells.on c.args.cells.now) c.loop-p.marked c.in-Some.p c.pop.new.self c.loop-p.invariant.flood c.in-Some.ensures in
    let rows : c.rows-rows.result ≡ (g.C.Cells.size c.args.cells.now).rows = c.rows-rows.ensures.same ∙ ap (λ s. s.rows) c.shape.ensures in
    omega (arith, taken.within.0, rows, c.rows-rows.type_inv)

pub returns-then-p-rows-clause-joined : goal.returns-then-p-rows-clause-joined
returns-then-p-rows-clause-joined g c =
    let taken = pops_flood (g.C.Cells.size c.args.cells.now) (g.C.Cells.on c.args.cells.now) c.loop-p.marked c.in-Some.p c.pop.new.self c.loop-p.invariant.flood c.in-Some.ensures in
    let rows : c.rows-rows.result ≡ (g.C.Cells.size c.args.cells.now).rows = c.rows-rows.ensures.same ∙ ap (λ s. s.rows) c.shape.ensures in
    (λ _. joined_from_reached (g.C.Cells.size c.args.cells.now) (g.C.Cells.on c.args.cells.now) c.in-Some.p taken.reached (c.if-p-rows.true ∙ rows), λ _ i. true)

pub visit_around-requires-clause-row : goal.visit_around-requires-clause-row
visit_around-requires-clause-row g c = (pops_flood (g.C.Cells.size c.args.cells.now) (g.C.Cells.on c.args.cells.now) c.loop-p.marked c.in-Some.p c.pop.new.self c.loop-p.invariant.flood c.in-Some.ensures).within.0

pub visit_around-requires-clause-col : goal.visit_around-requires-clause-col
visit_around-requires-clause-col g c = (pops_flood (g.C.Cells.size c.args.cells.now) (g.C.Cells.on c.args.cells.now) c.loop-p.marked c.in-Some.p c.pop.new.self c.loop-p.invariant.flood c.in-Some.ensures).within.1

pub visit_around-requires-clause-room : goal.visit_around-requires-clause-room
visit_around-requires-clause-room g c = (pops_flood (g.C.Cells.size c.args.cells.now) (g.C.Cells.on c.args.cells.now) c.loop-p.marked c.in-Some.p c.pop.new.self c.loop-p.invariant.flood c.in-Some.ensures).flood.room

pub loop-p-preserved : goal.loop-p-preserved
loop-p-preserved g c =
    let s = (g.C.Cells.size c.args.cells.now) in
    let on = g.C.Cells.on c.args.cells.now in
    let taken = pops_flood s on c.loop-p.marked c.in-Some.p c.pop.new.self c.loop-p.invariant.flood c.in-Some.ensures in
    let rows : c.rows-rows.result ≡ s.rows = c.rows-rows.ensures.same ∙ ap (λ z. z.rows) c.shape.ensures in
    let turn = flood_turn s on c.in-Some.p c.loop-p.marked c.pop.new.self c.visit_around.new.marked taken (λ e. c.if-p-rows.false (e ∙ sym rows)) c.visit_around.ensures.spread in
    record { flood = turn.flood; top = TopIsMarked-grows s on s.cols c.loop-p.marked c.visit_around.new.marked turn.grows c.loop-p.invariant.top; cells = c.visit_around.ensures.cells ∙ ap length taken.stamps ∙ c.loop-p.invariant.cells }

pub loop-p-smaller : goal.loop-p-smaller
loop-p-smaller g c =
    let taken = pops_flood (g.C.Cells.size c.args.cells.now) (g.C.Cells.on c.args.cells.now) c.loop-p.marked c.in-Some.p c.pop.new.self c.loop-p.invariant.flood c.in-Some.ensures in
    omega (arith, taken.left, c.visit_around.ensures.left)

pub returns-clause-joined : goal.returns-clause-joined
returns-clause-joined g c = (λ f. absurd (false≢true f), λ joined. absurd (ended_flood (g.C.Cells.size c.args.cells.now) (g.C.Cells.on c.args.cells.now) c.loop-p.marked c.loop-p.invariant.flood c.loop-p.invariant.top c.in_default.ensures.0 joined))
