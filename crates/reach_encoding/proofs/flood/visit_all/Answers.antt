use Rattle.std.proofs.Common.{◌∙◌, ◌∷◌, [], take, get_or, subst, sym}
use Rattle.std.proofs.lemmas.List.{take_more}
use Rattle.reach_encoding.specs.ModelOf.{Spreads}
use Rattle.reach_encoding.proofs.ModelOfFlood.{spreads_more}
use Rattle.reach_encoding.proofs.flood.visit_all.Goals as goal

pub visit-requires-clause-marks : goal.visit-requires-clause-marks
visit-requires-clause-marks c = c.loop-p.invariant.cells ∙ c.requires.marks

pub loop-p-preserved : goal.loop-p-preserved
loop-p-preserved c =
    subst (λ ps. Spreads c.args.shape c.args.free.now ps c.args.marks.now.items c.args.waiting.now.items c.visit.new.marks.items c.visit.new.waiting.items)
    (sym (take_more c.args.places.now c.loop-p.p-index (record { row = 0; col = 0 }) c.loop-p-test.true))
    (spreads_more c.args.shape c.args.free.now (take c.loop-p.p-index c.args.places.now) (get_or c.args.places.now c.loop-p.p-index (record { row = 0; col = 0 }) ∷ [])
    c.args.marks.now.items c.loop-p.marks.items c.visit.new.marks.items c.args.waiting.now.items c.loop-p.waiting.items c.visit.new.waiting.items
    c.loop-p.invariant c.in_ok-visit.ensures.spreads)
