use Rattle.std.proofs.Common.{◌≡◌, ◌∙◌, ap, false, length, subst}
use Rattle.std.proofs.Math.ListN.{replicate}
use Rattle.std.proofs.lemmas.List.{length-replicate}
use Rattle.reach_encoding.specs.ModelOf.{Spreads}
use Rattle.reach_encoding.proofs.ModelOfFlood.{flood_began, starts_within, unmarked}
use Rattle.reach_encoding.proofs.flood.flood.Goals as goal

pub visit_all-requires-clause-places : goal.visit_all-requires-clause-places
visit_all-requires-clause-places c = starts_within c.args.shape c.args.side c.as_slice.result.now c.in_ok-first.first.items c.as_slice.ensures.value c.in_ok-first.ensures

pub spread-requires-clause-flood : goal.spread-requires-clause-flood
spread-requires-clause-flood c =
    let marks = c.in_ok-marks.marks.items in
    let plain : marks ≡ replicate c.area.result false = c.in_ok-marks.ensures.items_if_clones_equal (λ y e. e) in
    let spreads : Spreads c.args.shape c.args.free.now c.in_ok-first.first.items marks c.new-waiting.result.items c.visit_all.new.marks.items c.visit_all.new.waiting.items =
    subst (λ ps. Spreads c.args.shape c.args.free.now ps marks c.new-waiting.result.items c.visit_all.new.marks.items c.visit_all.new.waiting.items)
    c.as_slice.ensures.value c.in_ok-visit_all.ensures.spreads in
    flood_began c.args.shape c.args.free.now c.args.side c.in_ok-first.first.items c.in_ok-first.ensures marks c.visit_all.new.marks.items
    c.new-waiting.result.items c.visit_all.new.waiting.items (ap length plain ∙ length-replicate c.area.result false ∙ c.area.ensures)
    (unmarked marks c.area.result plain) (ap length c.new-waiting.ensures.items) spreads
