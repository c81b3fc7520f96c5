use Rattle.std.proofs.Common.{◌≡◌, ◌++◌, ◌∙◌, ap, take, get_or, option_copied, subst, sym}
use Rattle.std.specs.List.{flat_map}
use Rattle.std.proofs.lemmas.List.{get_or_default, take_more}
use Rattle.reach_encoding.specs.declared.flood.Side.TheVariants.{Down}
use Rattle.reach_encoding.specs.ModelOf.{free_cells_of}
use Rattle.reach_encoding.proofs.ModelOfTables.{row_more}
use Rattle.reach_encoding.proofs.model.push_values.Goals as goal

pub loop-x-preserved : goal.loop-x-preserved
loop-x-preserved c =
    let f = free_cells_of c.args.grid.now (option_copied c.args.array) Down in
    let item : c.x-item.result ≡ get_or c.args.asked.now c.loop-x.x-index 0 = c.x-item.is ∙ get_or_default c.args.asked.now c.loop-x.x-index c.x-item.result 0 c.loop-x-test.true in
    subst (λ xs. c.extend_from_slice.new.self.items ≡ c.args.values.now.items ++ flat_map f xs) (sym (take_more c.args.asked.now c.loop-x.x-index 0 c.loop-x-test.true))
    (row_more f c.args.values.now.items (take c.loop-x.x-index c.args.asked.now) (get_or c.args.asked.now c.loop-x.x-index 0) c.loop-x.values.items c.extend_from_slice.new.self.items
    c.as_slice.result.now c.loop-x.invariant (c.as_slice.ensures.value ∙ c.in_ok-row.ensures ∙ ap f item) c.in_ok-extend_from_slice.ensures.items)
