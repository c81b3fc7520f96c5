use Rattle.std.proofs.Common.{◌<◌, length, refl, sym, ap, ◌∙◌, subst, set, length-set}
use Rattle.std.specs.List.{swap_remove}
use Rattle.clause_solver.specs.Watch.{list_at}
use Rattle.clause_solver.proofs.Lists.{list_at-here, list_at-other, list_at-read, has_less}
use Rattle.clause_solver.proofs.watch.Watches.remove.Goals as goal

pub returns : goal.returns
returns c =
    let lists = c.args.self.now.lists.items in
    let n = c.code.result in
    let v = c.swap_remove.new.self in
    let i = c.args.index in
    let low : n < length lists = subst (λ m. m < length lists) (sym c.code.ensures) c.requires.lists in
    let at = c.code.ensures in
    let read = list_at-read lists n c.index_mut.result.now low c.index_mut.ensures.value ∙ ap (list_at lists) at in
    has_less c.args.self.now _ c.args.lit (length-set lists n v) refl (λ m ne. list_at-other lists n m v (λ e. ne (e ∙ at))) i c.swap_remove.result c.requires.inside
    (ap (λ m. list_at (set lists n v) m) (sym at) ∙ list_at-here lists n v low ∙ c.swap_remove.ensures.items ∙ ap (λ xs. swap_remove xs i c.swap_remove.result) read)
