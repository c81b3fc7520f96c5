use Rattle.std.proofs.Common.{◌-◌, ◌∙◌, ap, sym, length}
use Rattle.std.specs.Prelude.{slice_index}
use Rattle.lrat_replay.specs.Book.{last_id}
use Rattle.lrat_replay.proofs.StoreLaws.{last_number-is, last_id-is}
use Rattle.lrat_replay.proofs.store.Store.last_id.Goals as goal

pub returns : goal.returns
returns c =
    c.last_of.ensures ∙ ap (λ xs. slice_index xs (length xs - 1)) c.deref.ensures.value ∙ sym (last_number-is 0 c.self.inside.ids.items)
    ∙ sym (last_id-is c.self.inside.formula c.self.inside.steps c.self.inside.ids.items c.self.inside.deleted.items c.self.invariant.store) ∙ ap last_id c.self.view_is
