use Rattle.std.proofs.Common.{◌≡◌, ◌<◌, ◌∙◌, subst}
use Rattle.cube_core.proofs.MembersLaws.{has_word}
use Rattle.cube_core.proofs.table.Table.has.Goals as goal

pub returns : goal.returns
returns c =
    let place : c.from-place.result ≡ c.args.x = c.from-place.ensures ∙ c.number.ensures.same in
    rw (place, ← c.self.view_is) (has_word c.self.inside.words c.args.x (subst (λ n. n < 1024) c.number.ensures.same c.number.ensures.below))
