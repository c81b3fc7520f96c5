use Rattle.std.proofs.Common.{◌≡◌, ◌<◌, ◌∙◌, subst}
use Rattle.cube_core.proofs.MembersLaws.{members_of-with_bit}
use Rattle.cube_core.proofs.table.Table.add.Goals as goal

pub returns : goal.returns
returns c =
    let place : c.from-place.result ≡ c.args.x = c.from-place.ensures ∙ c.number.ensures.same in
    rw (place, ← c.self.view_is) (members_of-with_bit c.self.inside.words c.args.x c.self.told (subst (λ n. n < 1024) c.number.ensures.same c.number.ensures.below))
