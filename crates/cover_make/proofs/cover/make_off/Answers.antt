use Rattle.std.proofs.Common.{◌≡◌, ap₂, ◌∙◌}
use Rattle.cube_core.specs.Members.{complement_of}
use Rattle.cover_make.specs.Cubes.{uncovered_by}
use Rattle.cover_make.proofs.CoverLaws.{uncovered_by-AllBelow}
use Rattle.cover_make.proofs.cover.make_off.Goals as goal

pub make-requires-clause-below : goal.make-requires-clause-below
make-requires-clause-below c =
    let rest_is : c.complement-rest.result ≡ uncovered_by c.args.cover.now = c.complement-rest.ensures ∙ ap₂ complement_of c.inputs-inputs.ensures.same c.table.ensures in
    rw (rest_is, c.inputs-inputs.ensures.same) (uncovered_by-AllBelow c.args.cover.now)
