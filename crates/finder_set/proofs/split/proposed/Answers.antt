use Rattle.std.specs.Option.{IfSome}
use Rattle.std.proofs.lemmas.Result.{IfOk-weaker}
use Rattle.cube_core.specs.Function.{Function}
use Rattle.finder_set.specs.Put.{HasPut}
use Rattle.finder_set.specs.Splitting.{first_of, other_of, IsRight}
use Rattle.finder_set.proofs.SplitLaws.{HasPut-IsRight, HasPut-read}
use Rattle.finder_set.proofs.split.proposed.Goals as goal

pub returns-clause-right : goal.returns-clause-right
returns-clause-right c =
    let f : Function = c.args.spec.now in
    IfOk-weaker c.of_parts.result (HasPut c.args.side (first_of c.args.side f) (other_of c.args.side f)) (λ ready. IfSome ready (IsRight f)) (λ answer put. HasPut-IsRight c.args.side f answer c.cubes.ensures.function put)
    (HasPut-read c.args.side f _ _ c.in_ok-list.ensures.list c.of_parts.ensures)
