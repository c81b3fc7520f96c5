use Rattle.lrat_replay.proofs.RisingLaws.{not_found}
use Rattle.lrat_replay.proofs.place.search.Goals as goal

pub returns-in-Err : goal.returns-in-Err
returns-in-Err c = not_found c.args.ids.now c.args.id c.in-Err.field-0 c.requires c.in-Err.ensures.position
