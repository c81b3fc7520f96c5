use Rattle.std.proofs.Common.{◌∙◌}
use Rattle.area_search.proofs.Growth.{stopped_held}
use Rattle.area_search.proofs.least.search_improved.Goals as goal

pub returns-in-Err-clause-stopped : goal.returns-in-Err-clause-stopped
returns-in-Err-clause-stopped g c =
    stopped_held g.K.Sink.got g.K.Sink.faults c.args.output c.args.writer.sink c.out_of_memory.result.held c.out_of_memory.result.fault c.out_of_memory.ensures.fault (c.out_of_memory.ensures.held ∙ c.into_sink.ensures)
