use Rattle.journal_text.specs.Good.{LacksRails}
use Rattle.area_search.proofs.Shown.{searched_lacking}
use Rattle.area_search.proofs.least.search.Goals as goal

pub returns-in-Lacking-clause-searched : goal.returns-in-Lacking-clause-searched
returns-in-Lacking-clause-searched g c =
    let lacks : LacksRails c.args.rails c.args.spec.now c.in-Lacking.on c.in-Lacking.off = record { start = rw c.in-Lacking.is at c.in-Ok.ensures.start; never = rw c.in-Lacking.is at c.in-Ok.ensures.right } in
    searched_lacking c.args.rails c.args.output c.args.spec.now c.args.budget (g.K.Sink.got c.args.writer.sink) c.in-Lacking.on c.in-Lacking.off c.new-in-Lacking.result.items lacks c.new-in-Lacking.ensures.items
