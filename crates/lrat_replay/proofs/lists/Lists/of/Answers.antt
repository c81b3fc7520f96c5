use Rattle.std.proofs.Common.{◌∙◌, take}
use Rattle.lrat_replay.proofs.ListsLaws.{lead_within, listed_on}
use Rattle.lrat_replay.proofs.lists.Lists.of.Goals as goal

pub push-requires-clause-within : goal.push-requires-clause-within
push-requires-clause-within c = lead_within c.args.formula.now.vars _ c.clause.result.now c.clause.ensures.over c.loop-index.invariant.width

pub loop-index-preserved : goal.loop-index-preserved
loop-index-preserved c = record {
  listed = listed_on c.args.formula.now.clauses c.loop-index.index c.clause.result.now c.push.new.self.first.items c.push.new.self.next.items c.clause.ensures.value
      (c.in_ok-push.ensures.listed (take c.loop-index.index c.args.formula.now.clauses) c.loop-index.invariant.listed);
  width = c.in_ok-push.ensures.width ∙ c.loop-index.invariant.width;
}
