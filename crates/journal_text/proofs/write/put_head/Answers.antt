use Rattle.report_text.proofs.Tools.{puts_as}
use Rattle.journal_text.proofs.WriteLaws.{head_of_one, head_of_two}
use Rattle.journal_text.proofs.write.put_head.Goals as goal

pub returns-in-One : goal.returns-in-One
returns-in-One g c = puts_as _ _ _ _ _ _ _ _ _ (head_of_one c.args.version c.args.rails c.in-One.is) (record { ok = c.put.ensures.ok; front = c.put.ensures.front; cause = c.put.ensures.cause })

pub returns-in-Two : goal.returns-in-Two
returns-in-Two g c = puts_as _ _ _ _ _ _ _ _ _ (head_of_two c.args.version c.args.rails c.in-Two.is) c.put_lead.ensures
