use Rattle.std.proofs.Common.{codes}
use Rattle.lrat_replay.specs.LratText.{hints_text}
use Rattle.std.proofs.lemmas.Result.{on_ok_weaker}
use Rattle.clause_core.proofs.Tools.{stop-one, stop-two, stop-three, all-three}
use Rattle.lrat_replay.proofs.write.put_end.Goals as goal

pub returns-in_err-put-clause-front : goal.returns-in_err-put-clause-front
returns-in_err-put-clause-front g c = stop-one _ _ c.args.buffer.now (codes "0 ") (hints_text c.args.hints.now) (codes "0\n") c.in_err-put.ensures.front

pub returns-in_err-put_hints-clause-front : goal.returns-in_err-put_hints-clause-front
returns-in_err-put_hints-clause-front g c = stop-two _ _ _ _ _ _ _ _ c.in_ok-put.ensures.ok c.in_err-put_hints.ensures.front

pub returns-clause-ok : goal.returns-clause-ok
returns-clause-ok g c = on_ok_weaker c.put-2.result (λ now. all-three _ _ _ _ _ _ _ _ _ _ _ c.in_ok-put.ensures.ok c.in_ok-put_hints.ensures.ok now) c.put-2.ensures.ok

pub returns-clause-front : goal.returns-clause-front
returns-clause-front g c = stop-three _ _ _ _ _ _ _ _ _ _ c.in_ok-put.ensures.ok c.in_ok-put_hints.ensures.ok c.put-2.ensures.front
