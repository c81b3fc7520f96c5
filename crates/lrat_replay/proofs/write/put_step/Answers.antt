use Rattle.clause_core.specs.Cnf.{literals_text}
use Rattle.lrat_replay.specs.LratText.{id_text, end_text}
use Rattle.std.proofs.lemmas.Result.{on_ok_weaker}
use Rattle.clause_core.proofs.Tools.{stop-one, stop-two, stop-three, all-three}
use Rattle.lrat_replay.proofs.write.put_step.Goals as goal

pub returns-in_err-put_id-clause-front : goal.returns-in_err-put_id-clause-front
returns-in_err-put_id-clause-front g c = stop-one _ _ c.args.buffer.now (id_text c.args.id) (literals_text c.args.clause.now) (end_text c.args.hints.now) c.in_err-put_id.ensures.front

pub returns-in_err-put_literals-clause-front : goal.returns-in_err-put_literals-clause-front
returns-in_err-put_literals-clause-front g c = stop-two _ _ _ _ _ _ _ _ c.in_ok-put_id.ensures.ok c.in_err-put_literals.ensures.front

pub returns-clause-ok : goal.returns-clause-ok
returns-clause-ok g c = on_ok_weaker c.put_end.result (λ now. all-three _ _ _ _ _ _ _ _ _ _ _ c.in_ok-put_id.ensures.ok c.in_ok-put_literals.ensures.ok now) c.put_end.ensures.ok

pub returns-clause-front : goal.returns-clause-front
returns-clause-front g c = stop-three _ _ _ _ _ _ _ _ _ _ c.in_ok-put_id.ensures.ok c.in_ok-put_literals.ensures.ok c.put_end.ensures.front
