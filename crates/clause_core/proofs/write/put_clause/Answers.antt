use Rattle.std.proofs.lemmas.Result.{on_ok_weaker}
use Rattle.wire_io.proofs.Tools.{Passes-append, Passes-front}
use Rattle.clause_core.proofs.write.put_clause.Goals as goal

pub returns-clause-ok : goal.returns-clause-ok
returns-clause-ok g c = on_ok_weaker c.put.result (λ now. Passes-append _ _ _ _ _ _ _ _ c.in_ok-put_literals.ensures.ok now) c.put.ensures.ok

pub returns-clause-front : goal.returns-clause-front
returns-clause-front g c = Passes-front _ _ _ _ _ _ _ c.in_ok-put_literals.ensures.ok c.put.ensures.front
