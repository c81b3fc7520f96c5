use Rattle.std.proofs.Common.{◌∙◌}
use Rattle.std.proofs.lemmas.Bool.{eq-eqb}
use Rattle.clause_core.specs.CnfRead.{joined, pieces_of}
use Rattle.clause_core.proofs.DraftLaws.{joined-zero, on_ok_both}
use Rattle.clause_core.proofs.draft.Draft.take_number.Goals as goal

pub returns-then-number-eq0-clause-taken : goal.returns-then-number-eq0-clause-taken
returns-then-number-eq0-clause-taken c = on_ok_both c.end_clause.result (λ done begun. λ later.
    (λ i. joined (done i) (begun i) (pieces_of later)) ∙ joined-zero c.args.self.now.formula.clauses c.args.self.now.begun.items c.args.number later (eq-eqb c.args.number.magnitude 0 c.if-number-eq0.true))
    c.end_clause.ensures.done c.end_clause.ensures.begun
