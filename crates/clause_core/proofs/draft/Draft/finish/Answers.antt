use Rattle.std.proofs.Common.{◌∙◌, ◌==◌, sym, ap}
use Rattle.std.proofs.lemmas.Bool.{eq-eqb, ne_eqb}
use Rattle.clause_core.proofs.DraftLaws.{finish-unended, finish-count, finish-ok}
use Rattle.clause_core.proofs.draft.Draft.finish.Goals as goal

pub returns-then-not-is_empty : goal.returns-then-not-is_empty
returns-then-not-is_empty c =
    finish-unended c.args.line c.args.self.formula.vars c.args.clauses c.args.self.formula.clauses c.args.self.begun.items
    (sym (ap (λ n. n == 0) c.args.self.begun.ok.0) ∙ sym c.is_empty.ensures ∙ c.if-not-is_empty.true)

pub returns-then-count-clauses : goal.returns-then-count-clauses
returns-then-count-clauses c =
    finish-count c.args.line c.args.self.formula.vars c.args.clauses c.args.self.formula.clauses c.args.self.begun.items
    (sym (ap (λ n. n == 0) c.args.self.begun.ok.0) ∙ sym c.is_empty.ensures ∙ c.if-not-is_empty.false)
    (ne_eqb _ _ (λ e. c.if-count-clauses.true (c.count.ensures.value ∙ e)))

pub returns : goal.returns
returns c =
    finish-ok c.args.line c.args.self.formula.vars c.args.clauses c.args.self.formula.clauses c.args.self.begun.items
    (sym (ap (λ n. n == 0) c.args.self.begun.ok.0) ∙ sym c.is_empty.ensures ∙ c.if-not-is_empty.false)
    (eq-eqb _ _ (sym c.count.ensures.value ∙ c.if-count-clauses.false))
