use Rattle.std.proofs.Common.{◌≡◌, ◌∙◌, ◌∷◌, ap, codes, false, rules}
use Rattle.std.specs.Str.{bytes_eq}
use Rattle.clause_core.specs.CnfRead.{header_of}
use Rattle.clause_core.proofs.ReadLaws.{head-not-p, head-not-cnf}
use Rattle.clause_core.proofs.read.read_head.Goals as goal

pub returns-then-ne-clause-value : goal.returns-then-ne-clause-value
returns-then-ne-clause-value c =
    let other : bytes_eq c.in_ok-problem.problem.bytes.now (codes "p") ≡ false = search rules in
    ap header_of (c.in_ok-problem.ensures.words ∙ ap (λ r. c.in_ok-problem.problem.bytes.now ∷ r) (c.in_ok-format.ensures.words
    ∙ ap (λ r. c.in_ok-format.format.bytes.now ∷ r) (c.in_ok-vars.ensures.words ∙ ap (λ r. c.in_ok-vars.vars.bytes.now ∷ r) c.in_ok-clauses.ensures.words)))
    ∙ head-not-p c.in_ok-problem.problem.bytes.now c.in_ok-format.format.bytes.now c.in_ok-vars.vars.bytes.now c.in_ok-clauses.clauses.bytes.now _ other

pub returns-then-ne-2-clause-value : goal.returns-then-ne-2-clause-value
returns-then-ne-2-clause-value c =
    let other : bytes_eq c.in_ok-format.format.bytes.now (codes "cnf") ≡ false = search rules in
    ap header_of (c.in_ok-problem.ensures.words ∙ ap (λ r. c.in_ok-problem.problem.bytes.now ∷ r) (c.in_ok-format.ensures.words
    ∙ ap (λ r. c.in_ok-format.format.bytes.now ∷ r) (c.in_ok-vars.ensures.words ∙ ap (λ r. c.in_ok-vars.vars.bytes.now ∷ r) c.in_ok-clauses.ensures.words)))
    ∙ head-not-cnf c.in_ok-problem.problem.bytes.now c.in_ok-format.format.bytes.now c.in_ok-vars.vars.bytes.now c.in_ok-clauses.clauses.bytes.now _ other
