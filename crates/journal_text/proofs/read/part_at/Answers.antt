use Rattle.std.proofs.Common.{◌≢◌, List, ℕ, inl, inr, refl, sym, subst, codes, rules}
use Rattle.std.proofs.lemmas.Result.{err_from_is_err_and}
use Rattle.journal_text.specs.Lines.{IsRefusedBehind, IsPartAt}
use Rattle.journal_text.specs.declared.refusal.JournalRefusal.TheVariants.{Word, Order, Question, Truncated}
use Rattle.journal_text.proofs.PartsLaws.{outside_refused}
use Rattle.journal_text.proofs.read.part_at.Goals as goal

pub returns-in_default : goal.returns-in_default
returns-in_default c = outside_refused c.args.version c.args.bytes.now c.args.line (Truncated c.args.line) (inl (refl, c.in_default.ensures))

pub returns-in_err-part-in-Question : goal.returns-in_err-part-in-Question
returns-in_err-part-in-Question c =
    let p = err_from_is_err_and c.from_residual.result c.from_residual.ensures.1 in
    rw (p.1, p.2) (subst (λ (z : List ℕ). IsRefusedBehind c.args.version z c.args.line c.in_err-part-in-Question.field-0.0) (sym c.in-Some.ensures.text) (c.in_err-part-in-Question.ensures c.args.version))

pub returns-in_ok-part-in-Question : goal.returns-in_ok-part-in-Question
returns-in_ok-part-in-Question c =
    subst (λ (z : List ℕ). IsPartAt c.args.version c.args.line z c.in_ok-part-in-Question.part c.in_ok-part-in-Question.rest.now c.in_ok-part-in-Question.next) (sym c.in-Some.ensures.text) (c.in_ok-part-in-Question.ensures c.args.version)

pub returns-else-eq : goal.returns-else-eq
returns-else-eq c =
    let other : c.in-Some.text.now ≢ codes "end" = search rules in
    outside_refused c.args.version c.args.bytes.now c.args.line (Question c.args.line) (refl, (c.in-Some.text.now, c.in-Some.rest.now, c.in-Some.ensures, inr (c.in-End.ensures, other)))

pub returns-in-Number : goal.returns-in-Number
returns-in-Number c = outside_refused c.args.version c.args.bytes.now c.args.line (Order c.args.line) (refl, (c.in-Some.text.now, c.in-Some.rest.now, c.in-Some.ensures, inl c.in-Number.ensures))

pub returns-in-Closing : goal.returns-in-Closing
returns-in-Closing c = outside_refused c.args.version c.args.bytes.now c.args.line (Order c.args.line) (refl, (c.in-Some.text.now, c.in-Some.rest.now, c.in-Some.ensures, inr c.in-Closing.ensures))

pub returns-in-Unknown : goal.returns-in-Unknown
returns-in-Unknown c = outside_refused c.args.version c.args.bytes.now c.args.line (Word c.args.line) (refl, (c.in-Some.text.now, c.in-Some.rest.now, c.in-Some.ensures, c.in-Unknown.ensures))
