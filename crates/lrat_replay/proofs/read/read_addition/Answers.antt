use Rattle.std.proofs.Common.{◌∙◌, ap, Some}
use Rattle.clause_core.specs.Text.{words_of}
use Rattle.lrat_replay.proofs.LratLaws.{addition-none, addition-none-2, addition-more, addition-end, when_some, when_none}
use Rattle.lrat_replay.proofs.read.read_addition.Goals as goal

pub returns-in_default : goal.returns-in_default
returns-in_default c = addition-none c.args.id (words_of c.args.text.now) (rw c.in_default.is at c.in_ok-behind.ensures)

pub returns-in_default-2 : goal.returns-in_default-2
returns-in_default-2 c = addition-none-2 c.args.id (words_of c.args.text.now) c.read_literals.new.lits.items (words_of c.in-Some.behind.now) (rw c.in-Some.is at c.in_ok-behind.ensures) (rw c.in_default-2.is at c.in_ok-rest.ensures)

pub returns-then-is_some : goal.returns-then-is_some
returns-then-is_some c =
    let word = when_some c.next_word.result _ _ c.if-is_some.ensures c.next_word.ensures.words in
    let hints = rw c.in-Some-2.is at c.in_ok-rest.ensures in
    addition-more c.args.id (words_of c.args.text.now) c.read_literals.new.lits.items (words_of c.in-Some.behind.now) c.read_numbers.new.numbers.items word.0.bytes.now (words_of word.0.rest.now)
    (rw c.in-Some.is at c.in_ok-behind.ensures) (hints ∙ ap (λ r. Some (c.read_numbers.new.numbers.items, r)) word.1)

pub returns : goal.returns
returns c =
    addition-end c.args.id (words_of c.args.text.now) c.read_literals.new.lits.items (words_of c.in-Some.behind.now) c.read_numbers.new.numbers.items (words_of c.in-Some-2.rest.now)
    (rw c.in-Some.is at c.in_ok-behind.ensures) (rw c.in-Some-2.is at c.in_ok-rest.ensures) (when_none c.next_word.result _ _ c.if-is_some.ensures c.next_word.ensures.words)
