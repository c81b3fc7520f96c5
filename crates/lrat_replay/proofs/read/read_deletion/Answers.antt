use Rattle.std.proofs.Common.{◌∙◌, ap, Some}
use Rattle.clause_core.specs.Text.{words_of}
use Rattle.lrat_replay.proofs.LratLaws.{deletion-none, deletion-more, deletion-end, when_some, when_none}
use Rattle.lrat_replay.proofs.read.read_deletion.Goals as goal

pub returns-in_default : goal.returns-in_default
returns-in_default c = deletion-none (words_of c.args.text.now) (rw c.in_default.is at c.in_ok-rest.ensures)

pub returns-then-is_some : goal.returns-then-is_some
returns-then-is_some c =
    let found = rw c.in-Some.is at c.in_ok-rest.ensures in
    let word = when_some c.next_word.result _ _ c.if-is_some.ensures c.next_word.ensures.words in
    deletion-more (words_of c.args.text.now) c.read_numbers.new.numbers.items word.0.bytes.now (words_of word.0.rest.now) (found ∙ ap (λ r. Some (c.read_numbers.new.numbers.items, r)) word.1)

pub returns : goal.returns
returns c =
    let found = rw c.in-Some.is at c.in_ok-rest.ensures in
    deletion-end (words_of c.args.text.now) c.read_numbers.new.numbers.items (words_of c.in-Some.rest.now) found (when_none c.next_word.result _ _ c.if-is_some.ensures c.next_word.ensures.words)
