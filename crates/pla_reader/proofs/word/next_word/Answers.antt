use Rattle.std.proofs.Common.{◌≢◌, ℕ, ◌<◌, ◌-◌, List, length, take, drop, sym, ◌∙◌, arith, true≢false}
use Rattle.std.proofs.lemmas.Bool.Decides.{Decides-eqb}
use Rattle.pla_reader.proofs.LinesLaws.{next_word-none, next_word-some, rest_of}
use Rattle.pla_reader.proofs.word.next_word.Goals as goal

pub returns-then-is_empty : goal.returns-then-is_empty
returns-then-is_empty c =
    next_word-none c.args.text.now c.gap_end.result (take (length c.args.text.now - c.gap_end.result) (drop c.gap_end.result c.args.text.now)) c.gap_end.ensures.same (rest_of c.args.text.now c.gap_end.result)
    ((Decides-eqb _ _).0 (sym c.is_empty.ensures ∙ c.if-is_empty.true))

pub returns : goal.returns
returns c =
    let rest : List ℕ = take (length c.args.text.now - c.gap_end.result) (drop c.gap_end.result c.args.text.now) in
    let ne : length rest ≢ 0 = λ e. true≢false (sym ((Decides-eqb _ _).1 e) ∙ sym c.is_empty.ensures ∙ c.if-is_empty.false) in
    let some : 0 < length rest = omega (arith, ne) in
    rw (c.split_at.ensures.front, c.split_at.ensures.back) (next_word-some c.args.text.now c.gap_end.result rest c.word_end.result c.gap_end.ensures.same (rest_of c.args.text.now c.gap_end.result) some c.word_end.ensures.same)
