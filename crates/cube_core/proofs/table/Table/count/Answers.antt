use Rattle.std.proofs.Common.{◌≡◌, ◌<◌, ◌^◌, ◌*◌, ap, ◌∙◌, sym, arith, get_or}
use Rattle.std.proofs.lemmas.Nat.{ones-le}
use Rattle.std.specs.FinSet as sets
use Rattle.cube_core.specs.Members.{in_words}
use Rattle.cube_core.proofs.CountLaws.{count_below, count_below-word, len-members_of}
use Rattle.cube_core.proofs.table.Table.count.Goals as goal

pub loop-word-preserved : goal.loop-word-preserved
loop-word-preserved c =
    let fits : get_or c.self.inside.words c.loop-word.word-index 0 < 2 ^ 64 = omega arith in
    let more = count_below-word c.self.inside.words c.loop-word.word-index fits in
    record { counted = omega (arith, more, c.loop-word.invariant.counted); few = omega (arith, ones-le 64 (get_or c.self.inside.words c.loop-word.word-index 0) fits, c.loop-word.invariant.few) }

pub returns : goal.returns
returns c =
    let all : 64 * c.loop-word.word-index ≡ 1024 = omega arith in
    c.loop-word.invariant.counted ∙ ap (count_below (in_words c.self.inside.words)) all ∙ sym (len-members_of c.self.inside.words) ∙ ap sets.len c.self.view_is
