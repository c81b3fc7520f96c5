use Rattle.std.proofs.Common.{string_bytes, sym, ◌∙◌}
use Rattle.four_lattice.proofs.WordsLaws.{few_spelled}
use Rattle.four_lattice.proofs.words.are_spelled.Goals as goal

pub returns : goal.returns
returns c = c.are_plain_words-2.ensures ∙ sym (c.loop-rest.invariant ∙ few_spelled string_bytes c.loop-rest.rest.now c.in_default.len_below)
