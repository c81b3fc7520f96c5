use Rattle.std.proofs.Common.{rules, tests, string_bytes}
use Rattle.std.proofs.lemmas.Iterator.{YieldsList-from_slice}
use Rattle.std.proofs.lemmas.Iterator.Search.{all_from_yields_List}
use Rattle.four_lattice.specs.Words.{is_plain}
use Rattle.four_lattice.proofs.WordsLaws.{all_mapped}
use Rattle.four_lattice.proofs.words.are_plain_words.Goals as goal

pub returns : goal.returns
returns c =
    rw (all_mapped is_plain string_bytes c.args.words.now)
    (all_from_yields_List (λ word. is_plain (string_bytes word)) _ _ _ c.all.ensures.ran (YieldsList-from_slice c.args.words.now cc) (λ x b q k. search (rules, tests)))
