use Rattle.std.proofs.Common.{map, string_bytes, sym, ap, []}
use Rattle.std.specs.Prelude.{option_and_then}
use Rattle.four_lattice.proofs.WordsLaws.{row_is_table, shown-then, unspelled}
use Rattle.four_lattice.specs.Words.{row_of, job_from}
use Rattle.four_lattice.proofs.words.job_given.Goals as goal

pub returns-then-not-are_spelled-clause-refused : goal.returns-then-not-are_spelled-clause-refused
returns-then-not-are_spelled-clause-refused c refused =
    ap (option_and_then (job_from c.args.verb c.args.number)) (unspelled (row_of c.args.verb) [] (map string_bytes c.args.words.now) (row_is_table c.args.verb) (sym c.if-not-are_spelled.ensures))

pub returns-in-Some-clause-ok : goal.returns-in-Some-clause-ok
returns-in-Some-clause-ok c = shown-then _ _ (job_from c.args.verb c.args.number) _ c.in_ok-matches.ensures.ok c.in-Some.ensures.job

pub returns-clause-refused : goal.returns-clause-refused
returns-clause-refused c refused = shown-then _ _ (job_from c.args.verb c.args.number) _ c.in_ok-matches.ensures.ok c.in-None.ensures.job
