use Rattle.std.proofs.Common.{refl}
use Rattle.four_lattice.specs.Words.{row_of}
use Rattle.four_lattice.proofs.WordsClap.{error_refuses, matches_show}
use Rattle.four_lattice.proofs.WordsLaws.{row_is_table}
use Rattle.four_lattice.proofs.words.matches_of.Goals as goal

pub returns-clause-ok : goal.returns-clause-ok
returns-clause-ok c =
    matches_show _ _ (row_of c.args.verb) _ _ c.in_ok-command.ensures (row_is_table c.args.verb) c.requires c.in_ok-try_get_matches_from.ensures.kinds c.in_ok-try_get_matches_from.ensures.matches

pub returns-in_err-try_get_matches_from-clause-refused : goal.returns-in_err-try_get_matches_from-clause-refused
returns-in_err-try_get_matches_from-clause-refused c refused =
    error_refuses _ _ (row_of c.args.verb) _ c.in_err-try_get_matches_from.field-0.0 c.in_ok-command.ensures (row_is_table c.args.verb) c.requires c.in_err-try_get_matches_from.ensures.kinds ((rw refused at c.from_residual-in_err-try_get_matches_from.ensures.1) refl)
