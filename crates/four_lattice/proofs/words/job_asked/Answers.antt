use Rattle.std.proofs.Common.{sym, map, string_bytes, None, Some}
use Rattle.four_lattice.specs.Words.{row_of, job_from}
use Rattle.four_lattice.proofs.WordsLaws.{found-plain, found-numbered, if_ok}
use Rattle.four_lattice.proofs.words.job_asked.Goals as goal

pub returns-then-wants_number-clause-ok : goal.returns-then-wants_number-clause-ok
returns-then-wants_number-clause-ok c =
    if_ok c.job_numbered.result _ _ (λ job is. found-numbered (row_of c.args.verb) (map string_bytes c.args.words.now) (job_from c.args.verb) (Some job) (sym c.if-wants_number.ensures) is) c.job_numbered.ensures.ok

pub returns-then-wants_number-clause-refused : goal.returns-then-wants_number-clause-refused
returns-then-wants_number-clause-refused c refused =
    found-numbered (row_of c.args.verb) (map string_bytes c.args.words.now) (job_from c.args.verb) None (sym c.if-wants_number.ensures) (c.job_numbered.ensures.refused refused)

pub returns-else-wants_number-clause-ok : goal.returns-else-wants_number-clause-ok
returns-else-wants_number-clause-ok c =
    if_ok c.job_given.result _ _ (λ job is. found-plain (row_of c.args.verb) (map string_bytes c.args.words.now) (job_from c.args.verb) (Some job) (sym c.if-wants_number.ensures) is) c.job_given.ensures.ok

pub returns-else-wants_number-clause-refused : goal.returns-else-wants_number-clause-refused
returns-else-wants_number-clause-refused c refused =
    found-plain (row_of c.args.verb) (map string_bytes c.args.words.now) (job_from c.args.verb) None (sym c.if-wants_number.ensures) (c.job_given.ensures.refused refused)
