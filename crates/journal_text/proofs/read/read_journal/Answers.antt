use Rattle.std.proofs.Common.{◌+◌, Ok, Err}
use Rattle.report_text.specs.Pieces.{feeds}
use Rattle.journal_text.specs.declared.refusal.JournalRefusal.TheVariants.{Truncated}
use Rattle.journal_text.proofs.GivesLaws.{found_ok, lines_ok, refused_ok, answered, front_is_cut_short}
use Rattle.journal_text.proofs.read.read_journal.Goals as goal

pub returns-clause-found : goal.returns-clause-found
returns-clause-found c = found_ok c.args.bytes.now c.spelled.result c.spelled.ensures

pub returns-clause-lines : goal.returns-clause-lines
returns-clause-lines c = lines_ok c.args.bytes.now c.spelled.result c.spelled.ensures

pub returns-clause-refused : goal.returns-clause-refused
returns-clause-refused c = refused_ok c.args.bytes.now c.spelled.result c.spelled.ensures

pub returns-clause-only : goal.returns-clause-only
returns-clause-only c = answered c.args.bytes.now c.spelled.result c.spelled.ensures

pub returns-clause-again : goal.returns-clause-again
returns-clause-again c = λ journal is e. answered c.args.bytes.now c.spelled.result c.spelled.ensures (Ok journal) (is, e)

pub returns-clause-cut_short : goal.returns-clause-cut_short
returns-clause-cut_short c = λ journal more is some e.
    answered c.args.bytes.now c.spelled.result c.spelled.ensures (Err (Truncated (1 + feeds c.args.bytes.now))) (front_is_cut_short journal c.args.bytes.now more is some e)
