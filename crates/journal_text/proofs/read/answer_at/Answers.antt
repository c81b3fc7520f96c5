use Rattle.journal_text.proofs.PartsLaws.{found_refused, answer_refused, answer_part}
use Rattle.journal_text.proofs.read.answer_at.Goals as goal

pub returns-then-says_found : goal.returns-then-says_found
returns-then-says_found c = found_refused c.args.version c.args.bytes.now c.args.text.now c.requires.first.0 c.args.line c.requires.first.1 c.requires.lead (rw c.if-says_found.true at c.says_found.ensures)

pub returns-in-Err : goal.returns-in-Err
returns-in-Err c =
    answer_refused c.args.version c.args.bytes.now c.args.text.now c.requires.first.0 c.args.line c.in-Err.fault c.refused.result c.requires.first.1 c.requires.lead (rw c.if-says_found.false at c.says_found.ensures) c.in-Err.ensures.fault c.refused.ensures

pub returns-in-Ok : goal.returns-in-Ok
returns-in-Ok c =
    answer_part c.args.version c.args.bytes.now c.args.text.now c.requires.first.0 c.args.line c.in-Ok.after c.lines.result c.in-Ok.block c.requires.first.1 (rw c.if-says_found.false at c.says_found.ensures) c.in-Ok.ensures.found c.lines.ensures.count
