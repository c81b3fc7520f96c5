use Rattle.pla_reader.specs.Names.{bytes_of}
use Rattle.report_text.proofs.PutLaws.{puts_as, undecided_text}
use Rattle.report_text.proofs.write.put_heading.Goals as goal

pub returns-in-Undecided : goal.returns-in-Undecided
returns-in-Undecided g c =
    let b = c.args.block.now in
    let u = c.in-Undecided in
    puts_as _ _ _ _ _ _ _ _ _ (undecided_text b.output c.bytes.result.now (bytes_of b.name) c.shape-in-Undecided.result u.grid u.least u.at u.after b.answer c.bytes.ensures.same c.shape-in-Undecided.ensures u.is) c.put_line-in-Undecided.ensures
