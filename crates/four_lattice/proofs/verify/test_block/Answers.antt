use Rattle.pla_reader.specs.Parts.{parts_of}
use Rattle.report_text.specs.Report.{parts_of_block}
use Rattle.four_lattice.proofs.VerifiedLaws.{on_ok_both, if_err_more, lattice_refused}
use Rattle.four_lattice.proofs.verify.test_block.Goals as goal

pub returns-clause-right : goal.returns-clause-right
returns-clause-right c =
    on_ok_both c.test_lattice.result (λ over realises version. record { function = c.in-Some.spec.now; of_output = c.in-Some.ensures; over = over; realises = realises })
    c.test_lattice.ensures.over c.test_lattice.ensures.realises

pub returns-clause-refused : goal.returns-clause-refused
returns-clause-refused c =
    if_err_more c.test_lattice.result
    (λ refusal refused version. lattice_refused (record { parts = parts_of c.args.pla.now; version = version; rails = c.args.rails }) c.args.least c.args.line (parts_of_block c.args.block.now) c.in-Some.spec.now
    c.in-Some.ensures refusal refused) c.test_lattice.ensures.refused
