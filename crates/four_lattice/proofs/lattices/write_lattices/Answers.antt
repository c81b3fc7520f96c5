use Rattle.pla_reader.specs.Parts.{parts_of}
use Rattle.four_lattice.specs.Lattices.{report_by}
use Rattle.four_lattice.proofs.BlocksLaws.{input_names_are, report-head, report-blocks, report-end, report-whole}
use Rattle.four_lattice.proofs.lattices.write_lattices.Goals as goal

pub returns-in_err-write_head-clause-front : goal.returns-in_err-write_head-clause-front
returns-in_err-write_head-clause-front g c = report-head (report_by c.args.how c.args.output (parts_of c.args.pla.now)) _ _ c.in_err-write_head.ensures.front

pub returns-in_err-write_chosen-clause-front : goal.returns-in_err-write_chosen-clause-front
returns-in_err-write_chosen-clause-front g c =
    report-blocks (report_by c.args.how c.args.output (parts_of c.args.pla.now)) _ _ _ c.in_ok-write_head.ensures.ok c.in_err-write_chosen.ensures.front

pub returns-in_err-write_end-clause-front : goal.returns-in_err-write_end-clause-front
returns-in_err-write_end-clause-front g c =
    report-end (report_by c.args.how c.args.output (parts_of c.args.pla.now)) _ _ _ _ c.in_ok-write_head.ensures.ok c.in_ok-write_chosen.ensures.ok c.in_err-write_end.ensures.front

pub returns-clause-ok : goal.returns-clause-ok
returns-clause-ok g c =
    report-whole (report_by c.args.how c.args.output (parts_of c.args.pla.now)) _ _ _ _ c.in_ok-write_head.ensures.ok c.in_ok-write_chosen.ensures.ok c.in_ok-write_end.ensures.ok

pub returns-clause-front : goal.returns-clause-front
returns-clause-front g c =
    report-end (report_by c.args.how c.args.output (parts_of c.args.pla.now)) _ _ _ _ c.in_ok-write_head.ensures.ok c.in_ok-write_chosen.ensures.ok c.in_ok-write_end.ensures.front

pub write_head-requires-clause-names : goal.write_head-requires-clause-names
write_head-requires-clause-names g c = input_names_are c.args.pla.now c.requires.whole
