use Rattle.std.proofs.Common.{◌≢◌, codes, rules}
use Rattle.report_text.proofs.TitleLaws.{no_title}
use Rattle.report_text.proofs.report.version_of.Goals as goal

pub returns : goal.returns
returns c =
    let one : c.args.line.now ≢ codes "lattice report 1" = search rules in
    let two : c.args.line.now ≢ codes "lattice report 2" = search rules in
    no_title c.args.line.now one two
