use Rattle.std.proofs.Common.{◌≢◌, codes, rules}
use Rattle.journal_text.proofs.ReadLaws.{no_title}
use Rattle.journal_text.proofs.reader.title_of.Goals as goal

pub returns : goal.returns
returns c =
    let one : c.args.line.now ≢ codes "lattice journal 1" = search rules in
    let two : c.args.line.now ≢ codes "lattice journal 2" = search rules in
    no_title c.args.line.now one two
