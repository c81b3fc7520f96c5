use Rattle.std.proofs.Common.{◌≡◌, length, sym, ◌∙◌, ◌+◌, arith}
use Rattle.pla_reader.proofs.LinesLaws.{lines_of-ended, lines_of-rest, rest_of}
use Rattle.pla_reader.proofs.line.line_at.Goals as goal

pub returns-then-place-bytes-clause-lines : goal.returns-then-place-bytes-clause-lines
returns-then-place-bytes-clause-lines c =
    rw (rest_of c.args.bytes.now (c.place_of-place.result + 1)) (lines_of-ended c.args.bytes.now c.place_of-place.result c.place_of-place.ensures.same c.if-place-bytes.true)

pub returns-else-place-bytes-clause-lines : goal.returns-else-place-bytes-clause-lines
returns-else-place-bytes-clause-lines c =
    let whole : c.place_of-place.result ≡ length c.args.bytes.now = omega (arith, c.place_of-place.ensures.within) in
    lines_of-rest c.args.bytes.now (sym c.place_of-place.ensures.same ∙ whole)
