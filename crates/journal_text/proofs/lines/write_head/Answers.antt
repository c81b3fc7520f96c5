use Rattle.std.proofs.Common.{◌≡◌, ℕ, List, subst, rules}
use Rattle.std.specs.Prelude.{OnOk}
use Rattle.std.specs.Fmt.{decimal}
use Rattle.wire_io.specs.Told.{Gains}
use Rattle.journal_text.proofs.TextLaws.{head_joined}
use Rattle.journal_text.proofs.lines.write_head.Goals as goal

pub returns-clause-ok : goal.returns-clause-ok
returns-clause-ok g c =
    let number : c.as_bytes-number.result.now ≡ decimal c.args.rails = search rules in
    subst (λ (z : List ℕ). OnOk c.write_pieces.result (Gains (g.K.Sink.got c.args.sink.now) (g.K.Sink.got c.write_pieces.new.sink) z)) (head_joined c.args.rails c.as_bytes-number.result.now number) c.write_pieces.ensures.ok
