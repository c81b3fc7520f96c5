use Rattle.std.proofs.Common.{refl, ap, sym, ◌∙◌, length}
use Rattle.std.proofs.lemmas.Bool.{eqb-false}
use Rattle.journal_text.proofs.CursorLaws.{trailing}
use Rattle.journal_text.proofs.reader.Reader.next.Goals as goal

pub returns-else-is_empty : goal.returns-else-is_empty
returns-else-is_empty c = (
  trailing c.args.self.now.version c.args.self.now.rest.now c.in-End.more.now c.args.self.now.line (rw c.in-End.is at c.in-Ok.ensures)
      (λ e. eqb-false (length c.in-End.more.now) 0 (sym c.is_empty.ensures ∙ c.if-is_empty.false) (ap length e)),
  refl,
)
