use Rattle.std.proofs.Common.{◌≡◌, ◌∙◌, ap, sym, arith, length, true, false}
use Rattle.report_text.specs.Form.{form_of, lists}
use Rattle.report_text.specs.Report.{parts_of_block, proofs_lines}
use Rattle.report_text.proofs.LinesLaws.{length-block_lines}
use Rattle.report_text.proofs.answer.Block.lines.Goals as goal
use Rattle.report_text.proofs.answer.Block.lines.Goals.{then-lists_proofs, else-lists_proofs}

pub returns-clause-count : goal.returns-clause-count
returns-clause-count c =
    let all = length-block_lines c.args.version (parts_of_block c.args.self.now) in
    let rows = c.rows.ensures.count in
    elim c.if-lists_proofs.branch [
      | then-lists_proofs w ↦
          let one : length (proofs_lines (lists c.args.version (form_of c.args.self.now.answer)) c.args.self.now.proofs.items) ≡ 1 = ap (λ b. length (proofs_lines b c.args.self.now.proofs.items)) (sym c.lists_proofs.ensures ∙ w.if-lists_proofs.true) in
          let is = w.proofs-is in
          omega (arith, all, rows, one, is)
      | else-lists_proofs w ↦
          let none : length (proofs_lines (lists c.args.version (form_of c.args.self.now.answer)) c.args.self.now.proofs.items) ≡ 0 = ap (λ b. length (proofs_lines b c.args.self.now.proofs.items)) (sym c.lists_proofs.ensures ∙ w.if-lists_proofs.false) in
          let is = w.proofs-is in
          omega (arith, all, rows, none, is)
    ]
