use Rattle.std.proofs.Common.{◌≡◌, ◌+◌, [], ◌∷◌, length, cond, true, inl, inr, refl, ap, sym, ◌∙◌, arith}
use Rattle.pla_reader.specs.Lines.{lines_of, line_length}
use Rattle.pla_reader.specs.Views.{line_of}
use Rattle.pla_reader.specs.State.{state_of}
use Rattle.pla_reader.proofs.ReachLaws.{Reached-none, Reached-more, Reached-last}
use Rattle.pla_reader.proofs.pla.take_lines.Goals as goal
use Rattle.pla_reader.proofs.pla.take_lines.Goals.{then-last-via-then-last, then-last-via-else-last+then-not-line}

pub lines-init : goal.lines-init
lines-init c = Reached-none _ _ c.requires.state c.requires.nothing

pub returns-then-last-clause-ok : goal.returns-then-last-clause-ok
returns-then-last-clause-ok c =
    Reached-last c.args.bytes.now c.lines.rest.now c.line_at.result.1.now c.lines.number _ (state_of c.lines.given) (state_of c.take_line.new.given) (line_of c.line_at.result.0) _ c.lines.invariant c.line_at.ensures.lines c.line_at.ensures.many
    refl
    (elim c.then-last.branch [
      | then-last-via-then-last w ↦ inl (sym c.in_ok-last.ensures.0 ∙ w.if-last.true)
      | then-last-via-else-last+then-not-line w ↦ inr (ap (λ b. cond b (lines_of c.line_at.result.1.now) []) w.if-not-line.true)
    ])
    c.in_ok-last.ensures.1 (c.in_ok-last.ensures.2 _ c.lines.invariant.keeps)

pub lines-preserved : goal.lines-preserved
lines-preserved c =
    let ended : c.line_at.result.0.ended ≡ true = c.if-not-line.false in
    let long : line_length (line_of c.line_at.result.0) ≡ length c.line_at.result.0.text.now + 1 = ap (λ b. length c.line_at.result.0.text.now + cond b 1 0) ended in
    let many = c.line_at.ensures.many in
    Reached-more c.args.bytes.now c.lines.rest.now c.line_at.result.1.now c.lines.number (state_of c.lines.given) (state_of c.take_line.new.given) (line_of c.line_at.result.0) c.lines.invariant
    (c.line_at.ensures.lines ∙ ap (λ b. line_of c.line_at.result.0 ∷ cond b (lines_of c.line_at.result.1.now) []) ended) many (omega (arith, long, many)) (sym c.in_ok-last.ensures.0 ∙ c.if-last.false)
    c.in_ok-last.ensures.1 (c.in_ok-last.ensures.2 _ c.lines.invariant.keeps)
