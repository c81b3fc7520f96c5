use Rattle.std.proofs.Common.{arith, sym, subst}
use Rattle.std.proofs.lemmas.Result.{err_from_is_err_and}
use Rattle.journal_text.proofs.CursorLaws.{IsTextOf, reading_room, reading_more, reading_refused, reading_all, passed_shorter}
use Rattle.journal_text.proofs.read.spelled.Goals as goal

pub next-requires : goal.next-requires
next-requires c = reading_room c.args.bytes.now c.loop-parts.reader c.loop-parts.parts.items c.loop-parts.invariant

pub returns-in_err-part : goal.returns-in_err-part
returns-in_err-part c =
    let p = err_from_is_err_and c.from_residual-in_err-part.result c.from_residual-in_err-part.ensures.1 in
    rw (p.1, p.2) (reading_refused c.args.bytes.now c.loop-parts.reader c.loop-parts.parts.items c.in_err-part.field-0.0 c.loop-parts.invariant c.in_err-part.ensures.0)

pub loop-parts-smaller : goal.loop-parts-smaller
loop-parts-smaller c =
    let shorter = passed_shorter c.loop-parts.reader c.next.new.self c.in-Some.part (rw c.in-Some.is at c.in_ok-part.ensures) in
    omega (arith, shorter)

pub loop-parts-preserved : goal.loop-parts-preserved
loop-parts-preserved c =
    reading_more c.args.bytes.now c.loop-parts.reader c.next.new.self c.loop-parts.parts.items c.push.new.self.items c.in-Some.part c.loop-parts.invariant (rw c.in-Some.is at c.in_ok-part.ensures) c.in_ok-push.ensures.items

pub returns : goal.returns
returns c =
    let ends = rw c.in_default.is at c.in_ok-part.ensures in
    let all = reading_all c.args.bytes.now c.loop-parts.reader c.loop-parts.parts.items c.loop-parts.invariant ends.0 in
    subst (λ r. IsTextOf c.args.bytes.now r.version r.rails c.loop-parts.parts.items) (sym ends.1) all
