use Rattle.std.proofs.Common.{[], ◌∷◌, ◌++◌, refl, arith}
use Rattle.std.proofs.lemmas.Result.{err_from_is_err_and}
use Rattle.journal_text.proofs.CursorLaws.{passed_more, passed_room, passed_shorter, passed_refused}
use Rattle.journal_text.proofs.reader.Reader.finish.Goals as goal

pub next-requires : goal.next-requires
next-requires c = passed_room c.args.self.now c.loop-part.left c.loop-part.invariant.0 c.loop-part.invariant.1 c.requires

pub loop-part-smaller : goal.loop-part-smaller
loop-part-smaller c = let shorter = passed_shorter c.loop-part.left c.next.new.self c.in-Some._part (rw c.in-Some.is at c.in_ok-_part.ensures) in omega (arith, shorter)

pub loop-part-preserved : goal.loop-part-preserved
loop-part-preserved c =
    (c.loop-part.invariant.0 ++ c.in-Some._part ∷ [], passed_more c.args.self.now c.loop-part.left c.next.new.self c.loop-part.invariant.0 (c.loop-part.invariant.0 ++ c.in-Some._part ∷ []) c.in-Some._part c.loop-part.invariant.1 (rw c.in-Some.is at c.in_ok-_part.ensures) refl)

pub loop-part-smaller-in-Some : goal.loop-part-smaller-in-Some
loop-part-smaller-in-Some c = let shorter = passed_shorter c.loop-part.left c.next.new.self c.in-Some._part (rw c.in-Some.is at c.in_ok-_part.ensures) in omega (arith, shorter)

pub loop-part-preserved-in-Some : goal.loop-part-preserved-in-Some
loop-part-preserved-in-Some c =
    (c.loop-part.invariant.0 ++ c.in-Some._part ∷ [], passed_more c.args.self.now c.loop-part.left c.next.new.self c.loop-part.invariant.0 (c.loop-part.invariant.0 ++ c.in-Some._part ∷ []) c.in-Some._part c.loop-part.invariant.1 (rw c.in-Some.is at c.in_ok-_part.ensures) refl)

pub returns-in_err-_part : goal.returns-in_err-_part
returns-in_err-_part c =
    let p = err_from_is_err_and c.from_residual.result c.from_residual.ensures.1 in
    rw (p.1, p.2) (passed_refused c.args.self.now c.loop-part.left c.loop-part.invariant.0 c.in_err-_part.field-0.0 c.loop-part.invariant.1 c.in_err-_part.ensures.0)
