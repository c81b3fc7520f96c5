use Rattle.std.proofs.Common.{◌≡◌, map, refl, arith, rules}
use Rattle.pla_reader.specs.Parts.{parts_of}
use Rattle.journal_text.specs.Parts.{part_of}
use Rattle.journal_text.proofs.Tools.{passed_shorter}
use Rattle.audit_core.proofs.TextLaws.{auditing_begun, auditing_room, auditing_few, auditing_all, auditing_refused, auditing_more, passed_room, stops_behind}
use Rattle.audit_core.proofs.text.audit_text.Goals as goal

pub loop-ahead-init : goal.loop-ahead-init
loop-ahead-init c =
    let rails : c.in-Ok.reader.rails ≡ c.unwrap-rails.result = search rules in
    let outputs : (parts_of c.args.pla.now).outputs ≡ c.len.result = (let len = c.len.ensures in let whole = c.args.pla.now.specs.ok.0 in let many = c.requires.pla.functions in omega (arith, len, whole, many)) in
    auditing_begun _ c.args.text.now c.in-Ok.reader c.in-Ok-new.seen c.in-Ok.ensures refl rails (c.in-Ok-new.ensures _ outputs)

pub next-requires : goal.next-requires
next-requires c = auditing_room _ c.args.text.now c.loop-ahead.reader c.loop-ahead.seen c.loop-ahead.invariant

pub returns-in-Err-next-clause-refused : goal.returns-in-Err-next-clause-refused
returns-in-Err-next-clause-refused c = λ other. auditing_refused _ c.args.text.now c.loop-ahead.reader c.loop-ahead.seen c.in-Err-next.refusal c.loop-ahead.invariant c.in-Err-next.ensures.0 other

pub returns-in_default-clause-confirmed : goal.returns-in_default-clause-confirmed
returns-in_default-clause-confirmed c =
    let ends = rw c.in_default.is at c.in-Ok-next.ensures in
    auditing_all _ c.args.text.now c.loop-ahead.reader c.loop-ahead.seen (parts_of c.args.pla.now) c.loop-ahead.invariant refl ends.0

pub pass-requires-clause-few : goal.pass-requires-clause-few
pass-requires-clause-few c = auditing_few _ c.args.text.now c.loop-ahead.reader c.loop-ahead.seen c.loop-ahead.invariant

pub refused_behind-requires : goal.refused_behind-requires
refused_behind-requires c =
    passed_room _ c.args.text.now c.loop-ahead.reader c.next.new.self c.loop-ahead.seen c.in-Some.part c.loop-ahead.invariant (rw c.in-Some.is at c.in-Ok-next.ensures) c.requires.few

pub returns-in-Err-pass-clause-refused : goal.returns-in-Err-pass-clause-refused
returns-in-Err-pass-clause-refused c =
    stops_behind _ c.args.text.now c.loop-ahead.reader c.next.new.self c.loop-ahead.seen c.in-Some.part c.loop-ahead.invariant (rw c.in-Some.is at c.in-Ok-next.ensures) c.requires.few c.in-Err-pass.refusal c.refused_behind.result
    (parts_of c.args.pla.now) refl (λ other. c.in-Err-pass.ensures.refused other (map part_of c.loop-ahead.invariant.parts) c.loop-ahead.invariant.right) c.refused_behind.ensures

pub loop-ahead-smaller : goal.loop-ahead-smaller
loop-ahead-smaller c =
    let shorter = passed_shorter c.loop-ahead.reader c.next.new.self c.in-Some.part (rw c.in-Some.is at c.in-Ok-next.ensures) in
    omega (arith, shorter)

pub loop-ahead-preserved : goal.loop-ahead-preserved
loop-ahead-preserved c =
    auditing_more _ c.args.text.now c.loop-ahead.reader c.next.new.self c.loop-ahead.seen c.in-Some.part c.loop-ahead.invariant (rw c.in-Some.is at c.in-Ok-next.ensures) c.requires.few c.pass.new.seen
    (c.in_default-pass.ensures.ok (map part_of c.loop-ahead.invariant.parts) c.loop-ahead.invariant.right)
