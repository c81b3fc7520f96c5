use Rattle.std.proofs.Common.{◌<◌, arith}
use Rattle.pla_reader.proofs.NumberLaws.{small_step, value_step}
use Rattle.pla_reader.proofs.number.value_of.Goals as goal

pub overflow_mul-value : goal.overflow_mul-value
overflow_mul-value c =
    let few : c.loop-digit.digit-index < 9 = let many = c.requires.few in let here = c.loop-digit-test.true in omega arith in
    let step = (small_step c.loop-digit.digit-index c.loop-digit.value 0 few c.loop-digit.invariant.small (omega arith)).1 in
    omega (arith, step)

pub overflow_add-value : goal.overflow_add-value
overflow_add-value c =
    let few : c.loop-digit.digit-index < 9 = let many = c.requires.few in let here = c.loop-digit-test.true in omega arith in
    let digit = c.requires.digits c.loop-digit.digit-index 0 c.loop-digit-test.true in
    let is = c.from.ensures in
    let step = (small_step c.loop-digit.digit-index c.loop-digit.value c.from.result few c.loop-digit.invariant.small (omega (arith, is, digit))).1 in
    omega (arith, step)

pub loop-digit-preserved : goal.loop-digit-preserved
loop-digit-preserved c =
    let few : c.loop-digit.digit-index < 9 = let many = c.requires.few in let here = c.loop-digit-test.true in omega arith in
    let digit = c.requires.digits c.loop-digit.digit-index 0 c.loop-digit-test.true in
    let is = c.from.ensures in
    record {
      value = value_step c.args.word.now c.loop-digit.digit-index c.loop-digit.value c.from.result c.loop-digit-test.true digit c.loop-digit.invariant.value is;
      small = (small_step c.loop-digit.digit-index c.loop-digit.value c.from.result few c.loop-digit.invariant.small (omega (arith, is, digit))).0;
    }
