use Rattle.std.proofs.Common.{◌≡◌, ◌*◌, ◌%◌, ◌^◌, arith}
use Rattle.cube_core.proofs.MembersLaws.{shl_few}
use Rattle.cube_core.proofs.WordLaws.{bit-whole, bit-front}
use Rattle.cube_core.proofs.word.below.Goals as goal

pub returns-then-end-start-ge64 : goal.returns-then-end-start-ge64
returns-then-end-start-ge64 c = λ j within.
    let end : 1 * 2 ^ c.args.inputs % 18446744073709551616 ≡ 2 ^ c.args.inputs = omega (arith, shl_few c.args.inputs c.requires.few) in
    bit-whole (64 * c.args.place) (2 ^ c.args.inputs) j (omega arith) within

pub returns-else-end-start-ge64 : goal.returns-else-end-start-ge64
returns-else-end-start-ge64 c = λ j within.
    let end : 1 * 2 ^ c.args.inputs % 18446744073709551616 ≡ 2 ^ c.args.inputs = omega (arith, shl_few c.args.inputs c.requires.few) in
    rw end (bit-front (64 * c.args.place) (2 ^ c.args.inputs) j (omega arith) (omega arith))
