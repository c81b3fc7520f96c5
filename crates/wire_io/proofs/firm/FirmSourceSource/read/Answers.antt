use Rattle.std.proofs.Common.{◌≡◌, ◌+◌, ◌-◌, length, drop, take, arith, ap, ◌∙◌, length-take}
use Rattle.wire_io.specs.Laws.{piece-append-left}
use Rattle.wire_io.proofs.firm.FirmSourceSource.read.Goals as goal

pub returns-clause-taken : goal.returns-clause-taken
returns-clause-taken c =
    let after = c.copy_from_slice.ensures.after in
    let value = c.deref.ensures.value in
    let many : length c.copy_from_slice.new.self ≡ c.min-count.result = omega (arith, c.copy_from_slice.ensures.len, length-take c.min-count.result c.args.buf.now) in
    piece-append-left c.args.self.now.bytes.items c.copy_from_slice.new.self (drop c.min-count.result c.args.buf.now) c.args.self.now.taken c.min-count.result
    (after ∙ ap (λ w. take (c.args.self.now.taken + c.min-count.result - c.args.self.now.taken) (drop c.args.self.now.taken w)) value) many
