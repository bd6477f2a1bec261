use Rattle.std.proofs.Common.{◌+◌, ◌-◌, ◌*◌, arith}
use Rattle.std.specs.Prelude.{slice_index_or}
use Rattle.leb_read.proofs.Powers.{wide, fits}
use Rattle.leb_read.proofs.items.+read_unsigned.Goals as goal

pub overflow_mul-result : goal.overflow_mul-result
overflow_mul-result t c =
    let b = slice_index_or c.args.bytes.now 0 0 in
    let w = wide c.args.bits c.in-Some.high b (omega arith) c.in-Some.ensures.small (omega (arith, c.type_inv.bytes 0)) in
    omega (arith, fits c.args.bits (128 * c.in-Some.high + (b - 128)) c.requires w)

pub overflow_add-result : goal.overflow_add-result
overflow_add-result t c =
    let b = slice_index_or c.args.bytes.now 0 0 in
    let w = wide c.args.bits c.in-Some.high b (omega arith) c.in-Some.ensures.small (omega (arith, c.type_inv.bytes 0)) in
    omega (arith, fits c.args.bits (128 * c.in-Some.high + (b - 128)) c.requires w)

pub returns-in-Some-clause-small : goal.returns-in-Some-clause-small
returns-in-Some-clause-small t c =
    wide c.args.bits c.in-Some.high c.from-byte.result (omega arith) c.in-Some.ensures.small (omega (arith, c.type_inv.bytes 0, c.from-byte.ensures))
