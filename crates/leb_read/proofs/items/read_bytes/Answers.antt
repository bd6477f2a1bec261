use Rattle.std.proofs.Common.{length, ap, arith, length-append}
use Rattle.wasm_spec.proofs.UnambiguousNumbers.{unsigned-unique}
use Rattle.leb_read.proofs.items.read_bytes.Goals as goal

pub returns-else-count-rest : goal.returns-else-count-rest
returns-else-count-rest c xs rest h =
    let u = unsigned-unique 32 (length xs) c.in_ok-count.count c.args.bytes.now h.mid c.in_ok-count.rest.now h.count c.in_ok-count.ensures.reads in
    omega (arith, u.0, ap length u.1, ap length h.items, length-append xs rest, c.if-count-rest.false)
