use Rattle.std.proofs.Common.{◌≡◌, ◌-◌, ◌+ℤ◌, ◌*ℤ◌, pos, arith, ℤ, to_z, of_z, w64}
use Rattle.std.proofs.lemmas.Int.{ints}
use Rattle.std.specs.Prelude.{slice_index_or}
use Rattle.leb_read.proofs.Powers.{halves, half_fits}
use Rattle.leb_read.proofs.Tails.{signed_next}
use Rattle.leb_read.proofs.items.+read_signed.Goals as goal

pub overflow_mul-result : goal.overflow_mul-result
overflow_mul-result t c =
    omega (arith, ints, halves c.args.bits c.if-bits-gt7.true, half_fits c.args.bits c.requires.most, c.in-Some.ensures.low, c.in-Some.ensures.high)

pub returns-in-Some-clause-low : goal.returns-in-Some-clause-low
returns-in-Some-clause-low t c =
    omega (arith, ints, halves c.args.bits c.if-bits-gt7.true, half_fits c.args.bits c.requires.most, c.in-Some.ensures.low, c.in-Some.ensures.high, c.from-in-Some.ensures, c.type_inv.bytes 0)

pub returns-in-Some-clause-high : goal.returns-in-Some-clause-high
returns-in-Some-clause-high t c =
    omega (arith, ints, halves c.args.bits c.if-bits-gt7.true, half_fits c.args.bits c.requires.most, c.in-Some.ensures.low, c.in-Some.ensures.high, c.from-in-Some.ensures, c.type_inv.bytes 0)

pub returns-in-Some-clause-reads : goal.returns-in-Some-clause-reads
returns-in-Some-clause-reads t c =
    let z : ℤ = to_z w64 (of_z w64 (to_z w64 (of_z w64 (pos 128 *ℤ to_z w64 (of_z w64 c.in-Some.high))) +ℤ to_z w64 (of_z w64 c.from-in-Some.result))) in
    let b = slice_index_or c.args.bytes.now 0 0 in
    let e : z ≡ (pos 128 *ℤ c.in-Some.high) +ℤ pos (b - 128) =
    omega (arith, ints, halves c.args.bits c.if-bits-gt7.true, half_fits c.args.bits c.requires.most, c.in-Some.ensures.low, c.in-Some.ensures.high, c.from-in-Some.ensures, c.type_inv.bytes 0) in
    signed_next c.args.bits c.in-Some.high z c.args.bytes.now c.in-Some.rest.now (omega arith) (omega arith) c.if-bits-gt7.true c.in-Some.ensures.reads e
