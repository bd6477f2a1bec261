use Rattle.std.proofs.Common.{refl, arith}
use Rattle.std.specs.Int.{w64}
use Rattle.wasm_numeric.proofs.Quotients.{quotient_given}
use Rattle.wasm_numeric.proofs.i64_operators.i64_div_s.Goals as goal

pub returns-in-Some : goal.returns-in-Some
returns-in-Some c =
    let ((some, fits), is) = c.in-Some.ensures in
    quotient_given w64 c.args.a c.args.b c.cast_unsigned.result c.cast_signed.result c.cast_signed-2.result c.in-Some.quotient refl (omega arith) (omega arith) (omega arith) (omega arith)
    c.cast_signed.ensures c.cast_signed-2.ensures fits is c.cast_unsigned.ensures
