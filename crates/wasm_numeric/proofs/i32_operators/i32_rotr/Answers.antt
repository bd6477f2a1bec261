use Rattle.std.proofs.Common.{◌∙◌, sym}
use Rattle.wasm_types.specs.declared.instr.Width.TheVariants.{W32}
use Rattle.wasm_numeric.proofs.StdOperators.{rotr_in_std}
use Rattle.wasm_numeric.proofs.i32_operators.i32_rotr.Goals as goal

pub returns : goal.returns
returns c = c.rotate_right.ensures ∙ sym (rotr_in_std W32 c.args.a c.args.b c.ranges.a.fits)
