use Rattle.std.proofs.Common.{ℕ, ◌-◌, ◌*◌, ◌/◌, ◌%◌, ◌^◌, ◌∙◌, ap, sym}
use Rattle.std.proofs.Math.Nat.{mod-mod}
use Rattle.std.specs.Prelude.{bit_or}
use Rattle.wasm_types.specs.declared.instr.Width.TheVariants.{W64}
use Rattle.wasm_numeric.proofs.StdOperators.{rotl_in_std}
use Rattle.wasm_numeric.proofs.i64_operators.i64_rotl.Goals as goal

pub returns : goal.returns
returns c =
    c.rotate_left.ensures
    ∙ ap (λ (k : ℕ). bit_or (c.args.a * 2 ^ k % 2 ^ 64) (c.args.a / 2 ^ ((64 - k) % 64))) (mod-mod c.args.b 64)
    ∙ sym (rotl_in_std W64 c.args.a c.args.b c.ranges.a.fits)
