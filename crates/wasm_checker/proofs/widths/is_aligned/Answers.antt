use Rattle.std.proofs.Common.{◌^◌, ◌≤◌, sym, arith}
use Rattle.std.proofs.Math.Pow.{pow_mono}
use Rattle.std.proofs.lemmas.Bool.{lt-leb}
use Rattle.wasm_checker.proofs.widths.is_aligned.Goals as goal

pub returns-else-align-lt4 : goal.returns-else-align-lt4
returns-else-align-lt4 c =
    let wide : 2 ^ 4 ≤ 2 ^ c.args.align = pow_mono c.if-align-lt4.false in
    sym (lt-leb (2 ^ c.args.align) c.args.bytes (omega (arith, wide, c.requires)))
