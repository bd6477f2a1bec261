use Rattle.std.proofs.Common.{sym, ◌∙◌, arith}
use Rattle.wasm_validate.proofs.FloatCode.{run_floats}
use Rattle.wasm_validate.proofs.floats.run_has_float.Goals as goal

pub returns-then-run-ne0 : goal.returns-then-run-ne0
returns-then-run-ne0 c = c.is_float.ensures ∙ sym (run_floats c.args.run.now.count c.args.run.now.value (omega (arith, c.if-run-ne0.true)))
