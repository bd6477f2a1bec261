use Rattle.wasm_spec.specs.Numbers.{TakesUnsigned}
use Rattle.wasm_spec.specs.TypeGrammar.{TakesValType}
use Rattle.wasm_spec.specs.Grammar.{TakesLocalRun}
use Rattle.leb_read.specs.Reading.{rest}
use Rattle.wasm_decode.specs.Pairs.{TakesPair}
use Rattle.instr_decode.proofs.Decoding.{exits-as}
use Rattle.wasm_decode.proofs.function.LocalRunItem.decode.Goals as goal

pub returns-in_err-count-clause-read : goal.returns-in_err-count-clause-read
returns-in_err-count-clause-read c =
    exits-as (TakesPair (TakesUnsigned 32) TakesValType) TakesLocalRun c.from_residual.result _ (rest c.args.cursor.now) c.in_err-count.field-0.0 c.from_residual.ensures.1 c.in_err-count.ensures.read
    (λ run after h. ((run.count, run.value), (h.mid, h.count, h.value)))
