use Rattle.wasm_spec.specs.Numbers.{TakesUnsigned, TakesBytes}
use Rattle.wasm_spec.specs.InstrGrammar.{TakesExpr}
use Rattle.wasm_spec.specs.Grammar.{TakesData}
use Rattle.leb_read.specs.Reading.{rest}
use Rattle.wasm_decode.specs.Pairs.{TakesPair}
use Rattle.instr_decode.proofs.Decoding.{exits-as}
use Rattle.wasm_decode.proofs.module.DataSegmentItem.decode.Goals as goal

pub returns-in_err-memory-clause-read : goal.returns-in_err-memory-clause-read
returns-in_err-memory-clause-read c =
    exits-as (TakesPair (TakesUnsigned 32) (TakesPair (TakesExpr c.args.profile) TakesBytes)) (TakesData c.args.profile) c.from_residual.result _ (rest c.args.cursor.now) c.in_err-memory.field-0.0 c.from_residual.ensures.1 c.in_err-memory.ensures.read
    (λ d after h. ((d.memory, (d.offset, d.bytes)), (h.after_memory, h.memory, (h.after_offset, h.offset, h.contents))))
