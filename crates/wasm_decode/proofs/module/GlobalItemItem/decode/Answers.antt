use Rattle.wasm_spec.specs.TypeGrammar.{TakesGlobalType}
use Rattle.wasm_spec.specs.InstrGrammar.{TakesExpr}
use Rattle.wasm_spec.specs.Grammar.{TakesGlobal}
use Rattle.leb_read.specs.Reading.{rest}
use Rattle.wasm_decode.specs.Pairs.{TakesPair}
use Rattle.instr_decode.proofs.Decoding.{exits-as}
use Rattle.wasm_decode.proofs.module.GlobalItemItem.decode.Goals as goal

pub returns-in_err-global_type-clause-read : goal.returns-in_err-global_type-clause-read
returns-in_err-global_type-clause-read c =
    exits-as (TakesPair TakesGlobalType (TakesExpr c.args.profile)) (TakesGlobal c.args.profile) c.from_residual.result _ (rest c.args.cursor.now) c.in_err-global_type.field-0.0 c.from_residual.ensures.1 c.in_err-global_type.ensures.read
    (λ g after h. ((g.global_type, g.init), (h.mid, h.global_type, h.init)))
