use Rattle.std.proofs.Common.{refl, ◌∷◌}
use Rattle.wasm_spec.specs.TypeGrammar.{TakesValType, mutability_byte, TakesGlobalType}
use Rattle.leb_read.specs.Reading.{rest, TakesByte}
use Rattle.wasm_decode.specs.Pairs.{TakesPair}
use Rattle.instr_decode.proofs.Decoding.{exits-as}
use Rattle.wasm_decode.proofs.types.GlobalTypeItem.decode.Goals as goal

pub returns-in_err-value-clause-read : goal.returns-in_err-value-clause-read
returns-in_err-value-clause-read c =
    exits-as (TakesPair TakesValType TakesByte) TakesGlobalType c.from_residual.result _ (rest c.args.cursor.now) c.in_err-value.field-0.0 c.from_residual.ensures.1 c.in_err-value.ensures.read
    (λ g after h. ((g.value, mutability_byte g.mutable), (mutability_byte g.mutable ∷ after, h, refl)))
