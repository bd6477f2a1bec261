use Rattle.wasm_spec.specs.TypeGrammar.{TakesLimits, TakesTableType}
use Rattle.leb_read.specs.Reading.{rest, TakesByte}
use Rattle.wasm_decode.specs.Pairs.{TakesPair}
use Rattle.instr_decode.proofs.Decoding.{exits-as}
use Rattle.wasm_decode.proofs.types.TableTypeItem.decode.Goals as goal

pub returns-in_err-tag-clause-read : goal.returns-in_err-tag-clause-read
returns-in_err-tag-clause-read c =
    exits-as (TakesPair TakesByte TakesLimits) TakesTableType c.from_residual.result _ (rest c.args.cursor.now) c.in_err-tag.field-0.0 c.from_residual.ensures.1 c.in_err-tag.ensures.read
    (λ l after h. ((0x70, l), (h.0, h.1, h.2)))
