use Rattle.wasm_spec.specs.Numbers.{TakesName}
use Rattle.wasm_spec.specs.Grammar.{TakesExportDesc, TakesExport}
use Rattle.leb_read.specs.Reading.{rest}
use Rattle.wasm_decode.specs.Pairs.{TakesPair}
use Rattle.instr_decode.proofs.Decoding.{exits-as}
use Rattle.wasm_decode.proofs.module.ExportItem.decode.Goals as goal

pub returns-in_err-name-clause-read : goal.returns-in_err-name-clause-read
returns-in_err-name-clause-read c =
    exits-as (TakesPair TakesName TakesExportDesc) TakesExport c.from_residual.result _ (rest c.args.cursor.now) c.in_err-name.field-0.0 c.from_residual.ensures.1 c.in_err-name.ensures.read
    (λ e after h. ((e.name, e.desc), (h.mid, h.name, h.desc)))
