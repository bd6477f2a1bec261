use Rattle.wasm_spec.specs.Numbers.{TakesName}
use Rattle.wasm_spec.specs.Grammar.{TakesImportDesc, TakesImport}
use Rattle.leb_read.specs.Reading.{rest}
use Rattle.wasm_decode.specs.Pairs.{TakesPair}
use Rattle.instr_decode.proofs.Decoding.{exits-as}
use Rattle.wasm_decode.proofs.module.ImportItem.decode.Goals as goal

pub returns-in_err-module_name-clause-read : goal.returns-in_err-module_name-clause-read
returns-in_err-module_name-clause-read c =
    exits-as (TakesPair TakesName (TakesPair TakesName TakesImportDesc)) TakesImport c.from_residual.result _ (rest c.args.cursor.now) c.in_err-module_name.field-0.0 c.from_residual.ensures.1 c.in_err-module_name.ensures.read
    (λ i after h. ((i.module_name, (i.item_name, i.desc)), (h.after_module, h.module_name, (h.after_item, h.item_name, h.desc))))
