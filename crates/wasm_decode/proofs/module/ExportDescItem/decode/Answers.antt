use Rattle.std.proofs.Common.{ℕ, List}
use Rattle.wasm_types.specs.declared.module.ExportDesc.{ExportDesc}
use Rattle.wasm_types.specs.declared.module.ExportDesc.TheVariants as export
use Rattle.wasm_spec.specs.Numbers.{TakesUnsigned}
use Rattle.wasm_spec.specs.Grammar.{TakesExportDesc}
use Rattle.leb_read.specs.Reading.{rest, TakesByte}
use Rattle.wasm_decode.specs.Pairs.{TakesPair}
use Rattle.instr_decode.proofs.Decoding.{exits-as}
use Rattle.wasm_decode.proofs.module.ExportDescItem.decode.Goals as goal

parts : (d : ExportDesc) (bytes after : List ℕ) → TakesExportDesc d bytes after → (p : ℕ × ℕ) × TakesPair TakesByte (TakesUnsigned 32) p bytes after
parts (export.Func x) bytes after h = ((0, x), (h.0, h.1, h.2))
parts (export.Table x) bytes after h = ((1, x), (h.0, h.1, h.2))
parts (export.Memory x) bytes after h = ((2, x), (h.0, h.1, h.2))
parts (export.Global x) bytes after h = ((3, x), (h.0, h.1, h.2))

pub returns-in_err-kind-clause-read : goal.returns-in_err-kind-clause-read
returns-in_err-kind-clause-read c =
    exits-as (TakesPair TakesByte (TakesUnsigned 32)) TakesExportDesc c.from_residual.result _ (rest c.args.cursor.now) c.in_err-kind.field-0.0 c.from_residual.ensures.1 c.in_err-kind.ensures.read
    (λ d after h. parts d (rest c.args.cursor.now) after h)
