use Rattle.std.proofs.Common.{◌≡◌, ℕ, List, ◌∷◌, ap, ◌∙◌, subst, arith}
use Rattle.wasm_types.specs.declared.types.Limits.{Limits}
use Rattle.wasm_types.specs.declared.module.ImportDesc.{ImportDesc}
use Rattle.wasm_types.specs.declared.module.ImportDesc.TheVariants as import
use Rattle.wasm_spec.specs.TypeGrammar.{TakesTableType}
use Rattle.wasm_spec.specs.Grammar.{TakesImportDesc}
use Rattle.wasm_spec.proofs.UnambiguousNumbers.{same_first, same_others}
use Rattle.leb_read.specs.Reading.{rest}
use Rattle.instr_decode.proofs.Decoding.{exits, begins-through}
use Rattle.wasm_decode.proofs.module.ImportDescItem.decode.Goals as goal

table-is : (d : ImportDesc) (bytes a after : List ℕ) → bytes ≡ 1 ∷ a → TakesImportDesc d bytes after → (t : Limits) × TakesTableType t a after
table-is (import.Table t) bytes a after e h = (t, subst (λ (l : List ℕ). TakesTableType t l after) (same_others h.1 e) h.2)
table-is (import.Func x) bytes a after e h = absurd (omega (arith, same_first e h.1))
table-is (import.Memory m) bytes a after e h = absurd (omega (arith, same_first e h.1))
table-is (import.Global g) bytes a after e h = absurd (omega (arith, same_first e h.1))

pub returns-in_err-table-in-1-clause-read : goal.returns-in_err-table-in-1-clause-read
returns-in_err-table-in-1-clause-read c =
    let e : rest c.args.cursor.now ≡ 1 ∷ rest c.u8.new.self = c.in_ok-kind.ensures.spelled ∙ ap (λ (n : ℕ). n ∷ rest c.u8.new.self) (omega arith) in
    exits c.from_residual-in_err-table-in-1.result _ _ c.in_err-table-in-1.field-0.0 c.from_residual-in_err-table-in-1.ensures.1
    (begins-through TakesTableType TakesImportDesc (rest c.u8.new.self) (rest c.args.cursor.now) c.in_err-table-in-1.field-0.0 c.in_err-table-in-1.ensures.read
    (λ d after h. let t = table-is d (rest c.args.cursor.now) (rest c.u8.new.self) after e h in (t.0, after, t.1)))
