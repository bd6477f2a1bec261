-- How the logic stores a module, and what lies in a slot. It says nothing of them: a value that contracts see needs a code.
use Rattle.std.proofs.Common.{◌≡◌, ◌≢◌, ℕ, Bool, List, Option, refl, ap, arith}
use Rattle.std.specs.Coded.{Coded, code_by, coded×, coded_ℕ, coded_bool, coded_list, coded_option}
use base.Stored.{Gv, gnil, gnum, gcons}
use Rattle.wasm_types.specs.declared.types.FuncType.{FuncType}
use Rattle.wasm_types.specs.declared.types.ValType.{ValType}
use Rattle.wasm_types.specs.declared.types.Limits.{Limits}
use Rattle.wasm_types.specs.declared.types.GlobalType.{GlobalType}
use Rattle.wasm_types.specs.declared.module.Import.{Import}
use Rattle.wasm_types.specs.declared.module.Export.{Export}
use Rattle.wasm_types.specs.contracts.types.FuncType as function_type
use Rattle.wasm_types.specs.contracts.types.ValType as value_type
use Rattle.wasm_types.specs.contracts.types.Limits as limits
use Rattle.wasm_types.specs.contracts.types.GlobalType as global_type
use Rattle.wasm_types.specs.contracts.module.Import as import_
use Rattle.wasm_types.specs.contracts.module.Export as export_
use Rattle.wasm_types.specs.contracts.module.Module as module_
use Rattle.wasm_types.specs.declared.module.Module.{Module}
use Rattle.wasm_types.specs.contracts.instr.Instr as instruction
use Rattle.wasm_types.specs.Tree.{Code, End, Plain, Block, Loop, If, Call, CallIndirect, FunctionTree, GlobalTree, ElementTree, DataTree, ModuleTree}
use Rattle.pool_model.specs.Contents.{Named, MemoryContents, TableContents}

abbrev head : Gv → Gv
head gnil = gnil
head (gnum n) = gnil
head (gcons a b) = a

abbrev tail : Gv → Gv
tail gnil = gnil
tail (gnum n) = gnil
tail (gcons a b) = b

abbrev tag : Gv → ℕ
tag gnil = 0
tag (gnum n) = n
tag (gcons a b) = tag a

apart : (m n : ℕ) {a b : Gv} → gcons (gnum m) a ≡ gcons (gnum n) b → m ≢ n → ⊥
apart m n p other = other (ap tag p)

-- ---- code

abbrev coded_result_type : Coded (Option ValType)
coded_result_type = coded_option value_type.the_row.coded

abbrev code_code : Code → Gv
code_code End = gcons (gnum 0) gnil
code_code (Plain i r) = gcons (gnum 1) (gcons (instruction.the_row.coded.code i) (code_code r))
code_code (Block t b r) = gcons (gnum 2) (gcons (coded_result_type.code t) (gcons (code_code b) (code_code r)))
code_code (Loop t b r) = gcons (gnum 3) (gcons (coded_result_type.code t) (gcons (code_code b) (code_code r)))
code_code (If t a b r) = gcons (gnum 4) (gcons (coded_result_type.code t) (gcons (code_code a) (gcons (code_code b) (code_code r))))
code_code (Call x r) = gcons (gnum 5) (gcons (coded_ℕ.code x) (code_code r))
code_code (CallIndirect x r) = gcons (gnum 6) (gcons (coded_ℕ.code x) (code_code r))

pub code_inj : (x y : Code) → code_code x ≡ code_code y → x ≡ y
code_inj End End p = refl
code_inj End (Plain b0 b1) p = absurd (apart 0 1 p (omega arith))
code_inj End (Block b0 b1 b2) p = absurd (apart 0 2 p (omega arith))
code_inj End (Loop b0 b1 b2) p = absurd (apart 0 3 p (omega arith))
code_inj End (If b0 b1 b2 b3) p = absurd (apart 0 4 p (omega arith))
code_inj End (Call b0 b1) p = absurd (apart 0 5 p (omega arith))
code_inj End (CallIndirect b0 b1) p = absurd (apart 0 6 p (omega arith))
code_inj (Plain a0 a1) End p = absurd (apart 1 0 p (omega arith))
code_inj (Plain a0 a1) (Plain b0 b1) p = λ i. Plain (instruction.the_row.coded.inj a0 b0 (ap (λ g. head (tail g)) p) i) (code_inj a1 b1 (ap (λ g. tail (tail g)) p) i)
code_inj (Plain a0 a1) (Block b0 b1 b2) p = absurd (apart 1 2 p (omega arith))
code_inj (Plain a0 a1) (Loop b0 b1 b2) p = absurd (apart 1 3 p (omega arith))
code_inj (Plain a0 a1) (If b0 b1 b2 b3) p = absurd (apart 1 4 p (omega arith))
code_inj (Plain a0 a1) (Call b0 b1) p = absurd (apart 1 5 p (omega arith))
code_inj (Plain a0 a1) (CallIndirect b0 b1) p = absurd (apart 1 6 p (omega arith))
code_inj (Block a0 a1 a2) End p = absurd (apart 2 0 p (omega arith))
code_inj (Block a0 a1 a2) (Plain b0 b1) p = absurd (apart 2 1 p (omega arith))
code_inj (Block a0 a1 a2) (Block b0 b1 b2) p = λ i. Block (coded_result_type.inj a0 b0 (ap (λ g. head (tail g)) p) i) (code_inj a1 b1 (ap (λ g. head (tail (tail g))) p) i) (code_inj a2 b2 (ap (λ g. tail (tail (tail g))) p) i)
code_inj (Block a0 a1 a2) (Loop b0 b1 b2) p = absurd (apart 2 3 p (omega arith))
code_inj (Block a0 a1 a2) (If b0 b1 b2 b3) p = absurd (apart 2 4 p (omega arith))
code_inj (Block a0 a1 a2) (Call b0 b1) p = absurd (apart 2 5 p (omega arith))
code_inj (Block a0 a1 a2) (CallIndirect b0 b1) p = absurd (apart 2 6 p (omega arith))
code_inj (Loop a0 a1 a2) End p = absurd (apart 3 0 p (omega arith))
code_inj (Loop a0 a1 a2) (Plain b0 b1) p = absurd (apart 3 1 p (omega arith))
code_inj (Loop a0 a1 a2) (Block b0 b1 b2) p = absurd (apart 3 2 p (omega arith))
code_inj (Loop a0 a1 a2) (Loop b0 b1 b2) p = λ i. Loop (coded_result_type.inj a0 b0 (ap (λ g. head (tail g)) p) i) (code_inj a1 b1 (ap (λ g. head (tail (tail g))) p) i) (code_inj a2 b2 (ap (λ g. tail (tail (tail g))) p) i)
code_inj (Loop a0 a1 a2) (If b0 b1 b2 b3) p = absurd (apart 3 4 p (omega arith))
code_inj (Loop a0 a1 a2) (Call b0 b1) p = absurd (apart 3 5 p (omega arith))
code_inj (Loop a0 a1 a2) (CallIndirect b0 b1) p = absurd (apart 3 6 p (omega arith))
code_inj (If a0 a1 a2 a3) End p = absurd (apart 4 0 p (omega arith))
code_inj (If a0 a1 a2 a3) (Plain b0 b1) p = absurd (apart 4 1 p (omega arith))
code_inj (If a0 a1 a2 a3) (Block b0 b1 b2) p = absurd (apart 4 2 p (omega arith))
code_inj (If a0 a1 a2 a3) (Loop b0 b1 b2) p = absurd (apart 4 3 p (omega arith))
code_inj (If a0 a1 a2 a3) (If b0 b1 b2 b3) p = λ i. If (coded_result_type.inj a0 b0 (ap (λ g. head (tail g)) p) i) (code_inj a1 b1 (ap (λ g. head (tail (tail g))) p) i) (code_inj a2 b2 (ap (λ g. head (tail (tail (tail g)))) p) i) (code_inj a3 b3 (ap (λ g. tail (tail (tail (tail g)))) p) i)
code_inj (If a0 a1 a2 a3) (Call b0 b1) p = absurd (apart 4 5 p (omega arith))
code_inj (If a0 a1 a2 a3) (CallIndirect b0 b1) p = absurd (apart 4 6 p (omega arith))
code_inj (Call a0 a1) End p = absurd (apart 5 0 p (omega arith))
code_inj (Call a0 a1) (Plain b0 b1) p = absurd (apart 5 1 p (omega arith))
code_inj (Call a0 a1) (Block b0 b1 b2) p = absurd (apart 5 2 p (omega arith))
code_inj (Call a0 a1) (Loop b0 b1 b2) p = absurd (apart 5 3 p (omega arith))
code_inj (Call a0 a1) (If b0 b1 b2 b3) p = absurd (apart 5 4 p (omega arith))
code_inj (Call a0 a1) (Call b0 b1) p = λ i. Call (coded_ℕ.inj a0 b0 (ap (λ g. head (tail g)) p) i) (code_inj a1 b1 (ap (λ g. tail (tail g)) p) i)
code_inj (Call a0 a1) (CallIndirect b0 b1) p = absurd (apart 5 6 p (omega arith))
code_inj (CallIndirect a0 a1) End p = absurd (apart 6 0 p (omega arith))
code_inj (CallIndirect a0 a1) (Plain b0 b1) p = absurd (apart 6 1 p (omega arith))
code_inj (CallIndirect a0 a1) (Block b0 b1 b2) p = absurd (apart 6 2 p (omega arith))
code_inj (CallIndirect a0 a1) (Loop b0 b1 b2) p = absurd (apart 6 3 p (omega arith))
code_inj (CallIndirect a0 a1) (If b0 b1 b2 b3) p = absurd (apart 6 4 p (omega arith))
code_inj (CallIndirect a0 a1) (Call b0 b1) p = absurd (apart 6 5 p (omega arith))
code_inj (CallIndirect a0 a1) (CallIndirect b0 b1) p = λ i. CallIndirect (coded_ℕ.inj a0 b0 (ap (λ g. head (tail g)) p) i) (code_inj a1 b1 (ap (λ g. tail (tail g)) p) i)

abbrev pub coded_code : Coded Code
coded_code = record { code = code_code; inj = code_inj }

-- ---- modules

abbrev coded_function : Coded FunctionTree
coded_function =
    code_by (ℕ × (List ValType × Code)) (coded× coded_ℕ (coded× (coded_list value_type.the_row.coded) coded_code))
    (λ f. (f.type_index, (f.locals, f.body))) (λ p. record { type_index = p.0; locals = p.1.0; body = p.1.1 }) (λ _. refl)

abbrev coded_global : Coded GlobalTree
coded_global =
    code_by (GlobalType × Code) (coded× global_type.the_row.coded coded_code)
    (λ g. (g.global_type, g.init)) (λ p. record { global_type = p.0; init = p.1 }) (λ _. refl)

abbrev coded_element : Coded ElementTree
coded_element =
    code_by (ℕ × (Code × List ℕ)) (coded× coded_ℕ (coded× coded_code (coded_list coded_ℕ)))
    (λ s. (s.table, (s.offset, s.functions))) (λ p. record { table = p.0; offset = p.1.0; functions = p.1.1 }) (λ _. refl)

abbrev coded_data : Coded DataTree
coded_data =
    code_by (ℕ × (Code × List ℕ)) (coded× coded_ℕ (coded× coded_code (coded_list coded_ℕ)))
    (λ s. (s.memory, (s.offset, s.bytes))) (λ p. record { memory = p.0; offset = p.1.0; bytes = p.1.1 }) (λ _. refl)

abbrev pub coded_module : Coded ModuleTree
coded_module =
    code_by (List FuncType × (List Import × (List FunctionTree × (List Limits × (List Limits × (List GlobalTree × (List Export × (Option ℕ × (List ElementTree × List DataTree)))))))))
    (coded× (coded_list function_type.the_row.coded) (coded× (coded_list import_.the_row.coded) (coded× (coded_list coded_function)
    (coded× (coded_list limits.the_row.coded) (coded× (coded_list limits.the_row.coded) (coded× (coded_list coded_global)
    (coded× (coded_list export_.the_row.coded) (coded× (coded_option coded_ℕ) (coded× (coded_list coded_element) (coded_list coded_data))))))))))
    (λ m. (m.types, (m.imports, (m.functions, (m.tables, (m.memories, (m.globals, (m.exports, (m.start, (m.element_segments, m.data_segments))))))))))
    (λ p. record {
      types = p.0;
      imports = p.1.0;
      functions = p.1.1.0;
      tables = p.1.1.1.0;
      memories = p.1.1.1.1.0;
      globals = p.1.1.1.1.1.0;
      exports = p.1.1.1.1.1.1.0;
      start = p.1.1.1.1.1.1.1.0;
      element_segments = p.1.1.1.1.1.1.1.1.0;
      data_segments = p.1.1.1.1.1.1.1.1.1;
    })
    (λ _. refl)

abbrev pub coded_named : Coded Named
coded_named =
    code_by (ℕ × (ℕ × (ModuleTree × Module))) (coded× coded_ℕ (coded× coded_ℕ (coded× coded_module module_.the_row.coded)))
    (λ m. (m.number, (m.tag, (m.tree, m.code)))) (λ p. record { number = p.0; tag = p.1.0; tree = p.1.1.0; code = p.1.1.1 }) (λ _. refl)

-- ---- contents

abbrev pub coded_memory : Coded MemoryContents
coded_memory =
    code_by (List ℕ × (ℕ × (List Bool × Option Named))) (coded× (coded_list coded_ℕ) (coded× coded_ℕ (coded× (coded_list coded_bool) (coded_option coded_named))))
    (λ x. (x.bytes, (x.pages, (x.marks, x.holds)))) (λ p. record { bytes = p.0; pages = p.1.0; marks = p.1.1.0; holds = p.1.1.1 }) (λ _. refl)

abbrev pub coded_table : Coded TableContents
coded_table =
    code_by (List (Option ℕ) × Option Named) (coded× (coded_list (coded_option coded_ℕ)) (coded_option coded_named))
    (λ x. (x.entries, x.holds)) (λ p. record { entries = p.0; holds = p.1 }) (λ _. refl)
