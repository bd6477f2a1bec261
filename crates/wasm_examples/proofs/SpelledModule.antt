-- A module with every section and every form of type, description, immediate and block, spelled. It is not a valid one.
use Rattle.std.proofs.Common.{ℕ, inl, inr, List, [], ◌∷◌, ◌++◌, true, false, map, refl, arith, pos}
use Rattle.std.specs.Prelude.{Some, None, negsuc}
use Rattle.wasm_types.specs.declared.types.ValType.TheVariants as type
use Rattle.wasm_values.specs.declared.outcome.Val.TheVariants as val
use Rattle.wasm_types.specs.declared.instr.Instr.TheVariants as instr
use Rattle.wasm_types.specs.declared.instr.Width.TheVariants.{W32, W64}
use Rattle.wasm_types.specs.declared.instr.PackSize.TheVariants.{Pack32}
use Rattle.wasm_types.specs.declared.instr.BinaryOp.TheVariants as binary
use Rattle.wasm_types.specs.declared.module.ImportDesc.TheVariants as import
use Rattle.wasm_types.specs.declared.module.ExportDesc.TheVariants as export
use Rattle.wasm_types.specs.Tree.{End, Plain, Block, Loop, If, Call, CallIndirect, ModuleTree}
use Rattle.wasm_spec.specs.Numbers.{TakesUnsigned, TakesEach, TakesVec}
use Rattle.wasm_spec.specs.TypeGrammar.{TakesFuncType, TakesTableType, TakesLimits}
use Rattle.wasm_spec.specs.InstrGrammar.{shape}
use Rattle.wasm_values.specs.declared.profile.Profile.TheVariants.{One}
use Rattle.wasm_spec.specs.Grammar.{Section, IsCustom, TakesSection, IsOrderedAbove, TakesImport, TakesGlobal, TakesExport, TakesElement, TakesSizedBody, TakesData, body_of, Spells}

abbrev note_contents : List ℕ
note_contents = 0x04 ∷ 0x6E ∷ 0x6F ∷ 0x74 ∷ 0x65 ∷ 0x01 ∷ 0x02 ∷ []

abbrev type_contents : List ℕ
type_contents = 0x02 ∷ 0x60 ∷ 0x04 ∷ 0x7F ∷ 0x7E ∷ 0x7D ∷ 0x7C ∷ 0x01 ∷ 0x7F ∷ 0x60 ∷ 0x00 ∷ 0x00 ∷ []

abbrev import_contents : List ℕ
import_contents = 0x04 ∷ 0x01 ∷ 0x61 ∷ 0x01 ∷ 0x62 ∷ 0x00 ∷ 0x01 ∷ 0x00 ∷ 0x02 ∷ 0xC3 ∷ 0xA9 ∷ 0x01 ∷ 0x70 ∷ 0x01 ∷ 0x01 ∷ 0x02 ∷ 0x01 ∷ 0x61 ∷ 0x01 ∷ 0x63 ∷ 0x02 ∷ 0x00 ∷ 0x01 ∷ 0x01 ∷ 0x61 ∷ 0x01 ∷ 0x64 ∷ 0x03 ∷ 0x7E ∷ 0x01 ∷ []

abbrev function_contents : List ℕ
function_contents = 0x02 ∷ 0x00 ∷ 0x01 ∷ []

abbrev table_contents : List ℕ
table_contents = 0x01 ∷ 0x70 ∷ 0x01 ∷ 0x03 ∷ 0x04 ∷ []

abbrev memory_contents : List ℕ
memory_contents = 0x01 ∷ 0x00 ∷ 0x01 ∷ []

abbrev global_contents : List ℕ
global_contents = 0x02 ∷ 0x7F ∷ 0x00 ∷ 0x41 ∷ 0x00 ∷ 0x0B ∷ 0x7E ∷ 0x01 ∷ 0x42 ∷ 0x7E ∷ 0x0B ∷ []

abbrev export_contents : List ℕ
export_contents = 0x04 ∷ 0x01 ∷ 0x66 ∷ 0x00 ∷ 0x00 ∷ 0x01 ∷ 0x74 ∷ 0x01 ∷ 0x00 ∷ 0x01 ∷ 0x6D ∷ 0x02 ∷ 0x00 ∷ 0x01 ∷ 0x67 ∷ 0x03 ∷ 0x01 ∷ []

abbrev start_contents : List ℕ
start_contents = 0x01 ∷ []

abbrev element_contents : List ℕ
element_contents = 0x01 ∷ 0x00 ∷ 0x41 ∷ 0x01 ∷ 0x0B ∷ 0x02 ∷ 0x00 ∷ 0x01 ∷ []

abbrev code_contents : List ℕ
code_contents = 0x02 ∷ 0x79 ∷ 0x02 ∷ 0x02 ∷ 0x7F ∷ 0x01 ∷ 0x7C ∷ 0x02 ∷ 0x40 ∷ 0x03 ∷ 0x7F ∷ 0x41 ∷ 0x01 ∷ 0x0B ∷ 0x1A ∷ 0x0B ∷ 0x02 ∷ 0x7E ∷ 0x42 ∷ 0x7E ∷ 0x0B ∷ 0x1A ∷ 0x02 ∷ 0x7D ∷ 0x43 ∷ 0x01 ∷ 0x02 ∷ 0x03 ∷ 0x04 ∷ 0x0B ∷ 0x1A ∷ 0x02 ∷ 0x7C ∷ 0x44 ∷ 0x01 ∷ 0x02 ∷ 0x03 ∷ 0x04 ∷ 0x05 ∷ 0x06 ∷ 0x07 ∷ 0x08 ∷ 0x0B ∷ 0x1A ∷ 0x41 ∷ 0x7F ∷ 0x04 ∷ 0x40 ∷ 0x01 ∷ 0x0B ∷ 0x20 ∷ 0x00 ∷ 0x04 ∷ 0x7F ∷ 0x41 ∷ 0xAC ∷ 0x02 ∷ 0x05 ∷ 0x41 ∷ 0xD4 ∷ 0x7D ∷ 0x0B ∷ 0x21 ∷ 0x04 ∷ 0x02 ∷ 0x40 ∷ 0x41 ∷ 0x00 ∷ 0x0E ∷ 0x02 ∷ 0x00 ∷ 0x01 ∷ 0x00 ∷ 0x0B ∷ 0x02 ∷ 0x40 ∷ 0x41 ∷ 0x00 ∷ 0x0D ∷ 0x00 ∷ 0x0C ∷ 0x00 ∷ 0x0B ∷ 0x10 ∷ 0x01 ∷ 0x41 ∷ 0x02 ∷ 0x11 ∷ 0x01 ∷ 0x00 ∷ 0x41 ∷ 0x00 ∷ 0x28 ∷ 0x02 ∷ 0xC8 ∷ 0x01 ∷ 0x1A ∷ 0x41 ∷ 0x00 ∷ 0x2A ∷ 0x02 ∷ 0x00 ∷ 0x1A ∷ 0x41 ∷ 0x00 ∷ 0x42 ∷ 0x80 ∷ 0x80 ∷ 0x80 ∷ 0x80 ∷ 0x80 ∷ 0x20 ∷ 0x3E ∷ 0x01 ∷ 0x03 ∷ 0x3F ∷ 0x00 ∷ 0x40 ∷ 0x00 ∷ 0x23 ∷ 0x00 ∷ 0x6A ∷ 0x0B ∷ 0x02 ∷ 0x00 ∷ 0x0B ∷ []

abbrev data_contents : List ℕ
data_contents = 0x01 ∷ 0x00 ∷ 0x23 ∷ 0x00 ∷ 0x0B ∷ 0x03 ∷ 0x07 ∷ 0x08 ∷ 0x09 ∷ []

abbrev everything : ModuleTree
everything = record {
  types = (record { params = (type.I32) ∷ (type.I64) ∷ (type.F32) ∷ (type.F64) ∷ []; results = (type.I32) ∷ [] }) ∷ (record { params = []; results = [] }) ∷ [];
  imports = (record { module_name = 0x61 ∷ []; item_name = 0x62 ∷ []; desc = import.Func 1 }) ∷ (record { module_name = []; item_name = 0xC3 ∷ 0xA9 ∷ []; desc = import.Table (record { min = 1; max = Some 2 }) }) ∷ (record { module_name = 0x61 ∷ []; item_name = 0x63 ∷ []; desc = import.Memory (record { min = 1; max = None }) }) ∷ (record { module_name = 0x61 ∷ []; item_name = 0x64 ∷ []; desc = import.Global (record { value = type.I64; mutable = true }) }) ∷ [];
  functions = record { type_index = 0; locals = type.I32 ∷ type.I32 ∷ type.F64 ∷ []; body = Block None (Loop (Some type.I32) (Plain (instr.Const (val.I32 1)) (End)) (Plain (instr.Drop) (End))) (Block (Some type.I64) (Plain (instr.Const (val.I64 18446744073709551614)) (End)) (Plain (instr.Drop) (Block (Some type.F32) (Plain (instr.Float) (End)) (Plain (instr.Drop) (Block (Some type.F64) (Plain (instr.Float) (End)) (Plain (instr.Drop) (Plain (instr.Const (val.I32 4294967295)) (If None (Plain (instr.Nop) (End)) End (Plain (instr.LocalGet 0) (If (Some type.I32) (Plain (instr.Const (val.I32 300)) (End)) (Plain (instr.Const (val.I32 4294966996)) (End)) (Plain (instr.LocalSet 4) (Block None (Plain (instr.Const (val.I32 0)) (Plain (instr.BrTable ((0) ∷ (1) ∷ []) 0) (End))) (Block None (Plain (instr.Const (val.I32 0)) (Plain (instr.BrIf 0) (Plain (instr.Br 0) (End)))) (Call 1 (Plain (instr.Const (val.I32 2)) (CallIndirect 1 (Plain (instr.Const (val.I32 0)) (Plain (instr.Load W32 (record { align = 2; offset = 200 })) (Plain (instr.Drop) (Plain (instr.Const (val.I32 0)) (Plain (instr.Float) (Plain (instr.Drop) (Plain (instr.Const (val.I32 0)) (Plain (instr.Const (val.I64 1099511627776)) (Plain (instr.StorePacked W64 Pack32 (record { align = 1; offset = 3 })) (Plain (instr.MemorySize) (Plain (instr.MemoryGrow) (Plain (instr.GlobalGet 0) (Plain (instr.Binary W32 binary.Add) (End)))))))))))))))))))))))))))))) } ∷ record { type_index = 1; locals = []; body = End } ∷ [];
  tables = (record { min = 3; max = Some 4 }) ∷ [];
  memories = (record { min = 1; max = None }) ∷ [];
  globals = (record { global_type = record { value = type.I32; mutable = false }; init = Plain (instr.Const (val.I32 0)) (End) }) ∷ (record { global_type = record { value = type.I64; mutable = true }; init = Plain (instr.Const (val.I64 18446744073709551614)) (End) }) ∷ [];
  exports = (record { name = 0x66 ∷ []; desc = export.Func 0 }) ∷ (record { name = 0x74 ∷ []; desc = export.Table 0 }) ∷ (record { name = 0x6D ∷ []; desc = export.Memory 0 }) ∷ (record { name = 0x67 ∷ []; desc = export.Global 1 }) ∷ [];
  start = Some 1;
  element_segments = (record { table = 0; offset = Plain (instr.Const (val.I32 1)) (End); functions = (0) ∷ (1) ∷ [] }) ∷ [];
  data_segments = (record { memory = 0; offset = Plain (instr.GlobalGet 0) (End); bytes = 0x07 ∷ 0x08 ∷ 0x09 ∷ [] }) ∷ [];
}

-- ---- sections, one after the other

abbrev after_13 : List ℕ
after_13 = 0x00 ∷ 0x07 ∷ note_contents ++ []

abbrev after_12 : List ℕ
after_12 = 0x0B ∷ 0x09 ∷ data_contents ++ after_13

abbrev after_11 : List ℕ
after_11 = 0x0A ∷ 0x7E ∷ code_contents ++ after_12

abbrev after_10 : List ℕ
after_10 = 0x09 ∷ 0x08 ∷ element_contents ++ after_11

abbrev after_9 : List ℕ
after_9 = 0x08 ∷ 0x01 ∷ start_contents ++ after_10

abbrev after_8 : List ℕ
after_8 = 0x07 ∷ 0x11 ∷ export_contents ++ after_9

abbrev after_7 : List ℕ
after_7 = 0x00 ∷ 0x07 ∷ note_contents ++ after_8

abbrev after_6 : List ℕ
after_6 = 0x06 ∷ 0x0B ∷ global_contents ++ after_7

abbrev after_5 : List ℕ
after_5 = 0x05 ∷ 0x03 ∷ memory_contents ++ after_6

abbrev after_4 : List ℕ
after_4 = 0x04 ∷ 0x05 ∷ table_contents ++ after_5

abbrev after_3 : List ℕ
after_3 = 0x03 ∷ 0x03 ∷ function_contents ++ after_4

abbrev after_2 : List ℕ
after_2 = 0x02 ∷ 0x1E ∷ import_contents ++ after_3

abbrev after_1 : List ℕ
after_1 = 0x01 ∷ 0x0C ∷ type_contents ++ after_2

abbrev after_header : List ℕ
after_header = 0x00 ∷ 0x07 ∷ note_contents ++ after_1

abbrev sections : List Section
sections =
    record { id = 0; contents = note_contents }
    ∷ record { id = 1; contents = type_contents }
    ∷ record { id = 2; contents = import_contents }
    ∷ record { id = 3; contents = function_contents }
    ∷ record { id = 4; contents = table_contents }
    ∷ record { id = 5; contents = memory_contents }
    ∷ record { id = 6; contents = global_contents }
    ∷ record { id = 0; contents = note_contents }
    ∷ record { id = 7; contents = export_contents }
    ∷ record { id = 8; contents = start_contents }
    ∷ record { id = 9; contents = element_contents }
    ∷ record { id = 10; contents = code_contents }
    ∷ record { id = 11; contents = data_contents }
    ∷ record { id = 0; contents = note_contents } ∷ []

everything_follows : TakesEach TakesSection sections after_header []
everything_follows = (after_1, record { after = _; id = refl; sized = record { mid = note_contents ++ after_1; count = inl (omega arith, omega arith, refl, refl); items = refl } }, (after_2, record { after = _; id = refl; sized = record { mid = type_contents ++ after_2; count = inl (omega arith, omega arith, refl, refl); items = refl } }, (after_3, record { after = _; id = refl; sized = record { mid = import_contents ++ after_3; count = inl (omega arith, omega arith, refl, refl); items = refl } }, (after_4, record { after = _; id = refl; sized = record { mid = function_contents ++ after_4; count = inl (omega arith, omega arith, refl, refl); items = refl } }, (after_5, record { after = _; id = refl; sized = record { mid = table_contents ++ after_5; count = inl (omega arith, omega arith, refl, refl); items = refl } }, (after_6, record { after = _; id = refl; sized = record { mid = memory_contents ++ after_6; count = inl (omega arith, omega arith, refl, refl); items = refl } }, (after_7, record { after = _; id = refl; sized = record { mid = global_contents ++ after_7; count = inl (omega arith, omega arith, refl, refl); items = refl } }, (after_8, record { after = _; id = refl; sized = record { mid = note_contents ++ after_8; count = inl (omega arith, omega arith, refl, refl); items = refl } }, (after_9, record { after = _; id = refl; sized = record { mid = export_contents ++ after_9; count = inl (omega arith, omega arith, refl, refl); items = refl } }, (after_10, record { after = _; id = refl; sized = record { mid = start_contents ++ after_10; count = inl (omega arith, omega arith, refl, refl); items = refl } }, (after_11, record { after = _; id = refl; sized = record { mid = element_contents ++ after_11; count = inl (omega arith, omega arith, refl, refl); items = refl } }, (after_12, record { after = _; id = refl; sized = record { mid = code_contents ++ after_12; count = inl (omega arith, omega arith, refl, refl); items = refl } }, (after_13, record { after = _; id = refl; sized = record { mid = data_contents ++ after_13; count = inl (omega arith, omega arith, refl, refl); items = refl } }, ([], record { after = _; id = refl; sized = record { mid = note_contents ++ []; count = inl (omega arith, omega arith, refl, refl); items = refl } }, refl))))))))))))))

note_is_custom : IsCustom note_contents
unfolding lib.Utf8.encode
note_is_custom = record { name = 0x6E ∷ 0x6F ∷ 0x74 ∷ 0x65 ∷ []; after = _; spelled = record { spelled = record { mid = _; count = inl (omega arith, omega arith, refl, refl); items = refl }; utf8 = (110 ∷ 111 ∷ 116 ∷ 101 ∷ [], (refl, refl)) } }

everything_rises : IsOrderedAbove One 0 sections
everything_rises = inl (refl, note_is_custom, inr (omega arith, omega arith, inr (omega arith, omega arith, inr (omega arith, omega arith, inr (omega arith, omega arith, inr (omega arith, omega arith, inr (omega arith, omega arith, inl (refl, note_is_custom, inr (omega arith, omega arith, inr (omega arith, omega arith, inr (omega arith, omega arith, inr (omega arith, omega arith, inr (omega arith, omega arith, inl (refl, note_is_custom, tt))))))))))))))

-- ---- what stands in them

types_spelled : TakesVec TakesFuncType everything.types type_contents []
types_spelled = record { mid = _; count = inl (omega arith, omega arith, refl, refl); items = (_, record { after = _; mid = _; tag = refl; params = record { mid = _; count = inl (omega arith, omega arith, refl, refl); items = (_, refl, (_, refl, (_, refl, (_, refl, refl)))) }; results = record { mid = _; count = inl (omega arith, omega arith, refl, refl); items = (_, refl, refl) } }, (_, record { after = _; mid = _; tag = refl; params = record { mid = _; count = inl (omega arith, omega arith, refl, refl); items = refl }; results = record { mid = _; count = inl (omega arith, omega arith, refl, refl); items = refl } }, refl)) }

imports_spelled : TakesVec TakesImport everything.imports import_contents []
unfolding lib.Utf8.encode
imports_spelled = record { mid = _; count = inl (omega arith, omega arith, refl, refl); items = (_, record { after_module = _; after_item = _; module_name = record { spelled = record { mid = _; count = inl (omega arith, omega arith, refl, refl); items = refl }; utf8 = (97 ∷ [], (refl, refl)) }; item_name = record { spelled = record { mid = _; count = inl (omega arith, omega arith, refl, refl); items = refl }; utf8 = (98 ∷ [], (refl, refl)) }; desc = (_, refl, inl (omega arith, omega arith, refl, refl)) }, (_, record { after_module = _; after_item = _; module_name = record { spelled = record { mid = _; count = inl (omega arith, omega arith, refl, refl); items = refl }; utf8 = ([], (refl, refl)) }; item_name = record { spelled = record { mid = _; count = inl (omega arith, omega arith, refl, refl); items = refl }; utf8 = (233 ∷ [], (refl, refl)) }; desc = (_, refl, (_, refl, (_, refl, (_, inl (omega arith, omega arith, refl, refl), inl (omega arith, omega arith, refl, refl))))) }, (_, record { after_module = _; after_item = _; module_name = record { spelled = record { mid = _; count = inl (omega arith, omega arith, refl, refl); items = refl }; utf8 = (97 ∷ [], (refl, refl)) }; item_name = record { spelled = record { mid = _; count = inl (omega arith, omega arith, refl, refl); items = refl }; utf8 = (99 ∷ [], (refl, refl)) }; desc = (_, refl, (_, refl, inl (omega arith, omega arith, refl, refl))) }, (_, record { after_module = _; after_item = _; module_name = record { spelled = record { mid = _; count = inl (omega arith, omega arith, refl, refl); items = refl }; utf8 = (97 ∷ [], (refl, refl)) }; item_name = record { spelled = record { mid = _; count = inl (omega arith, omega arith, refl, refl); items = refl }; utf8 = (100 ∷ [], (refl, refl)) }; desc = (_, refl, refl) }, refl)))) }

indices_spelled : TakesVec (TakesUnsigned 32) (0 ∷ 1 ∷ []) function_contents []
indices_spelled = record { mid = _; count = inl (omega arith, omega arith, refl, refl); items = (_, inl (omega arith, omega arith, refl, refl), (_, inl (omega arith, omega arith, refl, refl), refl)) }

tables_spelled : TakesVec TakesTableType everything.tables table_contents []
tables_spelled = record { mid = _; count = inl (omega arith, omega arith, refl, refl); items = (_, (_, refl, (_, refl, (_, inl (omega arith, omega arith, refl, refl), inl (omega arith, omega arith, refl, refl)))), refl) }

memories_spelled : TakesVec TakesLimits everything.memories memory_contents []
memories_spelled = record { mid = _; count = inl (omega arith, omega arith, refl, refl); items = (_, (_, refl, inl (omega arith, omega arith, refl, refl)), refl) }

globals_spelled : TakesVec (TakesGlobal One) everything.globals global_contents []
unfolding shape
globals_spelled = record { mid = _; count = inl (omega arith, omega arith, refl, refl); items = (_, record { mid = _; global_type = refl; init = (_, record { opcode = 0x41; after = _; leads = refl; follows = (pos 0, refl, inl (omega arith, omega arith, refl, refl)) }, refl) }, (_, record { mid = _; global_type = refl; init = (_, record { opcode = 0x42; after = _; leads = refl; follows = (negsuc 1, refl, inr (inl (omega arith, omega arith, omega arith, refl, refl))) }, refl) }, refl)) }

exports_spelled : TakesVec TakesExport everything.exports export_contents []
unfolding lib.Utf8.encode
exports_spelled = record { mid = _; count = inl (omega arith, omega arith, refl, refl); items = (_, record { mid = _; name = record { spelled = record { mid = _; count = inl (omega arith, omega arith, refl, refl); items = refl }; utf8 = (102 ∷ [], (refl, refl)) }; desc = (_, refl, inl (omega arith, omega arith, refl, refl)) }, (_, record { mid = _; name = record { spelled = record { mid = _; count = inl (omega arith, omega arith, refl, refl); items = refl }; utf8 = (116 ∷ [], (refl, refl)) }; desc = (_, refl, inl (omega arith, omega arith, refl, refl)) }, (_, record { mid = _; name = record { spelled = record { mid = _; count = inl (omega arith, omega arith, refl, refl); items = refl }; utf8 = (109 ∷ [], (refl, refl)) }; desc = (_, refl, inl (omega arith, omega arith, refl, refl)) }, (_, record { mid = _; name = record { spelled = record { mid = _; count = inl (omega arith, omega arith, refl, refl); items = refl }; utf8 = (103 ∷ [], (refl, refl)) }; desc = (_, refl, inl (omega arith, omega arith, refl, refl)) }, refl)))) }

elements_spelled : TakesVec (TakesElement One) everything.element_segments element_contents []
unfolding shape
elements_spelled = record { mid = _; count = inl (omega arith, omega arith, refl, refl); items = (_, record { after_table = _; after_offset = _; table = inl (omega arith, omega arith, refl, refl); offset = (_, record { opcode = 0x41; after = _; leads = refl; follows = (pos 1, refl, inl (omega arith, omega arith, refl, refl)) }, refl); functions = record { mid = _; count = inl (omega arith, omega arith, refl, refl); items = (_, inl (omega arith, omega arith, refl, refl), (_, inl (omega arith, omega arith, refl, refl), refl)) } }, refl) }

bodies_spelled : TakesVec (TakesSizedBody One) (map body_of everything.functions) code_contents []
unfolding shape
bodies_spelled = record { mid = _; count = inl (omega arith, omega arith, refl, refl); items = (_, record { contents = 0x02 ∷ 0x02 ∷ 0x7F ∷ 0x01 ∷ 0x7C ∷ 0x02 ∷ 0x40 ∷ 0x03 ∷ 0x7F ∷ 0x41 ∷ 0x01 ∷ 0x0B ∷ 0x1A ∷ 0x0B ∷ 0x02 ∷ 0x7E ∷ 0x42 ∷ 0x7E ∷ 0x0B ∷ 0x1A ∷ 0x02 ∷ 0x7D ∷ 0x43 ∷ 0x01 ∷ 0x02 ∷ 0x03 ∷ 0x04 ∷ 0x0B ∷ 0x1A ∷ 0x02 ∷ 0x7C ∷ 0x44 ∷ 0x01 ∷ 0x02 ∷ 0x03 ∷ 0x04 ∷ 0x05 ∷ 0x06 ∷ 0x07 ∷ 0x08 ∷ 0x0B ∷ 0x1A ∷ 0x41 ∷ 0x7F ∷ 0x04 ∷ 0x40 ∷ 0x01 ∷ 0x0B ∷ 0x20 ∷ 0x00 ∷ 0x04 ∷ 0x7F ∷ 0x41 ∷ 0xAC ∷ 0x02 ∷ 0x05 ∷ 0x41 ∷ 0xD4 ∷ 0x7D ∷ 0x0B ∷ 0x21 ∷ 0x04 ∷ 0x02 ∷ 0x40 ∷ 0x41 ∷ 0x00 ∷ 0x0E ∷ 0x02 ∷ 0x00 ∷ 0x01 ∷ 0x00 ∷ 0x0B ∷ 0x02 ∷ 0x40 ∷ 0x41 ∷ 0x00 ∷ 0x0D ∷ 0x00 ∷ 0x0C ∷ 0x00 ∷ 0x0B ∷ 0x10 ∷ 0x01 ∷ 0x41 ∷ 0x02 ∷ 0x11 ∷ 0x01 ∷ 0x00 ∷ 0x41 ∷ 0x00 ∷ 0x28 ∷ 0x02 ∷ 0xC8 ∷ 0x01 ∷ 0x1A ∷ 0x41 ∷ 0x00 ∷ 0x2A ∷ 0x02 ∷ 0x00 ∷ 0x1A ∷ 0x41 ∷ 0x00 ∷ 0x42 ∷ 0x80 ∷ 0x80 ∷ 0x80 ∷ 0x80 ∷ 0x80 ∷ 0x20 ∷ 0x3E ∷ 0x01 ∷ 0x03 ∷ 0x3F ∷ 0x00 ∷ 0x40 ∷ 0x00 ∷ 0x23 ∷ 0x00 ∷ 0x6A ∷ 0x0B ∷ []; sized = record { mid = _; count = inl (omega arith, omega arith, refl, refl); items = refl }; body = record { runs = (record { count = 2; value = type.I32 }) ∷ (record { count = 1; value = type.F64 }) ∷ []; mid = _; spelled = record { mid = _; count = inl (omega arith, omega arith, refl, refl); items = (_, record { mid = _; count = inl (omega arith, omega arith, refl, refl); value = refl }, (_, record { mid = _; count = inl (omega arith, omega arith, refl, refl); value = refl }, refl)) }; locals = refl; few = omega arith; code = (_, refl, _, refl, _, (_, refl, _, refl, _, (_, record { opcode = 0x41; after = _; leads = refl; follows = (pos 1, refl, inl (omega arith, omega arith, refl, refl)) }, refl), (_, record { opcode = 0x1A; after = _; leads = refl; follows = (refl, refl) }, refl)), (_, refl, _, refl, _, (_, record { opcode = 0x42; after = _; leads = refl; follows = (negsuc 1, refl, inr (inl (omega arith, omega arith, omega arith, refl, refl))) }, refl), (_, record { opcode = 0x1A; after = _; leads = refl; follows = (refl, refl) }, (_, refl, _, refl, _, (_, record { opcode = 0x43; after = _; leads = refl; follows = (refl, omega arith, refl) }, refl), (_, record { opcode = 0x1A; after = _; leads = refl; follows = (refl, refl) }, (_, refl, _, refl, _, (_, record { opcode = 0x44; after = _; leads = refl; follows = (refl, omega arith, refl) }, refl), (_, record { opcode = 0x1A; after = _; leads = refl; follows = (refl, refl) }, (_, record { opcode = 0x41; after = _; leads = refl; follows = (negsuc 0, refl, inr (inl (omega arith, omega arith, omega arith, refl, refl))) }, (_, refl, _, refl, _, inl ((_, record { opcode = 0x01; after = _; leads = refl; follows = (refl, refl) }, refl), refl), (_, record { opcode = 0x20; after = _; leads = refl; follows = (0, refl, inl (omega arith, omega arith, refl, refl)) }, (_, refl, _, refl, _, inr (_, (_, record { opcode = 0x41; after = _; leads = refl; follows = (pos 300, refl, inr (inr (omega arith, omega arith, (pos 2), inl (omega arith, omega arith, refl, refl), refl))) }, refl), (_, record { opcode = 0x41; after = _; leads = refl; follows = (negsuc 299, refl, inr (inr (omega arith, omega arith, (negsuc 2), inr (inl (omega arith, omega arith, omega arith, refl, refl)), refl))) }, refl)), (_, record { opcode = 0x21; after = _; leads = refl; follows = (4, refl, inl (omega arith, omega arith, refl, refl)) }, (_, refl, _, refl, _, (_, record { opcode = 0x41; after = _; leads = refl; follows = (pos 0, refl, inl (omega arith, omega arith, refl, refl)) }, (_, record { opcode = 0x0E; after = _; leads = refl; follows = ((0) ∷ (1) ∷ [], 0, _, refl, record { mid = _; count = inl (omega arith, omega arith, refl, refl); items = (_, inl (omega arith, omega arith, refl, refl), (_, inl (omega arith, omega arith, refl, refl), refl)) }, inl (omega arith, omega arith, refl, refl)) }, refl)), (_, refl, _, refl, _, (_, record { opcode = 0x41; after = _; leads = refl; follows = (pos 0, refl, inl (omega arith, omega arith, refl, refl)) }, (_, record { opcode = 0x0D; after = _; leads = refl; follows = (0, refl, inl (omega arith, omega arith, refl, refl)) }, (_, record { opcode = 0x0C; after = _; leads = refl; follows = (0, refl, inl (omega arith, omega arith, refl, refl)) }, refl))), (_, refl, _, inl (omega arith, omega arith, refl, refl), (_, record { opcode = 0x41; after = _; leads = refl; follows = (pos 2, refl, inl (omega arith, omega arith, refl, refl)) }, (_, refl, _, inl (omega arith, omega arith, refl, refl), (_, record { opcode = 0x41; after = _; leads = refl; follows = (pos 0, refl, inl (omega arith, omega arith, refl, refl)) }, (_, record { opcode = 0x28; after = _; leads = refl; follows = (record { align = 2; offset = 200 }, _, refl, inl (omega arith, omega arith, refl, refl), inr (omega arith, omega arith, 1, inl (omega arith, omega arith, refl, refl), refl)) }, (_, record { opcode = 0x1A; after = _; leads = refl; follows = (refl, refl) }, (_, record { opcode = 0x41; after = _; leads = refl; follows = (pos 0, refl, inl (omega arith, omega arith, refl, refl)) }, (_, record { opcode = 0x2A; after = _; leads = refl; follows = (record { align = 2; offset = 0 }, _, refl, inl (omega arith, omega arith, refl, refl), inl (omega arith, omega arith, refl, refl)) }, (_, record { opcode = 0x1A; after = _; leads = refl; follows = (refl, refl) }, (_, record { opcode = 0x41; after = _; leads = refl; follows = (pos 0, refl, inl (omega arith, omega arith, refl, refl)) }, (_, record { opcode = 0x42; after = _; leads = refl; follows = (pos 1099511627776, refl, inr (inr (omega arith, omega arith, (pos 8589934592), inr (inr (omega arith, omega arith, (pos 67108864), inr (inr (omega arith, omega arith, (pos 524288), inr (inr (omega arith, omega arith, (pos 4096), inr (inr (omega arith, omega arith, (pos 32), inl (omega arith, omega arith, refl, refl), refl)), refl)), refl)), refl)), refl))) }, (_, record { opcode = 0x3E; after = _; leads = refl; follows = (record { align = 1; offset = 3 }, _, refl, inl (omega arith, omega arith, refl, refl), inl (omega arith, omega arith, refl, refl)) }, (_, record { opcode = 0x3F; after = _; leads = refl; follows = (refl, refl) }, (_, record { opcode = 0x40; after = _; leads = refl; follows = (refl, refl) }, (_, record { opcode = 0x23; after = _; leads = refl; follows = (0, refl, inl (omega arith, omega arith, refl, refl)) }, (_, record { opcode = 0x6A; after = _; leads = refl; follows = (refl, refl) }, refl)))))))))))))))))))))))))))))) } }, (_, record { contents = 0x00 ∷ 0x0B ∷ []; sized = record { mid = _; count = inl (omega arith, omega arith, refl, refl); items = refl }; body = record { runs = []; mid = _; spelled = record { mid = _; count = inl (omega arith, omega arith, refl, refl); items = refl }; locals = refl; few = omega arith; code = refl } }, refl)) }

data_spelled : TakesVec (TakesData One) everything.data_segments data_contents []
unfolding shape
data_spelled = record { mid = _; count = inl (omega arith, omega arith, refl, refl); items = (_, record { after_memory = _; after_offset = _; memory = inl (omega arith, omega arith, refl, refl); offset = (_, record { opcode = 0x23; after = _; leads = refl; follows = (0, refl, inl (omega arith, omega arith, refl, refl)) }, refl); contents = record { mid = _; count = inl (omega arith, omega arith, refl, refl); items = refl } }, refl) }

everything_is_spelled : Spells One (0x00 ∷ 0x61 ∷ 0x73 ∷ 0x6D ∷ 0x01 ∷ 0x00 ∷ 0x00 ∷ 0x00 ∷ after_header) everything
everything_is_spelled = record {
  after = after_header;
  sections = sections;
  header = refl;
  whole = everything_follows;
  ordered = everything_rises;
  fields = record {
    types = types_spelled;
    imports = imports_spelled;
    function_types = indices_spelled;
    tables = tables_spelled;
    memories = memories_spelled;
    globals = globals_spelled;
    exports = exports_spelled;
    start = (1, refl, inl (omega arith, omega arith, refl, refl));
    element_segments = elements_spelled;
    bodies = bodies_spelled;
    data_segments = data_spelled;
    data_count = tt;
  };
}
