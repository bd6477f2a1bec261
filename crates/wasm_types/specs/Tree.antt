-- The tree that a module stands for: the abstract syntax of the WebAssembly Core Specification 1.0, chapter 2, in
-- which a block holds its inner instructions and each declared local stands by itself.
use Rattle.std.specs.Prelude.{ℕ, List, [], ◌∷◌, ◌++◌, Option, length, get_or, map, replicate, ◌-◌}
use Rattle.std.specs.List.{flat_map}
use Rattle.wasm_types.specs.declared.types.ValType.{ValType}
use Rattle.wasm_types.specs.declared.types.FuncType.{FuncType}
use Rattle.wasm_types.specs.declared.types.Limits.{Limits}
use Rattle.wasm_types.specs.declared.types.GlobalType.{GlobalType}
use Rattle.wasm_types.specs.declared.instr.Instr.{Instr}
use Rattle.wasm_types.specs.declared.instr.Op.{Op}
use Rattle.wasm_types.specs.declared.instr.Op.TheVariants as op
use Rattle.wasm_types.specs.declared.instr.Expr.{Expr}
use Rattle.wasm_types.specs.declared.module.LocalRun.{LocalRun}
use Rattle.wasm_types.specs.declared.module.Function.{Function}
use Rattle.wasm_types.specs.declared.module.Global.{Global}
use Rattle.wasm_types.specs.declared.module.Export.{Export}
use Rattle.wasm_types.specs.declared.module.Import.{Import}
use Rattle.wasm_types.specs.declared.module.ElementSegment.{ElementSegment}
use Rattle.wasm_types.specs.declared.module.DataSegment.{DataSegment}
use Rattle.wasm_types.specs.declared.module.Module.{Module}

-- A sequence of instructions (section 2.4): an instruction, and what follows it. A block's inner sequence stands
-- before what follows the block. An `if` without an `else` has an empty second sequence.
pub data Code : Type 0 where
  End : Code
  Plain : (i : Instr) (rest : Code) → Code
  Block : (t : Option ValType) (body rest : Code) → Code
  Loop : (t : Option ValType) (body rest : Code) → Code
  If : (t : Option ValType) (first second rest : Code) → Code
  Call : (x : ℕ) (rest : Code) → Code
  CallIndirect : (x : ℕ) (rest : Code) → Code

-- section 2.5.3
pub record FunctionTree : Type 0 where
  pub type_index : ℕ
  pub locals : List ValType
  pub body : Code

-- section 2.5.6
pub record GlobalTree : Type 0 where
  pub global_type : GlobalType
  pub init : Code

-- section 2.5.7
pub record ElementTree : Type 0 where
  pub table : ℕ
  pub offset : Code
  pub functions : List ℕ

-- section 2.5.8
pub record DataTree : Type 0 where
  pub memory : ℕ
  pub offset : Code
  pub bytes : List ℕ

-- section 2.5
pub record ModuleTree : Type 0 where
  pub types : List FuncType
  pub imports : List Import
  pub functions : List FunctionTree
  pub tables : List Limits
  pub memories : List Limits
  pub globals : List GlobalTree
  pub exports : List Export
  pub start : Option ℕ
  pub element_segments : List ElementTree
  pub data_segments : List DataTree

-- a sequence as a tree, where `earlier` has the trees of the sequences that it may name
abbrev pub code_of : List Code → List Op → Code
code_of earlier [] = End
code_of earlier (op.Plain i ∷ ops) = Plain i (code_of earlier ops)
code_of earlier (op.Block t k ∷ ops) = Block t (get_or earlier k End) (code_of earlier ops)
code_of earlier (op.Loop t k ∷ ops) = Loop t (get_or earlier k End) (code_of earlier ops)
code_of earlier (op.If t k j ∷ ops) = If t (get_or earlier k End) (get_or earlier j End) (code_of earlier ops)
code_of earlier (op.Call x ∷ ops) = Call x (code_of earlier ops)
code_of earlier (op.CallIndirect x ∷ ops) = CallIndirect x (code_of earlier ops)

-- the trees of these sequences, after those of the earlier ones
abbrev pub codes_from : List Code → List (List Op) → List Code
codes_from earlier [] = earlier
codes_from earlier (ops ∷ sequences) = codes_from (earlier ++ code_of earlier ops ∷ []) sequences

unfoldable pub codes : Expr → List Code
codes e = codes_from [] e.sequences

-- the outermost sequence is the last
abbrev pub expr_tree : Expr → Code
expr_tree e = get_or (codes e) (length e.sequences - 1) End

-- a run of locals, one by one (section 5.5.13)
abbrev pub locals_of : LocalRun → List ValType
locals_of run = replicate run.count run.value

abbrev pub function_tree : Function → FunctionTree
function_tree f = record { type_index = f.type_index; locals = flat_map locals_of f.locals; body = expr_tree f.body }

abbrev pub global_tree : Global → GlobalTree
global_tree g = record { global_type = g.global_type; init = expr_tree g.init }

abbrev pub element_tree : ElementSegment → ElementTree
element_tree s = record { table = s.table; offset = expr_tree s.offset; functions = s.functions }

abbrev pub data_tree : DataSegment → DataTree
data_tree s = record { memory = s.memory; offset = expr_tree s.offset; bytes = s.bytes }

-- the tree that a module stands for
abbrev pub module_tree : Module → ModuleTree
module_tree m = record {
  types = m.types;
  imports = m.imports;
  functions = map function_tree m.functions;
  tables = m.tables;
  memories = m.memories;
  globals = map global_tree m.globals;
  exports = m.exports;
  start = m.start;
  element_segments = map element_tree m.element_segments;
  data_segments = map data_tree m.data_segments;
}
