-- The trees of small modules, for worked examples.
use Rattle.std.specs.Prelude.{ℕ, List, [], ◌∷◌, Some, None, true, false, codes}
use Rattle.wasm_types.specs.declared.types.ValType.{ValType}
use Rattle.wasm_types.specs.declared.types.ValType.TheVariants as type
use Rattle.wasm_types.specs.declared.types.FuncType.{FuncType}
use Rattle.wasm_types.specs.declared.types.Limits.{Limits}
use Rattle.wasm_types.specs.declared.module.Export.{Export}
use Rattle.wasm_types.specs.declared.module.ExportDesc.TheVariants as export
use Rattle.wasm_values.specs.declared.outcome.Val.TheVariants.{I32}
use Rattle.wasm_types.specs.declared.instr.Width.TheVariants.{W32}
use Rattle.wasm_types.specs.declared.instr.Sign.TheVariants.{Unsigned}
use Rattle.wasm_types.specs.declared.instr.PackSize.TheVariants.{Pack8}
use Rattle.wasm_types.specs.declared.instr.UnaryOp.TheVariants as unary_op
use Rattle.wasm_types.specs.declared.instr.BinaryOp.TheVariants as binary_op
use Rattle.wasm_types.specs.declared.instr.Instr.{Instr}
use Rattle.wasm_types.specs.declared.instr.Instr.TheVariants as instr
use Rattle.wasm_types.specs.Tree.{Code, End, Plain, Loop, If, Call, CallIndirect, FunctionTree, ModuleTree}

-- ---- parts

-- these plain instructions, and then the rest
abbrev pub straight : List Instr → Code → Code
straight [] rest = rest
straight (i ∷ is) rest = Plain i (straight is rest)

abbrev pub i32_const : ℕ → Instr
i32_const n = instr.Const (I32 n)

abbrev pub i32_add : Instr
i32_add = instr.Binary W32 binary_op.Add

abbrev pub i32_sub : Instr
i32_sub = instr.Binary W32 binary_op.Sub

abbrev pub i32_load : ℕ → Instr
i32_load offset = instr.Load W32 (record { align = 2; offset = offset })

abbrev pub i32_store : ℕ → Instr
i32_store offset = instr.Store W32 (record { align = 2; offset = offset })

abbrev pub function_type : List ValType → List ValType → FuncType
function_type params results = record { params = params; results = results }

abbrev pub function_of : ℕ → Code → FunctionTree
function_of t body = record { type_index = t; locals = []; body = body }

abbrev pub exported : List ℕ → ℕ → Export
exported name x = record { name = name; desc = export.Func x }

abbrev pub at_least : ℕ → Limits
at_least n = record { min = n; max = None }

-- nothing but these types, functions and exports
abbrev pub bare : List FuncType → List FunctionTree → List Export → ModuleTree
bare types functions exports = record {
  types = types;
  imports = [];
  functions = functions;
  tables = [];
  memories = [];
  globals = [];
  exports = exports;
  start = None;
  element_segments = [];
  data_segments = [];
}

-- and a memory of one page
abbrev pub paged : List FuncType → List FunctionTree → List Export → ModuleTree
paged types functions exports = record (bare types functions exports) { memories = at_least 1 ∷ [] }

abbrev pub unary_type : FuncType
unary_type = function_type (type.I32 ∷ []) (type.I32 ∷ [])

abbrev pub binary_type : FuncType
binary_type = function_type (type.I32 ∷ type.I32 ∷ []) (type.I32 ∷ [])

abbrev pub constant_type : FuncType
constant_type = function_type [] (type.I32 ∷ [])

abbrev pub empty_type : FuncType
empty_type = function_type [] []

-- ---- modules

-- adds its arguments
abbrev pub add_module : ModuleTree
add_module =
    bare (binary_type ∷ []) (function_of 0 (straight (instr.LocalGet 0 ∷ instr.LocalGet 1 ∷ i32_add ∷ []) End) ∷ []) (exported (codes "add") 0 ∷ [])

-- adds 1 to the number at address 0 and gives it
abbrev pub bump_code : List Instr
bump_code = i32_const 0 ∷ i32_const 0 ∷ i32_load 0 ∷ i32_const 1 ∷ i32_add ∷ i32_store 0 ∷ i32_const 0 ∷ i32_load 0 ∷ []

abbrev pub bump_module : ModuleTree
bump_module = paged (constant_type ∷ []) (function_of 0 (straight bump_code End) ∷ []) (exported (codes "bump") 0 ∷ [])

-- stores its second argument at its first
abbrev pub poke_module : ModuleTree
poke_module =
    paged (function_type (type.I32 ∷ type.I32 ∷ []) [] ∷ [])
    (function_of 0 (straight (instr.LocalGet 0 ∷ instr.LocalGet 1 ∷ i32_store 0 ∷ []) End) ∷ []) (exported (codes "poke") 0 ∷ [])

-- loads with the greatest offset
abbrev pub wrap_module : ModuleTree
wrap_module =
    paged (unary_type ∷ []) (function_of 0 (straight (instr.LocalGet 0 ∷ i32_load 4294967295 ∷ []) End) ∷ []) (exported (codes "w") 0 ∷ [])

-- `dirty` grows by a page, writes 255 to the new last byte and loops for good; `look` grows by a page and reads that byte
abbrev pub dirty_code : Code
dirty_code =
    straight (i32_const 1 ∷ instr.MemoryGrow ∷ instr.Drop ∷ i32_const 131071 ∷ i32_const 4294967295 ∷ instr.StorePacked W32 Pack8 (record { align = 0; offset = 0 }) ∷ [])
    (Loop None (straight (instr.Br 0 ∷ []) End) End)

abbrev pub look_code : Code
look_code =
    straight (i32_const 1 ∷ instr.MemoryGrow ∷ instr.Drop ∷ i32_const 131071 ∷ instr.LoadPacked W32 Pack8 Unsigned (record { align = 0; offset = 0 }) ∷ []) End

abbrev pub grown_module : ModuleTree
grown_module =
    paged (empty_type ∷ constant_type ∷ []) (function_of 0 dirty_code ∷ function_of 1 look_code ∷ []) (exported (codes "dirty") 0 ∷ exported (codes "look") 1 ∷ [])

-- grows by its argument
abbrev pub grow_module : ModuleTree
grow_module =
    paged (unary_type ∷ []) (function_of 0 (straight (instr.LocalGet 0 ∷ instr.MemoryGrow ∷ []) End) ∷ []) (exported (codes "grow") 0 ∷ [])

-- divides, and takes the remainder
abbrev pub div_module : ModuleTree
div_module =
    bare (binary_type ∷ [])
    (function_of 0 (straight (instr.LocalGet 0 ∷ instr.LocalGet 1 ∷ instr.Binary W32 binary_op.DivS ∷ []) End)
    ∷ function_of 0 (straight (instr.LocalGet 0 ∷ instr.LocalGet 1 ∷ instr.Binary W32 binary_op.RemS ∷ []) End) ∷ [])
    (exported (codes "d") 0 ∷ exported (codes "r") 1 ∷ [])

-- calls the element that its argument names, as a function without parameters that gives an i32, of a table of three: a
-- function that gives 7, one without a result, nothing
abbrev pub indirect_module : ModuleTree
indirect_module = record (bare (constant_type ∷ unary_type ∷ empty_type ∷ [])
    (function_of 0 (straight (i32_const 7 ∷ []) End) ∷ function_of 2 End ∷ function_of 1 (straight (instr.LocalGet 0 ∷ []) (CallIndirect 0 End)) ∷ [])
    (exported (codes "i") 2 ∷ [])) {
      tables = at_least 3 ∷ [];
      element_segments = record { table = 0; offset = straight (i32_const 0 ∷ []) End; functions = 0 ∷ 1 ∷ [] } ∷ [];
    }

-- calls itself down to 0
abbrev pub recursive_code : Code
recursive_code =
    straight (instr.LocalGet 0 ∷ instr.Eqz W32 ∷ [])
    (If (Some type.I32) (straight (i32_const 0 ∷ []) End) (straight (instr.LocalGet 0 ∷ i32_const 1 ∷ i32_sub ∷ []) (Call 0 End)) End)

abbrev pub recursive_module : ModuleTree
recursive_module = bare (unary_type ∷ []) (function_of 0 recursive_code ∷ []) (exported (codes "rec") 0 ∷ [])

-- counts its argument down in a loop
abbrev pub count_code : Code
count_code =
    Loop None (straight (instr.LocalGet 0 ∷ i32_const 1 ∷ i32_sub ∷ instr.LocalTee 0 ∷ instr.BrIf 0 ∷ []) End) (straight (instr.LocalGet 0 ∷ []) End)

abbrev pub count_module : ModuleTree
count_module = bare (unary_type ∷ []) (function_of 0 count_code ∷ []) (exported (codes "c") 0 ∷ [])

-- adds 1 to a global and gives it
abbrev pub next_module : ModuleTree
next_module = record (bare (constant_type ∷ [])
    (function_of 0 (straight (instr.GlobalGet 0 ∷ i32_const 1 ∷ i32_add ∷ instr.GlobalSet 0 ∷ instr.GlobalGet 0 ∷ []) End) ∷ [])
    (exported (codes "n") 0 ∷ [])) {
      globals = record { global_type = record { value = type.I32; mutable = true }; init = straight (i32_const 0 ∷ []) End } ∷ [];
    }

-- its start function traps
abbrev pub start_module : ModuleTree
start_module = record (bare (empty_type ∷ []) (function_of 0 (straight (instr.Unreachable ∷ []) End) ∷ []) (exported (codes "s") 0 ∷ [])) { start = Some 0 }

-- its start function loops for good
abbrev pub spin_module : ModuleTree
spin_module = record (bare (empty_type ∷ []) (function_of 0 (Loop None (straight (instr.Br 0 ∷ []) End) End) ∷ []) (exported (codes "s") 0 ∷ [])) { start = Some 0 }

-- its two data bytes do not fit its memory
abbrev pub misfit_module : ModuleTree
misfit_module = record (paged [] [] []) {
  data_segments = record { memory = 0; offset = straight (i32_const 65535 ∷ []) End; bytes = codes "ab" } ∷ [];
}

-- data that a later segment overwrites in part; that segment begins at the value of a global
abbrev pub overlap_module : ModuleTree
overlap_module = record (paged [] [] []) {
  globals = record { global_type = record { value = type.I32; mutable = false }; init = straight (i32_const 3 ∷ []) End } ∷ [];
  data_segments =
      record { memory = 0; offset = straight (i32_const 2 ∷ []) End; bytes = codes "abc" }
      ∷ record { memory = 0; offset = straight (instr.GlobalGet 0 ∷ []) End; bytes = codes "z" } ∷ [];
}

-- ---- of profile 2

-- gives the signed number that the lowest 8 bits of its argument are
abbrev pub extend_module : ModuleTree
extend_module = bare (unary_type ∷ []) (function_of 0 (straight (instr.LocalGet 0 ∷ instr.Unary W32 (unary_op.ExtendS Pack8) ∷ []) End) ∷ []) (exported (codes "e") 0 ∷ [])

-- fills as many bytes as its second argument says, from its first on, with 7
abbrev pub fill_module : ModuleTree
fill_module = paged (function_type (type.I32 ∷ type.I32 ∷ []) [] ∷ [])
    (function_of 0 (straight (instr.LocalGet 0 ∷ i32_const 7 ∷ instr.LocalGet 1 ∷ instr.MemoryFill ∷ []) End) ∷ [])
    (exported (codes "f") 0 ∷ [])

-- a byte of data
abbrev pub counted_module : ModuleTree
counted_module = record (paged [] [] []) {
  data_segments = record { memory = 0; offset = straight (i32_const 0 ∷ []) End; bytes = codes "a" } ∷ [];
}
