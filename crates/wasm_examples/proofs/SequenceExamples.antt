-- Modules as the code has them, with numbered sequences and runs of locals, and the trees that they stand for.
use Rattle.std.specs.Prelude.{◌≡◌, List, [], ◌∷◌, Some, None, true, false, map, refl}
use Rattle.wasm_types.specs.declared.types.ValType.{ValType}
use Rattle.wasm_types.specs.declared.types.ValType.TheVariants as type
use Rattle.wasm_types.specs.declared.instr.Instr.TheVariants as instr
use Rattle.wasm_types.specs.declared.instr.Op.TheVariants as op
use Rattle.wasm_types.specs.declared.instr.Expr.{Expr}
use Rattle.wasm_types.specs.declared.module.Function.{Function}
use Rattle.wasm_types.specs.declared.module.ExportDesc.TheVariants as export
use Rattle.wasm_types.specs.declared.module.ImportDesc.TheVariants as item
use Rattle.wasm_types.specs.declared.module.Module.{Module}
use Rattle.wasm_types.specs.Tree.{Code, End, Plain, Block, Loop, If, Call, CallIndirect, codes, expr_tree, function_tree, module_tree}
use Rattle.wasm_types.specs.Sequences.{code_at, named_in}
use Rattle.wasm_types.specs.SameTypes.{same, all_same, same_type}

-- the outermost sequence is the last; each op with an inner sequence names an earlier one
abbrev sequences : Expr
sequences = record {
  sequences =
      (op.Plain instr.Nop ∷ [])
      ∷ (op.Plain instr.Drop ∷ op.Block None 0 ∷ [])
      ∷ (op.Plain (instr.LocalGet 0) ∷ op.If (Some type.I32) 0 1 ∷ op.Call 3 ∷ op.Loop None 1 ∷ op.CallIndirect 4 ∷ [])
      ∷ [];
}

abbrev inner : Code
inner = Plain instr.Drop (Block None (Plain instr.Nop End) End)

sequences-tree : expr_tree sequences ≡ Plain (instr.LocalGet 0) (If (Some type.I32) (Plain instr.Nop End) inner (Call 3 (Loop None inner (CallIndirect 4 End))))
unfolding codes
sequences-tree = refl

-- a name that is none of an earlier one is that of an empty sequence
abbrev looking_ahead : Expr
looking_ahead = record { sequences = (op.Block None 1 ∷ op.Loop None 0 ∷ []) ∷ (op.Block None 0 ∷ []) ∷ [] }

looking_ahead-tree : expr_tree looking_ahead ≡ Block None (Block None End (Loop None End End)) End
unfolding codes
looking_ahead-tree = refl

no_sequence-tree : expr_tree (record { sequences = [] }) ≡ End
unfolding codes
no_sequence-tree = refl

-- what is left from a place on, and what is named there
place-of_a_sequence : code_at sequences 2 2 ≡ Call 3 (Loop None inner (CallIndirect 4 End))
unfolding codes
place-of_a_sequence = refl

place-past_the_end : code_at sequences 1 2 ≡ End
unfolding codes
place-past_the_end = refl

name-of_an_earlier_one : named_in sequences 2 1 ≡ inner
unfolding codes
name-of_an_earlier_one = refl

name-of_its_own : named_in sequences 1 1 ≡ End
unfolding codes
name-of_its_own = refl

-- nor does what is left from a place on name a later one
place-before_what_it_names : code_at looking_ahead 0 0 ≡ Block None End (Loop None End End)
unfolding codes
place-before_what_it_names = refl

-- each block has its own result, and arms that are not there are empty
abbrev with_results : Expr
with_results = record { sequences = (op.Block (Some type.I64) 1 ∷ op.Loop (Some type.F32) 1 ∷ op.If (Some type.F64) 1 2 ∷ []) ∷ [] }

results-tree : expr_tree with_results ≡ Block (Some type.I64) End (Loop (Some type.F32) End (If (Some type.F64) End End End))
unfolding codes
results-tree = refl

-- runs of locals, one by one
abbrev function_of_runs : Function
function_of_runs = record {
  type_index = 7;
  locals = record { count = 2; value = type.I32 } ∷ record { count = 0; value = type.I64 } ∷ record { count = 1; value = type.F64 } ∷ [];
  body = record { sequences = (op.Plain instr.Nop ∷ []) ∷ [] };
}

function-tree : function_tree function_of_runs ≡ record { type_index = 7; locals = type.I32 ∷ type.I32 ∷ type.F64 ∷ []; body = Plain instr.Nop End }
unfolding codes
function-tree = refl

-- a module, part by part
abbrev expression : Expr
expression = record { sequences = (op.Plain (instr.GlobalGet 2) ∷ []) ∷ [] }

abbrev module_of_parts : Module
module_of_parts = record {
  types = record { params = type.I32 ∷ []; results = [] } ∷ [];
  imports = record { module_name = 97 ∷ []; item_name = 98 ∷ []; desc = item.Func 9 } ∷ [];
  functions = function_of_runs ∷ [];
  tables = record { min = 1; max = None } ∷ [];
  memories = record { min = 2; max = Some 3 } ∷ [];
  globals = record { global_type = record { value = type.I64; mutable = true }; init = expression } ∷ [];
  exports = record { name = 99 ∷ []; desc = export.Func 8 } ∷ [];
  start = Some 0;
  element_segments = record { table = 4; offset = expression; functions = 5 ∷ [] } ∷ [];
  data_segments = record { memory = 6; offset = expression; bytes = 7 ∷ [] } ∷ [];
}

module-tree : module_tree module_of_parts ≡ record {
  types = record { params = type.I32 ∷ []; results = [] } ∷ [];
  imports = record { module_name = 97 ∷ []; item_name = 98 ∷ []; desc = item.Func 9 } ∷ [];
  functions = record { type_index = 7; locals = type.I32 ∷ type.I32 ∷ type.F64 ∷ []; body = Plain instr.Nop End } ∷ [];
  tables = record { min = 1; max = None } ∷ [];
  memories = record { min = 2; max = Some 3 } ∷ [];
  globals = record { global_type = record { value = type.I64; mutable = true }; init = Plain (instr.GlobalGet 2) End } ∷ [];
  exports = record { name = 99 ∷ []; desc = export.Func 8 } ∷ [];
  start = Some 0;
  element_segments = record { table = 4; offset = Plain (instr.GlobalGet 2) End; functions = 5 ∷ [] } ∷ [];
  data_segments = record { memory = 6; offset = Plain (instr.GlobalGet 2) End; bytes = 7 ∷ [] } ∷ [];
}
unfolding codes
module-tree = refl

-- ---- types that are the same

each_type_is_the_same : all_same (type.I32 ∷ type.I64 ∷ type.F32 ∷ type.F64 ∷ []) (type.I32 ∷ type.I64 ∷ type.F32 ∷ type.F64 ∷ []) ≡ true
each_type_is_the_same = refl

-- each type with each
abbrev types : List ValType
types = type.I32 ∷ type.I64 ∷ type.F32 ∷ type.F64 ∷ []

no_two_types_are_the_same : map (λ t. map (λ u. same t u) types) types
    ≡ (true ∷ false ∷ false ∷ false ∷ [])
    ∷ (false ∷ true ∷ false ∷ false ∷ [])
    ∷ (false ∷ false ∷ true ∷ false ∷ [])
    ∷ (false ∷ false ∷ false ∷ true ∷ [])
    ∷ []
no_two_types_are_the_same = refl

other_order : all_same (type.I32 ∷ type.I64 ∷ []) (type.I64 ∷ type.I32 ∷ []) ≡ false
other_order = refl

shorter : all_same (type.I32 ∷ []) (type.I32 ∷ type.I32 ∷ []) ≡ false
shorter = refl

shorter_than_the_other : all_same [] (type.I32 ∷ []) ≡ false
shorter_than_the_other = refl

other_float : same type.F32 type.F64 ≡ false
other_float = refl

other_results : same_type (record { params = []; results = [] }) (record { params = []; results = type.I32 ∷ [] }) ≡ false
other_results = refl

other_parameters : same_type (record { params = type.I64 ∷ []; results = [] }) (record { params = type.I32 ∷ []; results = [] }) ≡ false
other_parameters = refl
