-- What a caller finds behind a call, however the function ended.
use Rattle.std.specs.Prelude.{◌≡◌, ℕ, List, [], ◌∷◌, Option, Some, None, refl}
use Rattle.wasm_types.specs.declared.types.ValType.TheVariants as type
use Rattle.wasm_values.specs.declared.outcome.Val.{Val}
use Rattle.wasm_values.specs.declared.outcome.Val.TheVariants.{I32}
use Rattle.wasm_values.specs.declared.outcome.TrapKind.TheVariants as trap
use Rattle.wasm_values.specs.declared.outcome.Outcome.{Outcome}
use Rattle.wasm_values.specs.declared.outcome.Outcome.TheVariants.{Done, Trap}
use Rattle.wasm_types.specs.declared.instr.Width.TheVariants.{W32}
use Rattle.wasm_types.specs.declared.instr.Instr.{Instr}
use Rattle.wasm_types.specs.declared.instr.Instr.TheVariants as instr
use Rattle.wasm_types.specs.Tree.{End, Block, If, Call, CallIndirect, ModuleTree}
use Rattle.wasm_spec.specs.Execution.{exec}
use Rattle.wasm_spec.specs.Result.{CallResult, call_result}
use Rattle.wasm_examples.proofs.Modules.{straight, i32_const, i32_sub, i32_load, function_type, at_least, bare, paged, function_of, empty_type, constant_type}

abbrev ending : Option CallResult → Option (Outcome × ℕ)
ending None = None
ending (Some r) = Some (r.outcome, r.fuel)

abbrev called : ModuleTree → List Val → Option (Outcome × ℕ)
called m arguments = ending (call_result m (record { pages = 1; depth = 2; request = [] }) 0 arguments 100)

-- ---- its own locals: 5, where the function set its own one to 9

abbrev sets_and : List Instr → ModuleTree
sets_and last = bare (constant_type ∷ empty_type ∷ [])
    (record { type_index = 0; locals = type.I32 ∷ []; body = straight (i32_const 5 ∷ instr.LocalSet 0 ∷ []) (Call 1 (straight (instr.LocalGet 0 ∷ []) End)) }
    ∷ record { type_index = 1; locals = type.I32 ∷ []; body = straight (i32_const 9 ∷ instr.LocalSet 0 ∷ last) End } ∷ []) []

behind_its_end : called (sets_and []) [] ≡ Some (Done (Some (I32 5)), 94)
unfolding exec
behind_its_end = refl

behind_a_return : called (sets_and (instr.Return ∷ [])) [] ≡ Some (Done (Some (I32 5)), 93)
unfolding exec
behind_a_return = refl

behind_a_branch_to_its_label : called (sets_and (instr.Br 0 ∷ [])) [] ≡ Some (Done (Some (I32 5)), 93)
unfolding exec
behind_a_branch_to_its_label = refl

-- ---- depth and traps

-- calls itself through the table, as often as its argument says
abbrev through_the_table : ModuleTree
through_the_table = record (bare (function_type (type.I32 ∷ []) [] ∷ [])
    (function_of 0 (straight (instr.LocalGet 0 ∷ []) (If None (straight (instr.LocalGet 0 ∷ i32_const 1 ∷ i32_sub ∷ i32_const 0 ∷ []) (CallIndirect 0 End)) End End)) ∷ []) []) {
      tables = at_least 1 ∷ [];
      element_segments = record { table = 0; offset = straight (i32_const 0 ∷ []) End; functions = 0 ∷ [] } ∷ [];
    }

element_to_the_depth : called through_the_table (I32 1 ∷ []) ≡ Some (Done None, 91)
unfolding exec
element_to_the_depth = refl

element_past_the_depth : called through_the_table (I32 2 ∷ []) ≡ Some (Trap trap.Exhausted, 86)
unfolding exec
element_past_the_depth = refl

trap_in_a_block : called (bare (empty_type ∷ []) (function_of 0 (Block None (straight (instr.Unreachable ∷ []) End) End) ∷ []) []) [] ≡ Some (Trap trap.Unreachable, 98)
unfolding exec
trap_in_a_block = refl

-- ---- a store and a load at the same offset

store_at_its_offset : called (paged (constant_type ∷ []) (function_of 0 (straight (i32_const 0 ∷ i32_const 77 ∷ instr.Store W32 (record { align = 0; offset = 1 }) ∷ i32_const 0 ∷ i32_load 1 ∷ []) End) ∷ []) []) [] ≡ Some (Done (Some (I32 77)), 95)
unfolding exec
store_at_its_offset = refl
