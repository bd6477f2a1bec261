-- What stands in the store behind each kind of end: behind a trap, the end of the fuel, a call in a call, and a start function.
use Rattle.std.specs.Prelude.{◌≡◌, ℕ, List, [], ◌∷◌, Option, Some, None, true, slice_get, replicate, refl}
use Rattle.wasm_types.specs.declared.types.ValType.TheVariants as type
use Rattle.wasm_values.specs.declared.outcome.Val.{Val}
use Rattle.wasm_values.specs.declared.outcome.Val.TheVariants.{I32}
use Rattle.wasm_values.specs.declared.outcome.TrapKind.TheVariants as trap
use Rattle.wasm_values.specs.declared.outcome.Outcome.{Outcome}
use Rattle.wasm_values.specs.declared.outcome.Outcome.TheVariants.{Done, Trap, Fuel}
use Rattle.wasm_types.specs.declared.instr.Width.TheVariants.{W32}
use Rattle.wasm_types.specs.declared.instr.BinaryOp.TheVariants as binary_op
use Rattle.wasm_types.specs.declared.instr.Instr.TheVariants as instr
use Rattle.wasm_types.specs.Tree.{Code, End, Block, Call, CallIndirect, ModuleTree}
use Rattle.wasm_spec.specs.Execution.{exec}
use Rattle.wasm_spec.specs.Result.{CallResult, call_result}
use Rattle.wasm_examples.proofs.Modules.{straight, i32_const, i32_load, i32_store, function_of, at_least, paged, grow_module, empty_type, unary_type, constant_type}

-- ---- a byte and a global, behind each kind of trap

abbrev outcome_of : Option CallResult → Option Outcome
outcome_of None = None
outcome_of (Some r) = Some r.outcome

-- the byte at address 0, and the globals
abbrev left_of : Option CallResult → Option (Outcome × (Option ℕ × List Val))
left_of None = None
left_of (Some r) = Some (r.outcome, (slice_get r.store.memory 0, r.store.globals))

-- it stores 77 at address 0 and sets its global to 6, and goes on so; it has a table of one empty element
abbrev stored_then : Code → ModuleTree
stored_then code = record (paged (empty_type ∷ []) (function_of 0 (straight (i32_const 0 ∷ i32_const 77 ∷ i32_store 0 ∷ i32_const 6 ∷ instr.GlobalSet 0 ∷ []) code) ∷ []) []) {
  tables = at_least 1 ∷ [];
  globals = record { global_type = record { value = type.I32; mutable = true }; init = straight (i32_const 5 ∷ []) End } ∷ [];
}

abbrev ends : ℕ → Code → Option (Outcome × (Option ℕ × List Val))
ends fuel code = left_of (call_result (stored_then code) (record { pages = 1; depth = 1; request = [] }) 0 [] fuel)

abbrev trapped : Outcome → Option (Outcome × (Option ℕ × List Val))
trapped o = Some (o, (Some 77, I32 6 ∷ []))

behind_unreachable : ends 20 (straight (instr.Unreachable ∷ []) End) ≡ trapped (Trap trap.Unreachable)
unfolding exec
behind_unreachable = refl

behind_a_load_that_traps : ends 20 (straight (i32_const 65533 ∷ i32_load 0 ∷ instr.Drop ∷ []) End) ≡ trapped (Trap trap.Memory)
unfolding exec
behind_a_load_that_traps = refl

behind_a_store_that_traps : ends 20 (straight (i32_const 65533 ∷ i32_const 1 ∷ i32_store 0 ∷ []) End) ≡ trapped (Trap trap.Memory)
unfolding exec
behind_a_store_that_traps = refl

behind_a_division_that_traps : ends 20 (straight (i32_const 1 ∷ i32_const 0 ∷ instr.Binary W32 binary_op.DivU ∷ instr.Drop ∷ []) End) ≡ trapped (Trap trap.Divide)
unfolding exec
behind_a_division_that_traps = refl

behind_a_call_past_the_table : ends 20 (straight (i32_const 1 ∷ []) (CallIndirect 0 End)) ≡ trapped (Trap trap.Element)
unfolding exec
behind_a_call_past_the_table = refl

behind_a_call_of_an_empty_element : ends 20 (straight (i32_const 0 ∷ []) (CallIndirect 0 End)) ≡ trapped (Trap trap.Uninit)
unfolding exec
behind_a_call_of_an_empty_element = refl

behind_a_call_too_deep : ends 20 (Call 0 End) ≡ trapped (Trap trap.Exhausted)
unfolding exec
behind_a_call_too_deep = refl

behind_the_end_of_the_fuel : ends 5 (straight (instr.Nop ∷ []) End) ≡ trapped Fuel
unfolding exec
behind_the_end_of_the_fuel = refl

-- ---- what a callee wrote stays, where it traps and where the fuel ends in it, and its caller has a local

abbrev called_in : ℕ → Code → Option (Outcome × (Option ℕ × List Val))
called_in fuel code = left_of (call_result (paged (empty_type ∷ [])
    (record { type_index = 0; locals = type.I32 ∷ []; body = Call 1 End } ∷ function_of 0 (straight (i32_const 0 ∷ i32_const 77 ∷ i32_store 0 ∷ []) code) ∷ []) [])
    (record { pages = 1; depth = 2; request = [] }) 0 [] fuel)

trap_in_a_callee : called_in 20 (straight (instr.Unreachable ∷ []) End) ≡ Some (Trap trap.Unreachable, (Some 77, []))
unfolding exec
trap_in_a_callee = refl

end_of_the_fuel_in_a_callee : called_in 4 (straight (instr.Nop ∷ []) End) ≡ Some (Fuel, (Some 77, []))
unfolding exec
end_of_the_fuel_in_a_callee = refl

-- ---- an export begins with what start left: its bytes, and the table

-- function 0 starts, and stores 77 at address 0; 1 gives what stands there; 2 calls 1 by the table
abbrev started : ModuleTree
started = record (paged (empty_type ∷ constant_type ∷ [])
    (function_of 0 (straight (i32_const 0 ∷ i32_const 77 ∷ i32_store 0 ∷ []) End) ∷ function_of 1 (straight (i32_const 0 ∷ i32_load 0 ∷ []) End) ∷ function_of 1 (straight (i32_const 0 ∷ []) (CallIndirect 1 End)) ∷ []) []) {
      tables = at_least 1 ∷ [];
      start = Some 0;
      element_segments = record { table = 0; offset = straight (i32_const 0 ∷ []) End; functions = 1 ∷ [] } ∷ [];
    }

abbrev behind_start : ℕ → Option Outcome
behind_start x = outcome_of (call_result started (record { pages = 1; depth = 2; request = [] }) x [] 20)

memory_behind_start : behind_start 1 ≡ Some (Done (Some (I32 77)))
unfolding exec
memory_behind_start = refl

table_behind_start : behind_start 2 ≡ Some (Done (Some (I32 77)))
unfolding exec
table_behind_start = refl

-- ---- the order of traps at the greatest depth

-- element 0 takes and gives an i32, element 1 is empty; function 1 calls its argument's element as one that takes and gives nothing
abbrev other_elements : ModuleTree
other_elements = record (paged (empty_type ∷ unary_type ∷ []) (function_of 1 (straight (instr.LocalGet 0 ∷ []) End) ∷ function_of 1 (straight (instr.LocalGet 0 ∷ []) (CallIndirect 0 (straight (i32_const 0 ∷ []) End))) ∷ []) []) {
  tables = at_least 2 ∷ [];
  element_segments = record { table = 0; offset = straight (i32_const 0 ∷ []) End; functions = 0 ∷ [] } ∷ [];
}

abbrev at_the_depth : ℕ → Option Outcome
at_the_depth i = outcome_of (call_result other_elements (record { pages = 1; depth = 1; request = [] }) 1 (I32 i ∷ []) 20)

signature_before_the_depth : at_the_depth 0 ≡ Some (Trap trap.Signature)
unfolding exec
signature_before_the_depth = refl

empty_element_before_the_depth : at_the_depth 1 ≡ Some (Trap trap.Uninit)
unfolding exec
empty_element_before_the_depth = refl

-- ---- lengths and indices above 255

-- 300 bytes of 5 from address 0, and a second page
abbrev two_pages : Code → ModuleTree
two_pages code = record (paged (empty_type ∷ []) (function_of 0 code ∷ []) []) {
  memories = at_least 2 ∷ [];
  data_segments = record { memory = 0; offset = straight (i32_const 0 ∷ []) End; bytes = replicate 300 5 } ∷ [];
}

abbrev byte_in : ℕ → Option CallResult → Option ℕ
byte_in at None = None
byte_in at (Some r) = slice_get r.store.memory at

abbrev byte_at : ℕ → Code → Option ℕ
byte_at at code = byte_in at (call_result (two_pages code) (record { pages = 2; depth = 1; request = [] }) 0 [] 20)

last_of_300_bytes_copied : byte_at 1299 (straight (i32_const 1000 ∷ i32_const 0 ∷ i32_const 300 ∷ instr.MemoryCopy ∷ []) End) ≡ Some 5
unfolding exec
last_of_300_bytes_copied = refl

last_of_65537_bytes_filled : byte_at 65536 (straight (i32_const 0 ∷ i32_const 8 ∷ i32_const 65537 ∷ instr.MemoryFill ∷ []) End) ≡ Some 8
unfolding exec
last_of_65537_bytes_filled = refl

-- of one label and the last one, the last
abbrev labels : ModuleTree
labels = paged (constant_type ∷ []) (function_of 0 (Block None (Block None (straight (i32_const 256 ∷ instr.BrTable (0 ∷ []) 1 ∷ []) End) (straight (i32_const 7 ∷ instr.Return ∷ []) End)) (straight (i32_const 9 ∷ []) End)) ∷ []) []

label_256 : outcome_of (call_result labels (record { pages = 1; depth = 1; request = [] }) 0 [] 20) ≡ Some (Done (Some (I32 9)))
unfolding exec
label_256 = refl

-- ---- a memory at its maximum

growth_by_nothing_at_the_maximum : outcome_of (call_result (record grow_module { memories = record { min = 2; max = Some 2 } ∷ [] }) (record { pages = 2; depth = 1; request = [] }) 0 (I32 0 ∷ []) 20) ≡ Some (Done (Some (I32 2)))
unfolding exec
growth_by_nothing_at_the_maximum = refl
