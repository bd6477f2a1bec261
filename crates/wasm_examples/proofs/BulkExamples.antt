-- Copies and fills. The expected values are those of another engine, V8.
use Rattle.std.specs.Prelude.{◌≡◌, ℕ, List, [], ◌∷◌, Bool, true, false, Option, Some, None, slice_get, refl}
use Rattle.wasm_types.specs.declared.types.ValType.TheVariants as type
use Rattle.wasm_values.specs.declared.outcome.Val.TheVariants.{I64}
use Rattle.wasm_values.specs.declared.outcome.TrapKind.TheVariants as trap
use Rattle.wasm_values.specs.declared.outcome.Outcome.{Outcome}
use Rattle.wasm_values.specs.declared.outcome.Outcome.TheVariants.{Done, Trap}
use Rattle.wasm_types.specs.declared.instr.Width.TheVariants.{W32, W64}
use Rattle.wasm_types.specs.declared.instr.PackSize.TheVariants.{Pack8, Pack32}
use Rattle.wasm_types.specs.declared.instr.MemArg.{MemArg}
use Rattle.wasm_types.specs.declared.instr.Instr.{Instr}
use Rattle.wasm_types.specs.declared.instr.Instr.TheVariants as instr
use Rattle.wasm_types.specs.Tree.{Code, End, Block, Loop, If, Call, CallIndirect, ModuleTree}
use Rattle.wasm_spec.specs.Bulk.{uses_bulk}
use Rattle.wasm_spec.specs.Execution.{exec}
use Rattle.wasm_spec.specs.Result.{CallResult, call_result}
use Rattle.wasm_examples.proofs.Modules.{straight, i32_const, function_type, function_of, at_least, bare}

abbrev here : MemArg
here = record { align = 0; offset = 0 }

-- with the bytes from 1 to 8 from address 8 on
abbrev with_bytes : (a b c : ℕ) → Instr → ModuleTree
with_bytes a b c i = record (bare (function_type [] (type.I64 ∷ []) ∷ [])
    (function_of 0 (straight (i32_const 8 ∷ instr.Const (I64 578437695752307201) ∷ instr.Store W64 here ∷ i32_const a ∷ i32_const b ∷ i32_const c ∷ i ∷ i32_const 8 ∷ instr.Load W64 here ∷ []) End) ∷ []) []) {
      memories = at_least 1 ∷ [];
    }

abbrev outcome_of : Option CallResult → Option Outcome
outcome_of None = None
outcome_of (Some r) = Some r.outcome

abbrev after : (a b c : ℕ) → Instr → Option Outcome
after a b c i = outcome_of (call_result (with_bytes a b c i) (record { pages = 32; depth = 4; request = [] }) 0 [] 20)

abbrev gives : ℕ → Option Outcome
gives n = Some (Done (Some (I64 n)))

copy_up : after 9 8 7 instr.MemoryCopy ≡ gives 506097522914230529
unfolding exec
copy_up = refl

copy_down : after 8 9 7 instr.MemoryCopy ≡ gives 578720274552455938
unfolding exec
copy_down = refl

copy_none_at_the_end : after 65536 65536 0 instr.MemoryCopy ≡ gives 578437695752307201
unfolding exec
copy_none_at_the_end = refl

copy_none_to_past_the_end : after 65537 0 0 instr.MemoryCopy ≡ Some (Trap trap.Memory)
unfolding exec
copy_none_to_past_the_end = refl

copy_none_from_past_the_end : after 0 65537 0 instr.MemoryCopy ≡ Some (Trap trap.Memory)
unfolding exec
copy_none_from_past_the_end = refl

copy_from_past_the_end : after 8 65533 4 instr.MemoryCopy ≡ Some (Trap trap.Memory)
unfolding exec
copy_from_past_the_end = refl

copy_to_past_the_end : after 65533 8 4 instr.MemoryCopy ≡ Some (Trap trap.Memory)
unfolding exec
copy_to_past_the_end = refl

fill_by_the_low_bits : after 10 511 3 instr.MemoryFill ≡ gives 578438773721727489
unfolding exec
fill_by_the_low_bits = refl

fill_none_at_the_end : after 65536 1 0 instr.MemoryFill ≡ gives 578437695752307201
unfolding exec
fill_none_at_the_end = refl

fill_none_past_the_end : after 65537 1 0 instr.MemoryFill ≡ Some (Trap trap.Memory)
unfolding exec
fill_none_past_the_end = refl

fill_past_the_end : after 65533 1 4 instr.MemoryFill ≡ Some (Trap trap.Memory)
unfolding exec
fill_past_the_end = refl

fill_far_past_the_end : after 4294967295 1 4294967295 instr.MemoryFill ≡ Some (Trap trap.Memory)
unfolding exec
fill_far_past_the_end = refl

-- its end is past every number of 32 bits
fill_past_all_numbers : after 4294967295 1 2 instr.MemoryFill ≡ Some (Trap trap.Memory)
unfolding exec
fill_past_all_numbers = refl

-- a trap leaves each byte as it was
abbrev byte_of : ℕ → Option CallResult → Option ℕ
byte_of at None = None
byte_of at (Some r) = slice_get r.store.memory at

fill_that_traps_writes_nothing : byte_of 8 (call_result (with_bytes 8 7 65529 instr.MemoryFill) (record { pages = 32; depth = 4; request = [] }) 0 [] 20) ≡ Some 1
unfolding exec
fill_that_traps_writes_nothing = refl

copy_that_traps_writes_nothing : byte_of 8 (call_result (with_bytes 8 7 65529 instr.MemoryCopy) (record { pages = 32; depth = 4; request = [] }) 0 [] 20) ≡ Some 1
unfolding exec
copy_that_traps_writes_nothing = refl

-- all three operands are numbers of 32 bits, and there are three
abbrev stuck_on : List Instr → Option CallResult
stuck_on operands = call_result (record (bare (function_type [] [] ∷ []) (function_of 0 (straight operands End) ∷ []) []) { memories = at_least 1 ∷ [] }) (record { pages = 32; depth = 4; request = [] }) 0 [] 20

fill_of_64_bits : stuck_on (i32_const 0 ∷ i32_const 0 ∷ instr.Const (I64 0) ∷ instr.MemoryFill ∷ []) ≡ None
unfolding exec
fill_of_64_bits = refl

fill_by_64_bits : stuck_on (i32_const 0 ∷ instr.Const (I64 0) ∷ i32_const 0 ∷ instr.MemoryFill ∷ []) ≡ None
unfolding exec
fill_by_64_bits = refl

fill_to_64_bits : stuck_on (instr.Const (I64 0) ∷ i32_const 0 ∷ i32_const 0 ∷ instr.MemoryFill ∷ []) ≡ None
unfolding exec
fill_to_64_bits = refl

copy_of_two : stuck_on (i32_const 0 ∷ i32_const 0 ∷ instr.MemoryCopy ∷ []) ≡ None
unfolding exec
copy_of_two = refl

-- ---- which modules copy or fill

abbrev uses : Code → Bool
uses body = uses_bulk (bare [] (function_of 0 End ∷ function_of 0 body ∷ []) [])

abbrev fills : Code
fills = straight (instr.MemoryFill ∷ []) End

fill_alone : uses fills ≡ true
fill_alone = refl

copy_behind_another : uses (straight (instr.Nop ∷ instr.MemoryCopy ∷ []) End) ≡ true
copy_behind_another = refl

fill_before_another : uses (straight (instr.MemoryFill ∷ instr.Nop ∷ []) End) ≡ true
fill_before_another = refl

fill_in_a_block : uses (Block None fills End) ≡ true
fill_in_a_block = refl

fill_behind_a_block : uses (Block None End fills) ≡ true
fill_behind_a_block = refl

fill_in_a_loop : uses (Loop None fills End) ≡ true
fill_in_a_loop = refl

fill_behind_a_loop : uses (Loop None End fills) ≡ true
fill_behind_a_loop = refl

fill_in_the_first_arm : uses (If None fills End End) ≡ true
fill_in_the_first_arm = refl

fill_in_the_second_arm : uses (If None End fills End) ≡ true
fill_in_the_second_arm = refl

fill_behind_an_if : uses (If None End End fills) ≡ true
fill_behind_an_if = refl

fill_behind_a_call : uses (Call 0 fills) ≡ true
fill_behind_a_call = refl

fill_behind_a_call_of_an_element : uses (CallIndirect 0 fills) ≡ true
fill_behind_a_call_of_an_element = refl

-- growth and stores are none
neither_copy_nor_fill : uses (Block None (Loop None (If None (Call 0 End) (CallIndirect 0 End) End) End) (straight (instr.MemoryGrow ∷ instr.Store W64 here ∷ []) End)) ≡ false
neither_copy_nor_fill = refl

narrow_store_is_none : uses (straight (instr.StorePacked W32 Pack8 here ∷ instr.StorePacked W64 Pack32 here ∷ []) End) ≡ false
narrow_store_is_none = refl
