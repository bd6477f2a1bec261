-- A module with a function for each form of control, and for loads, stores and conversions; and the results of its calls on
-- a fresh instance. The expected values are those of another engine, V8.
use Rattle.std.specs.Prelude.{◌≡◌, ℕ, List, [], ◌∷◌, Option, Some, None, true, refl}
use Rattle.wasm_types.specs.declared.types.ValType.{ValType}
use Rattle.wasm_types.specs.declared.types.ValType.TheVariants as type
use Rattle.wasm_values.specs.declared.outcome.Val.{Val}
use Rattle.wasm_values.specs.declared.outcome.Val.TheVariants.{I32, I64}
use Rattle.wasm_values.specs.declared.outcome.TrapKind.TheVariants as trap
use Rattle.wasm_values.specs.declared.outcome.Outcome.{Outcome}
use Rattle.wasm_values.specs.declared.outcome.Outcome.TheVariants.{Done, Trap}
use Rattle.wasm_types.specs.declared.instr.Width.TheVariants.{W32, W64}
use Rattle.wasm_types.specs.declared.instr.Sign.TheVariants.{Signed, Unsigned}
use Rattle.wasm_types.specs.declared.instr.PackSize.TheVariants.{Pack8, Pack16, Pack32}
use Rattle.wasm_types.specs.declared.instr.MemArg.{MemArg}
use Rattle.wasm_types.specs.declared.instr.BinaryOp.TheVariants as binary_op
use Rattle.wasm_types.specs.declared.instr.CompareOp.TheVariants as compare_op
use Rattle.wasm_types.specs.declared.instr.Instr.TheVariants as instr
use Rattle.wasm_types.specs.Tree.{Code, End, Block, Loop, If, Call, CallIndirect, FunctionTree, ModuleTree}
use Rattle.wasm_spec.specs.Execution.{exec}
use Rattle.wasm_spec.specs.Result.{CallResult, call_result}
use Rattle.wasm_examples.proofs.Modules.{straight, i32_const, function_type, at_least, bare}

abbrev access : ℕ → MemArg
access offset = record { align = 0; offset = offset }

abbrev function_at : ℕ → List ValType → Code → FunctionTree
function_at t locals body = record { type_index = t; locals = locals; body = body }

-- ---- the functions

-- a branch keeps the label's value and drops what lies below it
abbrev block_value_code : Code
block_value_code = Block (Some type.I32) (straight (i32_const 1 ∷ i32_const 2 ∷ instr.Br 0 ∷ []) End) End

-- a branch past the inner block
abbrev outer_block_code : Code
outer_block_code = Block (Some type.I32) (straight (i32_const 7 ∷ []) (Block (Some type.I32) (straight (i32_const 5 ∷ i32_const 6 ∷ instr.Br 1 ∷ []) End) (straight (instr.Drop ∷ []) End))) End

-- a conditional branch with a value
abbrev branch_if_code : Code
branch_if_code = Block (Some type.I32) (straight (i32_const 3 ∷ instr.LocalGet 0 ∷ instr.BrIf 0 ∷ instr.Drop ∷ i32_const 4 ∷ []) End) End

-- a table of labels, and the last one past its end
abbrev branch_table_code : Code
branch_table_code = Block None (Block None (Block None (straight (instr.LocalGet 0 ∷ instr.BrTable (0 ∷ 1 ∷ []) 2 ∷ []) End) (straight (i32_const 10 ∷ instr.Return ∷ []) End)) (straight (i32_const 11 ∷ instr.Return ∷ []) End)) (straight (i32_const 12 ∷ []) End)

-- a loop that a block ends
abbrev sum_to_code : Code
sum_to_code = Block None (Loop None (straight (instr.LocalGet 0 ∷ instr.Eqz W32 ∷ instr.BrIf 1 ∷ instr.LocalGet 0 ∷ instr.LocalGet 1 ∷ instr.Binary W32 binary_op.Add ∷ instr.LocalSet 1 ∷ instr.LocalGet 0 ∷ i32_const 1 ∷ instr.Binary W32 binary_op.Sub ∷ instr.LocalSet 0 ∷ instr.Br 0 ∷ []) End) End) (straight (instr.LocalGet 1 ∷ []) End)

-- a loop that falls out of its end with a value
abbrev loop_value_code : Code
loop_value_code = Loop (Some type.I32) (straight (i32_const 8 ∷ []) End) End

-- an if without an else
abbrev one_arm_code : Code
one_arm_code = straight (instr.LocalGet 0 ∷ []) (If None (straight (i32_const 20 ∷ instr.LocalSet 0 ∷ []) End) End (straight (instr.LocalGet 0 ∷ []) End))

-- an if with both arms
abbrev two_arms_code : Code
two_arms_code = straight (instr.LocalGet 0 ∷ []) (If (Some type.I32) (straight (i32_const 1 ∷ []) End) (straight (i32_const 2 ∷ []) End) End)

-- a return out of a loop in a block
abbrev early_return_code : Code
early_return_code = straight (i32_const 99 ∷ []) (Block None (Loop None (straight (i32_const 1 ∷ i32_const 42 ∷ instr.Return ∷ []) End) End) End)

-- the body is a label too
abbrev body_label_code : Code
body_label_code = straight (i32_const 31 ∷ i32_const 32 ∷ instr.LocalGet 0 ∷ instr.BrIf 0 ∷ instr.Drop ∷ []) End

-- select
abbrev chosen_code : Code
chosen_code = straight (i32_const 1 ∷ i32_const 2 ∷ instr.LocalGet 0 ∷ instr.Select ∷ []) End

-- a local that is set and kept
abbrev tee_twice_code : Code
tee_twice_code = straight (instr.LocalGet 0 ∷ instr.LocalTee 1 ∷ instr.LocalGet 1 ∷ instr.Binary W32 binary_op.Mul ∷ []) End

-- two calls in one expression
abbrev fibonacci_code : Code
fibonacci_code = straight (instr.LocalGet 0 ∷ i32_const 2 ∷ instr.Compare W32 compare_op.LtU ∷ []) (If (Some type.I32) (straight (instr.LocalGet 0 ∷ []) End) (straight (instr.LocalGet 0 ∷ i32_const 1 ∷ instr.Binary W32 binary_op.Sub ∷ []) (Call 12 (straight (instr.LocalGet 0 ∷ i32_const 2 ∷ instr.Binary W32 binary_op.Sub ∷ []) (Call 12 (straight (instr.Binary W32 binary_op.Add ∷ []) End))))) End)

-- an argument passed through the table
abbrev indirectly_code : Code
indirectly_code = straight (instr.LocalGet 1 ∷ instr.LocalGet 0 ∷ []) (CallIndirect 0 End)

-- both extensions
abbrev widened_code : Code
widened_code = straight (instr.LocalGet 0 ∷ instr.Extend Signed ∷ instr.LocalGet 0 ∷ instr.Extend Unsigned ∷ instr.Binary W64 binary_op.Sub ∷ []) End

-- a sum of 64 bits and its lower half
abbrev narrowed_code : Code
narrowed_code = straight (instr.LocalGet 0 ∷ instr.Const (I64 3) ∷ instr.Binary W64 binary_op.Mul ∷ instr.Wrap ∷ []) End

-- a global
abbrev counter_code : Code
counter_code = straight (instr.GlobalGet 0 ∷ instr.LocalGet 0 ∷ instr.Binary W32 binary_op.Add ∷ instr.GlobalSet 0 ∷ instr.GlobalGet 0 ∷ []) End

-- the size after growing
abbrev pages_code : Code
pages_code = straight (instr.LocalGet 0 ∷ instr.MemoryGrow ∷ instr.Drop ∷ instr.MemorySize ∷ []) End

-- a load
abbrev load32_whole_code : Code
load32_whole_code = straight (i32_const 8 ∷ instr.Const (I64 9259825810226120327) ∷ instr.Store W64 (access 0) ∷ instr.LocalGet 0 ∷ instr.Load W32 (access 7) ∷ []) End

-- a load
abbrev load64_whole_code : Code
load64_whole_code = straight (i32_const 8 ∷ instr.Const (I64 9259825810226120327) ∷ instr.Store W64 (access 0) ∷ instr.LocalGet 0 ∷ instr.Load W64 (access 7) ∷ []) End

-- a load
abbrev load32_pack8_signed_code : Code
load32_pack8_signed_code = straight (i32_const 8 ∷ instr.Const (I64 9259825810226120327) ∷ instr.Store W64 (access 0) ∷ instr.LocalGet 0 ∷ instr.LoadPacked W32 Pack8 Signed (access 7) ∷ []) End

-- a load
abbrev load32_pack8_unsigned_code : Code
load32_pack8_unsigned_code = straight (i32_const 8 ∷ instr.Const (I64 9259825810226120327) ∷ instr.Store W64 (access 0) ∷ instr.LocalGet 0 ∷ instr.LoadPacked W32 Pack8 Unsigned (access 7) ∷ []) End

-- a load
abbrev load32_pack16_signed_code : Code
load32_pack16_signed_code = straight (i32_const 8 ∷ instr.Const (I64 9259825810226120327) ∷ instr.Store W64 (access 0) ∷ instr.LocalGet 0 ∷ instr.LoadPacked W32 Pack16 Signed (access 7) ∷ []) End

-- a load
abbrev load32_pack16_unsigned_code : Code
load32_pack16_unsigned_code = straight (i32_const 8 ∷ instr.Const (I64 9259825810226120327) ∷ instr.Store W64 (access 0) ∷ instr.LocalGet 0 ∷ instr.LoadPacked W32 Pack16 Unsigned (access 7) ∷ []) End

-- a load
abbrev load64_pack8_signed_code : Code
load64_pack8_signed_code = straight (i32_const 8 ∷ instr.Const (I64 9259825810226120327) ∷ instr.Store W64 (access 0) ∷ instr.LocalGet 0 ∷ instr.LoadPacked W64 Pack8 Signed (access 7) ∷ []) End

-- a load
abbrev load64_pack16_unsigned_code : Code
load64_pack16_unsigned_code = straight (i32_const 8 ∷ instr.Const (I64 9259825810226120327) ∷ instr.Store W64 (access 0) ∷ instr.LocalGet 0 ∷ instr.LoadPacked W64 Pack16 Unsigned (access 7) ∷ []) End

-- a load
abbrev load64_pack32_signed_code : Code
load64_pack32_signed_code = straight (i32_const 8 ∷ instr.Const (I64 9259825810226120327) ∷ instr.Store W64 (access 0) ∷ instr.LocalGet 0 ∷ instr.LoadPacked W64 Pack32 Signed (access 7) ∷ []) End

-- a load
abbrev load64_pack32_unsigned_code : Code
load64_pack32_unsigned_code = straight (i32_const 8 ∷ instr.Const (I64 9259825810226120327) ∷ instr.Store W64 (access 0) ∷ instr.LocalGet 0 ∷ instr.LoadPacked W64 Pack32 Unsigned (access 7) ∷ []) End

-- a store
abbrev store32_whole_code : Code
store32_whole_code = straight (i32_const 3 ∷ instr.LocalGet 0 ∷ instr.Store W32 (access 1) ∷ i32_const 3 ∷ instr.Load W64 (access 0) ∷ []) End

-- a store
abbrev store32_pack8_code : Code
store32_pack8_code = straight (i32_const 3 ∷ instr.LocalGet 0 ∷ instr.StorePacked W32 Pack8 (access 1) ∷ i32_const 3 ∷ instr.Load W64 (access 0) ∷ []) End

-- a store
abbrev store32_pack16_code : Code
store32_pack16_code = straight (i32_const 3 ∷ instr.LocalGet 0 ∷ instr.StorePacked W32 Pack16 (access 1) ∷ i32_const 3 ∷ instr.Load W64 (access 0) ∷ []) End

-- a store
abbrev store64_pack8_code : Code
store64_pack8_code = straight (i32_const 3 ∷ instr.LocalGet 0 ∷ instr.StorePacked W64 Pack8 (access 1) ∷ i32_const 3 ∷ instr.Load W64 (access 0) ∷ []) End

-- a store
abbrev store64_pack16_code : Code
store64_pack16_code = straight (i32_const 3 ∷ instr.LocalGet 0 ∷ instr.StorePacked W64 Pack16 (access 1) ∷ i32_const 3 ∷ instr.Load W64 (access 0) ∷ []) End

-- a store
abbrev store64_pack32_code : Code
store64_pack32_code = straight (i32_const 3 ∷ instr.LocalGet 0 ∷ instr.StorePacked W64 Pack32 (access 1) ∷ i32_const 3 ∷ instr.Load W64 (access 0) ∷ []) End

abbrev programs : ModuleTree
programs = record (bare (function_type (type.I32 ∷ []) (type.I32 ∷ []) ∷ function_type [] (type.I32 ∷ []) ∷ function_type (type.I32 ∷ type.I32 ∷ []) (type.I32 ∷ []) ∷ function_type (type.I32 ∷ []) (type.I64 ∷ []) ∷ function_type (type.I64 ∷ []) (type.I32 ∷ []) ∷ function_type (type.I64 ∷ []) (type.I64 ∷ []) ∷ [])
    (function_at 1 [] block_value_code ∷ function_at 1 [] outer_block_code ∷ function_at 0 [] branch_if_code ∷ function_at 0 [] branch_table_code ∷ function_at 0 (type.I32 ∷ []) sum_to_code ∷ function_at 1 [] loop_value_code ∷ function_at 0 [] one_arm_code ∷ function_at 0 [] two_arms_code ∷ function_at 1 [] early_return_code ∷ function_at 0 [] body_label_code ∷ function_at 0 [] chosen_code ∷ function_at 0 (type.I32 ∷ []) tee_twice_code ∷ function_at 0 [] fibonacci_code ∷ function_at 2 [] indirectly_code ∷ function_at 3 [] widened_code ∷ function_at 4 [] narrowed_code ∷ function_at 0 [] counter_code ∷ function_at 0 [] pages_code ∷ function_at 0 [] load32_whole_code ∷ function_at 3 [] load64_whole_code ∷ function_at 0 [] load32_pack8_signed_code ∷ function_at 0 [] load32_pack8_unsigned_code ∷ function_at 0 [] load32_pack16_signed_code ∷ function_at 0 [] load32_pack16_unsigned_code ∷ function_at 3 [] load64_pack8_signed_code ∷ function_at 3 [] load64_pack16_unsigned_code ∷ function_at 3 [] load64_pack32_signed_code ∷ function_at 3 [] load64_pack32_unsigned_code ∷ function_at 3 [] store32_whole_code ∷ function_at 3 [] store32_pack8_code ∷ function_at 3 [] store32_pack16_code ∷ function_at 5 [] store64_pack8_code ∷ function_at 5 [] store64_pack16_code ∷ function_at 5 [] store64_pack32_code ∷ []) []) {
      tables = at_least 3 ∷ [];
      memories = record { min = 1; max = Some 3 } ∷ [];
      globals = record { global_type = record { value = type.I32; mutable = true }; init = straight (i32_const 30 ∷ []) End } ∷ [];
      element_segments = record { table = 0; offset = straight (i32_const 0 ∷ []) End; functions = 4 ∷ 10 ∷ [] } ∷ [];
    }

abbrev outcome_of : Option CallResult → Option Outcome
outcome_of None = None
outcome_of (Some r) = Some r.outcome

abbrev called : ℕ → List Val → Option Outcome
called x arguments = outcome_of (call_result programs (record { pages = 32; depth = 128; request = [] }) x arguments 10000)

abbrev gives : Val → Option Outcome
gives v = Some (Done (Some v))

-- ---- the results

block_value-result : called 0 [] ≡ gives (I32 2)
unfolding exec
block_value-result = refl

outer_block-result : called 1 [] ≡ gives (I32 6)
unfolding exec
outer_block-result = refl

branch_if-1 : called 2 (I32 0 ∷ []) ≡ gives (I32 4)
unfolding exec
branch_if-1 = refl

branch_if-2 : called 2 (I32 1 ∷ []) ≡ gives (I32 3)
unfolding exec
branch_if-2 = refl

branch_table-1 : called 3 (I32 0 ∷ []) ≡ gives (I32 10)
unfolding exec
branch_table-1 = refl

branch_table-2 : called 3 (I32 1 ∷ []) ≡ gives (I32 11)
unfolding exec
branch_table-2 = refl

branch_table-3 : called 3 (I32 2 ∷ []) ≡ gives (I32 12)
unfolding exec
branch_table-3 = refl

branch_table-4 : called 3 (I32 7 ∷ []) ≡ gives (I32 12)
unfolding exec
branch_table-4 = refl

branch_table-5 : called 3 (I32 4294967295 ∷ []) ≡ gives (I32 12)
unfolding exec
branch_table-5 = refl

sum_to-result : called 4 (I32 10 ∷ []) ≡ gives (I32 55)
unfolding exec
sum_to-result = refl

loop_value-result : called 5 [] ≡ gives (I32 8)
unfolding exec
loop_value-result = refl

one_arm-1 : called 6 (I32 0 ∷ []) ≡ gives (I32 0)
unfolding exec
one_arm-1 = refl

one_arm-2 : called 6 (I32 5 ∷ []) ≡ gives (I32 20)
unfolding exec
one_arm-2 = refl

two_arms-1 : called 7 (I32 0 ∷ []) ≡ gives (I32 2)
unfolding exec
two_arms-1 = refl

two_arms-2 : called 7 (I32 9 ∷ []) ≡ gives (I32 1)
unfolding exec
two_arms-2 = refl

early_return-result : called 8 [] ≡ gives (I32 42)
unfolding exec
early_return-result = refl

body_label-1 : called 9 (I32 0 ∷ []) ≡ gives (I32 31)
unfolding exec
body_label-1 = refl

body_label-2 : called 9 (I32 1 ∷ []) ≡ gives (I32 32)
unfolding exec
body_label-2 = refl

chosen-1 : called 10 (I32 0 ∷ []) ≡ gives (I32 2)
unfolding exec
chosen-1 = refl

chosen-2 : called 10 (I32 3 ∷ []) ≡ gives (I32 1)
unfolding exec
chosen-2 = refl

tee_twice-result : called 11 (I32 12 ∷ []) ≡ gives (I32 144)
unfolding exec
tee_twice-result = refl

fibonacci-result : called 12 (I32 10 ∷ []) ≡ gives (I32 55)
unfolding exec
fibonacci-result = refl

indirectly-1 : called 13 (I32 0 ∷ I32 11 ∷ []) ≡ gives (I32 66)
unfolding exec
indirectly-1 = refl

indirectly-2 : called 13 (I32 1 ∷ I32 5 ∷ []) ≡ gives (I32 1)
unfolding exec
indirectly-2 = refl

indirectly-3 : called 13 (I32 2 ∷ I32 5 ∷ []) ≡ Some (Trap trap.Uninit)
unfolding exec
indirectly-3 = refl

indirectly-4 : called 13 (I32 3 ∷ I32 0 ∷ []) ≡ Some (Trap trap.Element)
unfolding exec
indirectly-4 = refl

widened-1 : called 14 (I32 5 ∷ []) ≡ gives (I64 0)
unfolding exec
widened-1 = refl

widened-2 : called 14 (I32 4294967295 ∷ []) ≡ gives (I64 18446744069414584320)
unfolding exec
widened-2 = refl

narrowed-result : called 15 (I64 4886718345 ∷ []) ≡ gives (I32 1775253147)
unfolding exec
narrowed-result = refl

counter-result : called 16 (I32 4 ∷ []) ≡ gives (I32 34)
unfolding exec
counter-result = refl

pages-1 : called 17 (I32 0 ∷ []) ≡ gives (I32 1)
unfolding exec
pages-1 = refl

pages-2 : called 17 (I32 2 ∷ []) ≡ gives (I32 3)
unfolding exec
pages-2 = refl

load32_whole-result : called 18 (I32 1 ∷ []) ≡ gives (I32 2223343239)
unfolding exec
load32_whole-result = refl

load64_whole-result : called 19 (I32 1 ∷ []) ≡ gives (I64 9259825810226120327)
unfolding exec
load64_whole-result = refl

load32_pack8_signed-1 : called 20 (I32 0 ∷ []) ≡ gives (I32 0)
unfolding exec
load32_pack8_signed-1 = refl

load32_pack8_signed-2 : called 20 (I32 1 ∷ []) ≡ gives (I32 4294967175)
unfolding exec
load32_pack8_signed-2 = refl

load32_pack8_unsigned-1 : called 21 (I32 0 ∷ []) ≡ gives (I32 0)
unfolding exec
load32_pack8_unsigned-1 = refl

load32_pack8_unsigned-2 : called 21 (I32 1 ∷ []) ≡ gives (I32 135)
unfolding exec
load32_pack8_unsigned-2 = refl

load32_pack16_signed-result : called 22 (I32 1 ∷ []) ≡ gives (I32 4294936199)
unfolding exec
load32_pack16_signed-result = refl

load32_pack16_unsigned-result : called 23 (I32 1 ∷ []) ≡ gives (I32 34439)
unfolding exec
load32_pack16_unsigned-result = refl

load64_pack8_signed-1 : called 24 (I32 0 ∷ []) ≡ gives (I64 0)
unfolding exec
load64_pack8_signed-1 = refl

load64_pack8_signed-2 : called 24 (I32 1 ∷ []) ≡ gives (I64 18446744073709551495)
unfolding exec
load64_pack8_signed-2 = refl

load64_pack16_unsigned-result : called 25 (I32 1 ∷ []) ≡ gives (I64 34439)
unfolding exec
load64_pack16_unsigned-result = refl

load64_pack32_signed-result : called 26 (I32 1 ∷ []) ≡ gives (I64 18446744071637927559)
unfolding exec
load64_pack32_signed-result = refl

load64_pack32_unsigned-result : called 27 (I32 1 ∷ []) ≡ gives (I64 2223343239)
unfolding exec
load64_pack32_unsigned-result = refl

store32_whole-result : called 28 (I32 2711790500 ∷ []) ≡ gives (I64 694218368000)
unfolding exec
store32_whole-result = refl

store32_pack8-result : called 29 (I32 2711790500 ∷ []) ≡ gives (I64 41984)
unfolding exec
store32_pack8-result = refl

store32_pack16-result : called 30 (I32 2711790500 ∷ []) ≡ gives (I64 10724352)
unfolding exec
store32_pack16-result = refl

store64_pack8-result : called 31 (I64 11647051513882650536 ∷ []) ≡ gives (I64 43008)
unfolding exec
store64_pack8-result = refl

store64_pack16-result : called 32 (I64 11647051513882650536 ∷ []) ≡ gives (I64 10987520)
unfolding exec
store64_pack16-result = refl

store64_pack32-result : called 33 (I64 11647051513882650536 ∷ []) ≡ gives (I64 711465609216)
unfolding exec
store64_pack32-result = refl
