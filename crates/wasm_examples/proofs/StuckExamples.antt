-- Runs that are stuck, as none of a valid module is: what is asked for isn't there, or has another type.
use Rattle.std.specs.Prelude.{◌≡◌, List, [], ◌∷◌, Option, None, refl}
use Rattle.wasm_types.specs.declared.types.ValType.TheVariants as type
use Rattle.wasm_types.specs.declared.types.FuncType.{FuncType}
use Rattle.wasm_values.specs.declared.outcome.Val.TheVariants.{I64}
use Rattle.wasm_types.specs.declared.instr.Width.TheVariants.{W32, W64}
use Rattle.wasm_types.specs.declared.instr.Instr.{Instr}
use Rattle.wasm_types.specs.declared.instr.Instr.TheVariants as instr
use Rattle.wasm_types.specs.Tree.{Code, End, Block, Loop, If, Call}
use Rattle.wasm_spec.specs.Execution.{exec}
use Rattle.wasm_spec.specs.Result.{CallResult, call_result}
use Rattle.wasm_examples.proofs.Modules.{straight, i32_const, i32_add, function_type, function_of, bare, empty_type, constant_type}

-- what a function of this type and body gives, beside one that takes an i32, and one that drops an operand
abbrev ran_as : FuncType → Code → Option CallResult
ran_as t body = call_result
    (bare (t ∷ function_type (type.I32 ∷ []) [] ∷ empty_type ∷ []) (function_of 0 body ∷ function_of 1 End ∷ function_of 2 (straight (instr.Drop ∷ []) End) ∷ []) [])
    (record { pages = 1; depth = 4; request = [] }) 0 [] 100

abbrev ran : List Instr → Option CallResult
ran is = ran_as empty_type (straight is End)

drop_of_nothing : ran (instr.Drop ∷ []) ≡ None
unfolding exec
drop_of_nothing = refl

add_of_one : ran (i32_const 1 ∷ i32_add ∷ []) ≡ None
unfolding exec
add_of_one = refl

select_of_two : ran (i32_const 1 ∷ i32_const 2 ∷ instr.Select ∷ []) ≡ None
unfolding exec
select_of_two = refl

fill_of_nothing : ran (instr.MemoryFill ∷ []) ≡ None
unfolding exec
fill_of_nothing = refl

copy_of_two : ran (i32_const 0 ∷ i32_const 0 ∷ instr.MemoryCopy ∷ []) ≡ None
unfolding exec
copy_of_two = refl

test_of_another_width : ran (instr.Const (I64 1) ∷ instr.Eqz W32 ∷ []) ≡ None
unfolding exec
test_of_another_width = refl

wider_test : ran (i32_const 1 ∷ instr.Eqz W64 ∷ []) ≡ None
unfolding exec
wider_test = refl

float : ran (instr.Float ∷ []) ≡ None
unfolding exec
float = refl

branch_past_the_body : ran (instr.Br 1 ∷ []) ≡ None
unfolding exec
branch_past_the_body = refl

-- nor does it go to a label of the caller
branch_past_a_called_body : call_result
    (bare (empty_type ∷ []) (function_of 0 (Block None (Call 1 End) End) ∷ function_of 0 (straight (instr.Br 1 ∷ []) End) ∷ []) [])
    (record { pages = 1; depth = 4; request = [] }) 0 [] 100 ≡ None
unfolding exec
branch_past_a_called_body = refl

missing_local : ran (instr.LocalGet 0 ∷ []) ≡ None
unfolding exec
missing_local = refl

missing_global : ran (instr.GlobalGet 0 ∷ []) ≡ None
unfolding exec
missing_global = refl

condition_of_64_bits : ran_as empty_type (straight (instr.Const (I64 1) ∷ []) (If None End End End)) ≡ None
unfolding exec
condition_of_64_bits = refl

missing_result : ran_as constant_type End ≡ None
unfolding exec
missing_result = refl

missing_argument : ran_as empty_type (Call 1 End) ≡ None
unfolding exec
missing_argument = refl

missing_function : ran_as empty_type (Call 3 End) ≡ None
unfolding exec
missing_function = refl

-- what its caller has on its operands is not there for a function
operand_of_the_caller : ran_as empty_type (straight (i32_const 1 ∷ []) (Call 2 End)) ≡ None
unfolding exec
operand_of_the_caller = refl

-- nor what lies below a block, a loop and an arm in it
operand_below_a_block : ran_as empty_type (straight (i32_const 1 ∷ []) (Block None (straight (instr.Drop ∷ []) End) End)) ≡ None
unfolding exec
operand_below_a_block = refl

operand_below_a_loop : ran_as empty_type (straight (i32_const 1 ∷ []) (Loop None (straight (instr.Drop ∷ []) End) End)) ≡ None
unfolding exec
operand_below_a_loop = refl

operand_below_an_if : ran_as empty_type (straight (i32_const 1 ∷ i32_const 1 ∷ []) (If None (straight (instr.Drop ∷ []) End) End End)) ≡ None
unfolding exec
operand_below_an_if = refl
