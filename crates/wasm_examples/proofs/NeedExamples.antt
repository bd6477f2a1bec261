-- What functions need.
use Rattle.std.specs.Prelude.{◌≡◌, ℕ, List, [], ◌∷◌, Some, None, refl}
use Rattle.wasm_types.specs.declared.types.ValType.{ValType}
use Rattle.wasm_types.specs.declared.types.ValType.TheVariants as type
use Rattle.wasm_types.specs.declared.instr.Width.TheVariants.{W32}
use Rattle.wasm_types.specs.declared.instr.PackSize.TheVariants.{Pack8}
use Rattle.wasm_types.specs.declared.instr.UnaryOp.TheVariants.{ExtendS}
use Rattle.wasm_types.specs.declared.instr.Instr.{Instr}
use Rattle.wasm_types.specs.declared.instr.Instr.TheVariants as instr
use Rattle.wasm_types.specs.Tree.{Code, End, Block, Loop, If, Call, CallIndirect}
use Rattle.wasm_spec.specs.Need.{need}
use Rattle.wasm_examples.proofs.Modules.{straight, i32_const, i32_add, function_of, at_least, bare, empty_type, binary_type, constant_type}

-- the need of a function of this type and body, where function 0 takes two operands and gives one, and function 1 takes none
abbrev need_of : ℕ → List ValType → Code → ℕ
need_of t locals body =
    need (record (bare (binary_type ∷ constant_type ∷ empty_type ∷ []) (function_of 0 (straight (i32_const 0 ∷ []) End) ∷ function_of 1 (straight (i32_const 0 ∷ []) End) ∷ []) []) { tables = at_least 1 ∷ []; memories = at_least 1 ∷ [] })
    (record { type_index = t; locals = locals; body = body })

abbrev three : List Instr
three = i32_const 1 ∷ i32_const 2 ∷ i32_const 3 ∷ []

abbrev drops : Code
drops = straight (instr.Drop ∷ instr.Drop ∷ instr.Drop ∷ []) End

-- the body's own label, and nothing else
nothing : need_of 2 [] End ≡ 1
nothing = refl

parameters_and_locals : need_of 0 (type.I64 ∷ type.I32 ∷ type.I32 ∷ []) (straight (i32_const 0 ∷ []) End) ≡ 7
parameters_and_locals = refl

-- the greatest height counts, and not the last one
greatest_height : need_of 2 [] (straight three drops) ≡ 4
greatest_height = refl

-- what lies under a block counts inside it
block_above_two : need_of 2 [] (straight (i32_const 1 ∷ i32_const 2 ∷ []) (Block None (straight three drops) (straight (instr.Drop ∷ instr.Drop ∷ []) End))) ≡ 7
block_above_two = refl

loop_above_two : need_of 2 [] (straight (i32_const 1 ∷ i32_const 2 ∷ []) (Loop None (straight three drops) (straight (instr.Drop ∷ instr.Drop ∷ []) End))) ≡ 7
loop_above_two = refl

-- the condition is gone inside the arms, of which the second is the higher one
arm_above_two : need_of 2 [] (straight (i32_const 1 ∷ i32_const 2 ∷ i32_const 0 ∷ []) (If None End (straight three drops) (straight (instr.Drop ∷ instr.Drop ∷ []) End))) ≡ 7
arm_above_two = refl

first_arm_above_two : need_of 2 [] (straight (i32_const 1 ∷ i32_const 2 ∷ i32_const 0 ∷ []) (If None (straight three drops) End (straight (instr.Drop ∷ instr.Drop ∷ []) End))) ≡ 7
first_arm_above_two = refl

-- a condition counts where it stands
condition_counts : need_of 2 [] (straight (i32_const 0 ∷ []) (If None End End End)) ≡ 3
condition_counts = refl

-- what a block leaves counts behind it: two results, and one operand more
results_of_blocks : need_of 2 [] (Block (Some type.I32) (straight (i32_const 1 ∷ []) End) (Block (Some type.I32) (straight (i32_const 1 ∷ []) End) (straight (i32_const 1 ∷ []) drops))) ≡ 5
results_of_blocks = refl

results_of_loops : need_of 2 [] (Loop (Some type.I32) (straight (i32_const 1 ∷ []) End) (Loop (Some type.I32) (straight (i32_const 1 ∷ []) End) (straight (i32_const 1 ∷ []) drops))) ≡ 5
results_of_loops = refl

results_of_ifs : need_of 2 [] (straight (i32_const 0 ∷ []) (If (Some type.I32) (straight (i32_const 1 ∷ []) End) (straight (i32_const 1 ∷ []) End) (straight (i32_const 1 ∷ i32_const 1 ∷ []) drops))) ≡ 5
results_of_ifs = refl

-- labels: the deepest place counts, behind which others stand; an arm and a loop are as deep as a block
nested_labels : need_of 2 [] (Block None (Loop None (Block None End End) End) (Block None End End)) ≡ 4
nested_labels = refl

second_arm_is_deeper : need_of 2 [] (straight (i32_const 0 ∷ []) (If None End (Block None (Block None End End) End) End)) ≡ 5
second_arm_is_deeper = refl

label_behind_a_block : need_of 2 [] (Block None End (Block None (Block None End End) End)) ≡ 3
label_behind_a_block = refl

-- a call takes its arguments and leaves its result
after_a_call : need_of 2 [] (straight (i32_const 1 ∷ i32_const 2 ∷ []) (Call 0 (straight (i32_const 1 ∷ i32_const 1 ∷ []) drops))) ≡ 4
after_a_call = refl

-- its arguments count where it stands
arguments_of_a_call : need_of 2 [] (straight (i32_const 1 ∷ i32_const 2 ∷ []) (Call 0 (straight (instr.Drop ∷ []) End))) ≡ 3
arguments_of_a_call = refl

after_a_call_of_an_element : need_of 2 [] (straight (i32_const 1 ∷ i32_const 2 ∷ i32_const 0 ∷ []) (CallIndirect 0 (straight (i32_const 1 ∷ i32_const 1 ∷ []) drops))) ≡ 4
after_a_call_of_an_element = refl

-- behind a branch the height begins at the block's; a pop there leaves it
behind_a_branch : need_of 2 [] (straight (i32_const 1 ∷ []) (Block None (straight (i32_const 1 ∷ i32_const 2 ∷ instr.Br 0 ∷ i32_add ∷ i32_const 1 ∷ i32_const 2 ∷ i32_const 3 ∷ instr.Unreachable ∷ []) End) (straight (instr.Drop ∷ []) End))) ≡ 7
behind_a_branch = refl

-- what lay there before the branch counts no more
behind_a_branch_with_two_below : need_of 2 [] (Block None (straight (i32_const 1 ∷ i32_const 2 ∷ instr.Br 0 ∷ i32_const 3 ∷ instr.Unreachable ∷ []) End) End) ≡ 4
behind_a_branch_with_two_below = refl

-- select takes three and leaves one, drop takes one
behind_a_select : need_of 2 [] (straight (i32_const 1 ∷ i32_const 2 ∷ i32_const 3 ∷ instr.Select ∷ i32_const 4 ∷ i32_const 5 ∷ instr.Select ∷ instr.Drop ∷ []) End) ≡ 4
behind_a_select = refl

-- a copy and a fill take three and leave none
behind_a_copy : need_of 2 [] (straight three (straight (instr.MemoryCopy ∷ []) (straight three (straight (instr.MemoryCopy ∷ []) End)))) ≡ 4
behind_a_copy = refl

behind_a_fill : need_of 2 [] (straight three (straight (instr.MemoryFill ∷ []) (straight three (straight (instr.MemoryFill ∷ []) End)))) ≡ 4
behind_a_fill = refl

-- an extension takes one and leaves one
behind_an_extension : need_of 2 [] (straight (i32_const 1 ∷ instr.Unary W32 (ExtendS Pack8) ∷ i32_const 2 ∷ []) (straight (instr.Drop ∷ instr.Drop ∷ []) End)) ≡ 3
behind_an_extension = refl

-- an operand that was dropped counts no more
after_a_drop : need_of 2 [] (straight (i32_const 1 ∷ instr.Drop ∷ i32_const 2 ∷ instr.Drop ∷ []) End) ≡ 2
after_a_drop = refl

-- a drop and an `if` take one operand, and select three, also where more lie below
two_below_a_drop : need_of 2 [] (straight three (straight (instr.Drop ∷ i32_const 4 ∷ i32_const 5 ∷ instr.Drop ∷ []) drops)) ≡ 5
two_below_a_drop = refl

two_below_an_if : need_of 2 [] (straight three (If None End End (straight (i32_const 4 ∷ i32_const 5 ∷ instr.Drop ∷ []) drops))) ≡ 6
two_below_an_if = refl

one_below_a_select : need_of 2 [] (straight (i32_const 0 ∷ []) (straight three (straight (instr.Select ∷ []) (straight three (straight (instr.Drop ∷ instr.Drop ∷ []) drops))))) ≡ 6
one_below_a_select = refl

first_arm_is_deeper : need_of 2 [] (straight (i32_const 0 ∷ []) (If None (Block None (Block None End End) End) End End)) ≡ 5
first_arm_is_deeper = refl

-- the deepest place may stand behind a loop, an `if` and a call
label_behind_a_loop : need_of 2 [] (Loop None End (Block None (Block None End End) End)) ≡ 3
label_behind_a_loop = refl

label_behind_an_if : need_of 2 [] (straight (i32_const 0 ∷ []) (If None End End (Block None (Block None End End) End))) ≡ 4
label_behind_an_if = refl

label_behind_a_call : need_of 2 [] (Call 1 (straight (instr.Drop ∷ []) (Block None (Block None End End) End))) ≡ 4
label_behind_a_call = refl

label_behind_a_call_of_an_element : need_of 2 [] (straight (i32_const 0 ∷ []) (CallIndirect 2 (Block None (Block None End End) End))) ≡ 4
label_behind_a_call_of_an_element = refl

-- four operands behind it, where three lie before
higher_behind_a_call_of_an_element : need_of 2 [] (straight (i32_const 1 ∷ i32_const 2 ∷ i32_const 0 ∷ []) (CallIndirect 0 (straight three (straight (instr.Drop ∷ []) drops)))) ≡ 5
higher_behind_a_call_of_an_element = refl

-- ---- heights under labels, in code that is not reached

-- a branch if, behind which two operands are put on what it leaves
abbrev unreached : Code
unreached = straight (instr.Unreachable ∷ instr.BrIf 0 ∷ i32_const 1 ∷ i32_const 2 ∷ instr.Drop ∷ instr.Drop ∷ []) End

unreached_in_a_block : need_of 2 [] (Block (Some type.I32) unreached (straight (instr.Drop ∷ []) End)) ≡ 5
unreached_in_a_block = refl

unreached_in_a_first_arm : need_of 2 [] (straight (i32_const 0 ∷ []) (If (Some type.I32) unreached (straight (i32_const 0 ∷ []) End) (straight (instr.Drop ∷ []) End))) ≡ 5
unreached_in_a_first_arm = refl

unreached_in_a_second_arm : need_of 2 [] (straight (i32_const 0 ∷ []) (If (Some type.I32) (straight (i32_const 0 ∷ []) End) unreached (straight (instr.Drop ∷ []) End))) ≡ 5
unreached_in_a_second_arm = refl

-- a branch to a loop takes nothing, whatever the loop gives and whatever lies around it
unreached_in_a_loop_with_a_result : need_of 2 [] (Loop (Some type.I32) unreached (straight (instr.Drop ∷ []) End)) ≡ 4
unreached_in_a_loop_with_a_result = refl

unreached_in_a_loop_of_a_function_with_one : need_of 1 [] (Loop None unreached (straight (i32_const 0 ∷ []) End)) ≡ 4
unreached_in_a_loop_of_a_function_with_one = refl
