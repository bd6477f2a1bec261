-- Calls of small modules on a fresh instance, computed.
use Rattle.std.specs.Prelude.{◌≡◌, ℕ, List, [], ◌∷◌, ◌++◌, Option, Some, None, length, take, drop, true, false, codes, refl}
use Rattle.wasm_types.specs.declared.types.ValType.TheVariants as type
use Rattle.wasm_values.specs.declared.outcome.Val.{Val}
use Rattle.wasm_values.specs.declared.outcome.Val.TheVariants.{I32, I64}
use Rattle.wasm_values.specs.declared.outcome.TrapKind.TheVariants as trap
use Rattle.wasm_values.specs.declared.outcome.Outcome.{Outcome}
use Rattle.wasm_values.specs.declared.outcome.Outcome.TheVariants.{Done, Trap, Fuel}
use Rattle.wasm_types.specs.declared.types.FuncType.{FuncType}
use Rattle.wasm_types.specs.declared.instr.Width.TheVariants.{W32, W64}
use Rattle.wasm_types.specs.declared.instr.Sign.TheVariants.{Signed}
use Rattle.wasm_types.specs.declared.instr.UnaryOp.TheVariants as unary_op
use Rattle.wasm_types.specs.declared.instr.CompareOp.TheVariants as compare_op
use Rattle.wasm_types.specs.declared.instr.Instr.{Instr}
use Rattle.wasm_types.specs.declared.instr.PackSize.{PackSize}
use Rattle.wasm_types.specs.declared.instr.PackSize.TheVariants.{Pack8, Pack16, Pack32}
use Rattle.wasm_types.specs.declared.instr.Instr.TheVariants as instr
use Rattle.wasm_types.specs.Tree.{Code, End, Block, Loop, If, Call, CallIndirect, GlobalTree, ModuleTree}
use Rattle.wasm_spec.specs.Store.{Store, Data, first_misfit, fresh_store}
use Rattle.wasm_spec.specs.Operators.{binary_digits}
use Rattle.wasm_spec.specs.Execution.{most_pages, exec}
use Rattle.wasm_spec.specs.Result.{CallResult, call_result}
use Rattle.wasm_examples.proofs.Modules.{straight, i32_const, i32_add, i32_sub, i32_load, function_type, function_of, at_least, bare, paged, empty_type, unary_type, binary_type, constant_type, add_module, bump_module, poke_module, wrap_module, grown_module, grow_module, div_module, indirect_module, recursive_module, count_module, next_module, start_module, spin_module, misfit_module, overlap_module, extend_module, fill_module}

abbrev ending : Option CallResult → Option (Outcome × ℕ)
ending None = None
ending (Some r) = Some (r.outcome, r.fuel)

-- how a call ends and the fuel that it leaves, where a memory may have so many pages and 128 calls may be open
abbrev called_within : ℕ → ModuleTree → ℕ → List Val → ℕ → Option (Outcome × ℕ)
called_within pages m x arguments fuel = ending (call_result m (record { pages = pages; depth = 128; request = [] }) x arguments fuel)

abbrev called : ModuleTree → ℕ → List Val → ℕ → Option (Outcome × ℕ)
called m x arguments fuel = called_within 32 m x arguments fuel

abbrev gives : ℕ → ℕ → Option (Outcome × ℕ)
gives n left = Some (Done (Some (I32 n)), left)

abbrev out_of_fuel : Option (Outcome × ℕ)
out_of_fuel = Some (Fuel, 0)

-- ---- fuel

add-gives_the_sum : called add_module 0 (I32 2 ∷ I32 3 ∷ []) 100 ≡ gives 5 97
unfolding exec
add-gives_the_sum = refl

add-with_just_enough : called add_module 0 (I32 2 ∷ I32 3 ∷ []) 3 ≡ gives 5 0
unfolding exec
add-with_just_enough = refl

add-with_too_little : called add_module 0 (I32 2 ∷ I32 3 ∷ []) 2 ≡ out_of_fuel
unfolding exec
add-with_too_little = refl

add-with_none : called add_module 0 (I32 2 ∷ I32 3 ∷ []) 0 ≡ out_of_fuel
unfolding exec
add-with_none = refl

bump-with_just_enough : called bump_module 0 [] 8 ≡ gives 1 0
unfolding exec
bump-with_just_enough = refl

bump-with_too_little : called bump_module 0 [] 7 ≡ out_of_fuel
unfolding exec
bump-with_too_little = refl

recursive-with_just_enough : called recursive_module 0 (I32 127 ∷ []) 893 ≡ gives 0 0
unfolding exec
recursive-with_just_enough = refl

recursive-with_too_little : called recursive_module 0 (I32 127 ∷ []) 892 ≡ out_of_fuel
unfolding exec
recursive-with_too_little = refl

count-with_just_enough : called count_module 0 (I32 3 ∷ []) 19 ≡ gives 0 0
unfolding exec
count-with_just_enough = refl

count-with_too_little : called count_module 0 (I32 3 ∷ []) 18 ≡ out_of_fuel
unfolding exec
count-with_too_little = refl

next-with_just_enough : called next_module 0 [] 5 ≡ gives 1 0
unfolding exec
next-with_just_enough = refl

next-with_too_little : called next_module 0 [] 4 ≡ out_of_fuel
unfolding exec
next-with_too_little = refl

-- ---- sums wrap

add-past_the_greatest_signed : called add_module 0 (I32 2147483647 ∷ I32 1 ∷ []) 100 ≡ gives 2147483648 97
unfolding exec
add-past_the_greatest_signed = refl

add-past_the_greatest : called add_module 0 (I32 4294967295 ∷ I32 1 ∷ []) 100 ≡ gives 0 97
unfolding exec
add-past_the_greatest = refl

-- ---- division

div-overflows : called div_module 0 (I32 2147483648 ∷ I32 4294967295 ∷ []) 100 ≡ Some (Trap trap.Overflow, 97)
unfolding exec
div-overflows = refl

rem-of_the_least_by_minus_one : called div_module 1 (I32 2147483648 ∷ I32 4294967295 ∷ []) 100 ≡ gives 0 97
unfolding exec
rem-of_the_least_by_minus_one = refl

div-by_zero : called div_module 0 (I32 1 ∷ I32 0 ∷ []) 100 ≡ Some (Trap trap.Divide, 97)
unfolding exec
div-by_zero = refl

div-rounds_towards_zero : called div_module 0 (I32 4294967289 ∷ I32 2 ∷ []) 100 ≡ gives 4294967293 97
unfolding exec
div-rounds_towards_zero = refl

rem-has_the_sign_of_the_dividend : called div_module 1 (I32 4294967289 ∷ I32 2 ∷ []) 100 ≡ gives 4294967295 97
unfolding exec
rem-has_the_sign_of_the_dividend = refl

-- ---- memory

poke-at_the_end : called poke_module 0 (I32 65532 ∷ I32 7 ∷ []) 100 ≡ Some (Done None, 97)
unfolding exec
poke-at_the_end = refl

poke-past_the_end : called poke_module 0 (I32 65533 ∷ I32 7 ∷ []) 100 ≡ Some (Trap trap.Memory, 97)
unfolding exec
poke-past_the_end = refl

poke-at_the_greatest_address : called poke_module 0 (I32 4294967295 ∷ I32 7 ∷ []) 100 ≡ Some (Trap trap.Memory, 97)
unfolding exec
poke-at_the_greatest_address = refl

wrap-does_not_wrap : called wrap_module 0 (I32 1 ∷ []) 100 ≡ Some (Trap trap.Memory, 98)
unfolding exec
wrap-does_not_wrap = refl

dirty-loops : called grown_module 0 [] 50 ≡ out_of_fuel
unfolding exec
dirty-loops = refl

look-finds_zero : called grown_module 1 [] 5 ≡ gives 0 0
unfolding exec
look-finds_zero = refl

grow-to_the_bound : called grow_module 0 (I32 31 ∷ []) 100 ≡ gives 1 98
unfolding exec
grow-to_the_bound = refl

grow-past_the_bound : called grow_module 0 (I32 32 ∷ []) 100 ≡ gives 4294967295 98
unfolding exec
grow-past_the_bound = refl

grow-by_none : called grow_module 0 (I32 0 ∷ []) 100 ≡ gives 1 98
unfolding exec
grow-by_none = refl

grow-by_the_greatest : called grow_module 0 (I32 4294967295 ∷ []) 100 ≡ gives 4294967295 98
unfolding exec
grow-by_the_greatest = refl

-- ---- calls

indirect-calls : called indirect_module 2 (I32 0 ∷ []) 100 ≡ gives 7 97
unfolding exec
indirect-calls = refl

indirect-of_another_type : called indirect_module 2 (I32 1 ∷ []) 100 ≡ Some (Trap trap.Signature, 98)
unfolding exec
indirect-of_another_type = refl

indirect-of_an_empty_element : called indirect_module 2 (I32 2 ∷ []) 100 ≡ Some (Trap trap.Uninit, 98)
unfolding exec
indirect-of_an_empty_element = refl

indirect-past_the_table : called indirect_module 2 (I32 3 ∷ []) 100 ≡ Some (Trap trap.Element, 98)
unfolding exec
indirect-past_the_table = refl

indirect-at_the_greatest_index : called indirect_module 2 (I32 4294967295 ∷ []) 100 ≡ Some (Trap trap.Element, 98)
unfolding exec
indirect-at_the_greatest_index = refl

recursive-to_the_depth : called recursive_module 0 (I32 127 ∷ []) 1000 ≡ gives 0 107
unfolding exec
recursive-to_the_depth = refl

recursive-past_the_depth : called recursive_module 0 (I32 128 ∷ []) 1000 ≡ Some (Trap trap.Exhausted, 104)
unfolding exec
recursive-past_the_depth = refl

start-traps : called start_module 0 [] 10 ≡ Some (Trap trap.Unreachable, 9)
unfolding exec
start-traps = refl

start-with_no_fuel : called start_module 0 [] 0 ≡ out_of_fuel
unfolding exec
start-with_no_fuel = refl

spin-spends_all : called spin_module 0 [] 1000 ≡ out_of_fuel
unfolding exec
spin-spends_all = refl

-- where the memory may not grow, the read is past its end
look-past_one_page : called_within 1 grown_module 1 [] 5 ≡ Some (Trap trap.Memory, 0)
unfolding exec
look-past_one_page = refl

-- ---- segments

misfit-is_named : first_misfit misfit_module ≡ Some (record { which = Data 0; end = 65537; size = 65536 })
misfit-is_named = refl

indirect-has_no_misfit : first_misfit indirect_module ≡ None
indirect-has_no_misfit = refl

indirect-begins_with_its_table : (fresh_store indirect_module).table ≡ Some 0 ∷ Some 1 ∷ None ∷ []
indirect-begins_with_its_table = refl

overlap-has_no_misfit : first_misfit overlap_module ≡ None
overlap-has_no_misfit = refl

overlap-begins_with_its_data : take 6 (fresh_store overlap_module).memory ≡ 0 ∷ 0 ∷ codes "azc" ++ 0 ∷ []
overlap-begins_with_its_data = refl

-- ---- the pages that a memory may have

-- grows by its argument, to its declared maximum of two pages
abbrev declared_module : ModuleTree
declared_module = record grow_module { memories = record { min = 1; max = Some 2 } ∷ [] }

grow-to_the_maximum : called declared_module 0 (I32 1 ∷ []) 100 ≡ gives 1 98
unfolding exec
grow-to_the_maximum = refl

grow-past_the_maximum : called declared_module 0 (I32 2 ∷ []) 100 ≡ gives 4294967295 98
unfolding exec
grow-past_the_maximum = refl

-- a declared maximum above what a memory may have here
grow-past_the_bound_below_the_maximum : called (record grow_module { memories = record { min = 1; max = Some 40 } ∷ [] }) 0 (I32 32 ∷ []) 100 ≡ gives 4294967295 98
unfolding exec
grow-past_the_bound_below_the_maximum = refl

no_memory_has_no_pages : most_pages [] 32 ≡ 0
no_memory_has_no_pages = refl

-- ---- calls of elements

-- element 0 has the type that is named, but under another number; element 1 takes an i64 in place of an i32
abbrev other_types_module : ModuleTree
other_types_module = record (bare (unary_type ∷ unary_type ∷ function_type (type.I64 ∷ []) (type.I32 ∷ []) ∷ [])
    (function_of 1 (straight (instr.LocalGet 0 ∷ []) End) ∷ function_of 2 (straight (i32_const 7 ∷ []) End) ∷ function_of 0 (straight (i32_const 9 ∷ instr.LocalGet 0 ∷ []) (CallIndirect 0 End)) ∷ [])
    []) {
      tables = at_least 2 ∷ [];
      element_segments = record { table = 0; offset = straight (i32_const 0 ∷ []) End; functions = 0 ∷ 1 ∷ [] } ∷ [];
    }

indirect-of_the_same_type_by_another_number : called other_types_module 2 (I32 0 ∷ []) 100 ≡ gives 9 96
unfolding exec
indirect-of_the_same_type_by_another_number = refl

indirect-of_other_parameters : called other_types_module 2 (I32 1 ∷ []) 100 ≡ Some (Trap trap.Signature, 97)
unfolding exec
indirect-of_other_parameters = refl

-- its other traps come before the depth
indirect-past_the_table_at_the_depth : ending (call_result other_types_module (record { pages = 0; depth = 1; request = [] }) 2 (I32 2 ∷ []) 100) ≡ Some (Trap trap.Element, 97)
unfolding exec
indirect-past_the_table_at_the_depth = refl

indirect-at_the_depth : ending (call_result other_types_module (record { pages = 0; depth = 1; request = [] }) 2 (I32 0 ∷ []) 100) ≡ Some (Trap trap.Exhausted, 97)
unfolding exec
indirect-at_the_depth = refl

-- an element that calls another one
abbrev nested_elements_module : ModuleTree
nested_elements_module = record (bare (empty_type ∷ [])
    (function_of 0 (straight (i32_const 0 ∷ []) (CallIndirect 0 End)) ∷ function_of 0 (straight (i32_const 1 ∷ []) (CallIndirect 0 End)) ∷ function_of 0 End ∷ [])
    []) {
      tables = at_least 2 ∷ [];
      element_segments = record { table = 0; offset = straight (i32_const 0 ∷ []) End; functions = 1 ∷ 2 ∷ [] } ∷ [];
    }

elements_to_the_depth : ending (call_result nested_elements_module (record { pages = 0; depth = 3; request = [] }) 0 [] 4) ≡ Some (Done None, 0)
unfolding exec
elements_to_the_depth = refl

elements_past_the_depth : ending (call_result nested_elements_module (record { pages = 0; depth = 2; request = [] }) 0 [] 4) ≡ Some (Trap trap.Exhausted, 0)
unfolding exec
elements_past_the_depth = refl

-- ---- arguments and locals

-- function 0 takes its second argument from its first; 1 calls it with 7 and 2, 2 as an element; 3 is a local of 64 bits that was
-- never set; 4 gives its first local that is no parameter
abbrev arguments_module : ModuleTree
arguments_module = record (bare (binary_type ∷ constant_type ∷ function_type [] (type.I64 ∷ []) ∷ binary_type ∷ [])
    (function_of 0 (straight (instr.LocalGet 0 ∷ instr.LocalGet 1 ∷ i32_sub ∷ []) End)
    ∷ function_of 1 (straight (i32_const 7 ∷ i32_const 2 ∷ []) (Call 0 End))
    ∷ function_of 1 (straight (i32_const 7 ∷ i32_const 2 ∷ i32_const 0 ∷ []) (CallIndirect 0 End))
    ∷ record { type_index = 2; locals = type.I32 ∷ type.I64 ∷ []; body = straight (instr.LocalGet 1 ∷ []) End }
    ∷ record { type_index = 0; locals = type.I32 ∷ []; body = straight (instr.LocalGet 2 ∷ []) End } ∷ [])
    []) {
      tables = at_least 1 ∷ [];
      element_segments = record { table = 0; offset = straight (i32_const 0 ∷ []) End; functions = 0 ∷ [] } ∷ [];
    }

call-keeps_the_order : called arguments_module 1 [] 100 ≡ gives 5 94
unfolding exec
call-keeps_the_order = refl

call_indirect-keeps_the_order : called arguments_module 2 [] 100 ≡ gives 5 93
unfolding exec
call_indirect-keeps_the_order = refl

local-of_64_bits_begins_at_0 : called arguments_module 3 [] 100 ≡ Some (Done (Some (I64 0)), 99)
unfolding exec
local-of_64_bits_begins_at_0 = refl

local-follows_the_parameters : called arguments_module 4 (I32 8 ∷ I32 9 ∷ []) 100 ≡ gives 0 99
unfolding exec
local-follows_the_parameters = refl

-- ---- blocks and fuel

-- a value under a block, a branch with two values above it, and what the block leaves; each instruction and each entry costs 1
abbrev block_code : Code
block_code =
    straight (i32_const 100 ∷ [])
    (Block (Some type.I32) (straight (i32_const 3 ∷ i32_const 5 ∷ instr.Br 0 ∷ []) End) (straight (i32_sub ∷ []) End))

abbrev blocks_module : ModuleTree
blocks_module = bare (constant_type ∷ []) (function_of 0 block_code ∷ []) []

block-keeps_what_lies_below : called blocks_module 0 [] 6 ≡ gives 95 0
unfolding exec
block-keeps_what_lies_below = refl

block-with_too_little : called blocks_module 0 [] 5 ≡ out_of_fuel
unfolding exec
block-with_too_little = refl

-- a branch goes past the inner block's own label, and what stands behind that block is not executed
abbrev past_code : Code
past_code = Block None (Block None (straight (instr.Br 1 ∷ []) End) (straight (instr.Unreachable ∷ []) End)) (straight (i32_const 4 ∷ []) End)

branch-past_a_block : called (bare (constant_type ∷ []) (function_of 0 past_code ∷ []) []) 0 [] 100 ≡ gives 4 96
unfolding exec
branch-past_a_block = refl

-- a branch to a loop takes nothing, whatever the loop gives at its end
abbrev loop_code : Code
loop_code = Loop (Some type.I32) (straight (instr.LocalGet 0 ∷ i32_const 1 ∷ i32_sub ∷ instr.LocalTee 0 ∷ instr.BrIf 0 ∷ i32_const 9 ∷ []) End) End

loop-is_entered_again_with_nothing : called (bare (unary_type ∷ []) (function_of 0 loop_code ∷ []) []) 0 (I32 2 ∷ []) 13 ≡ gives 9 0
unfolding exec
loop-is_entered_again_with_nothing = refl

-- ---- loads at the end of memory

abbrev peek_module : ModuleTree
peek_module = paged (unary_type ∷ []) (function_of 0 (straight (instr.LocalGet 0 ∷ i32_load 2 ∷ []) End) ∷ []) []

peek-at_the_end : called peek_module 0 (I32 65530 ∷ []) 100 ≡ gives 0 98
unfolding exec
peek-at_the_end = refl

peek-past_the_end : called peek_module 0 (I32 65531 ∷ []) 100 ≡ Some (Trap trap.Memory, 98)
unfolding exec
peek-past_the_end = refl

-- ---- what a call leaves

abbrev left_in : (Store → List ℕ) → Option CallResult → List ℕ
left_in part None = []
left_in part (Some r) = part r.store

-- a byte that was stored stays, also where the call traps, or ends for want of fuel, behind it
abbrev stored_code : Code
stored_code = straight (i32_const 1 ∷ i32_const 77 ∷ instr.StorePacked W32 Pack8 (record { align = 0; offset = 1 }) ∷ instr.Unreachable ∷ []) End

abbrev stored_module : ModuleTree
stored_module = paged (empty_type ∷ []) (function_of 0 stored_code ∷ []) []

store-after_a_trap : left_in (λ s. take 4 s.memory) (call_result stored_module (record { pages = 1; depth = 1; request = [] }) 0 [] 100) ≡ 0 ∷ 0 ∷ 77 ∷ 0 ∷ []
unfolding exec
store-after_a_trap = refl

store-at_the_end_of_fuel : left_in (λ s. take 4 s.memory) (call_result stored_module (record { pages = 1; depth = 1; request = [] }) 0 [] 3) ≡ 0 ∷ 0 ∷ 77 ∷ 0 ∷ []
unfolding exec
store-at_the_end_of_fuel = refl

-- a store that reaches past the end writes nothing
store-past_the_end : left_in (λ s. drop 65532 s.memory) (call_result poke_module (record { pages = 1; depth = 1; request = [] }) 0 (I32 65533 ∷ I32 4294967295 ∷ []) 100) ≡ 0 ∷ 0 ∷ 0 ∷ 0 ∷ []
unfolding exec
store-past_the_end = refl

grown-memory_has_whole_pages : left_in (λ s. length s.memory ∷ []) (call_result grow_module (record { pages = 3; depth = 1; request = [] }) 0 (I32 2 ∷ []) 100) ≡ 196608 ∷ []
unfolding exec
grown-memory_has_whole_pages = refl

-- ---- start functions

-- its start function sets the global to 5, and its export adds 1 to that
abbrev started_module : ModuleTree
started_module = record next_module {
  types = constant_type ∷ empty_type ∷ [];
  functions = function_of 0 (straight (instr.GlobalGet 0 ∷ i32_const 1 ∷ i32_add ∷ instr.GlobalSet 0 ∷ instr.GlobalGet 0 ∷ []) End) ∷ function_of 1 (straight (i32_const 5 ∷ instr.GlobalSet 0 ∷ []) End) ∷ [];
  start = Some 1;
}

start-comes_first : called started_module 0 [] 10 ≡ gives 6 3
unfolding exec
start-comes_first = refl

start-shares_the_fuel : called started_module 0 [] 6 ≡ out_of_fuel
unfolding exec
start-shares_the_fuel = refl

start-out_of_fuel_is_the_outcome : called started_module 0 [] 1 ≡ out_of_fuel
unfolding exec
start-out_of_fuel_is_the_outcome = refl

abbrev global_left : Option CallResult → List Val
global_left None = []
global_left (Some r) = r.store.globals

start-keeps_its_store : global_left (call_result started_module (record { pages = 0; depth = 1; request = [] }) 0 [] 3) ≡ I32 5 ∷ []
unfolding exec
start-keeps_its_store = refl

-- an export that needs no fuel isn't run behind a start function that traps or runs out
abbrev empty_export : ModuleTree → ModuleTree
empty_export m = record m { functions = m.functions ++ function_of 0 End ∷ [] }

start-that_traps_is_the_outcome : called (empty_export start_module) 1 [] 10 ≡ Some (Trap trap.Unreachable, 9)
unfolding exec
start-that_traps_is_the_outcome = refl

start-that_runs_out_is_the_outcome : called (empty_export spin_module) 1 [] 10 ≡ out_of_fuel
unfolding exec
start-that_runs_out_is_the_outcome = refl

empty_export-needs_no_fuel : called (record (empty_export spin_module) { start = None }) 1 [] 0 ≡ Some (Done None, 0)
unfolding exec
empty_export-needs_no_fuel = refl

-- ---- the fresh store

-- a later segment writes over an earlier one; an offset may be a global's value
abbrev overlapping_elements : ModuleTree
overlapping_elements = record (bare [] [] []) {
  tables = at_least 4 ∷ [];
  globals = record { global_type = record { value = type.I64; mutable = true }; init = straight (instr.Const (I64 9) ∷ []) End }
      ∷ record { global_type = record { value = type.I32; mutable = false }; init = straight (i32_const 2 ∷ []) End } ∷ [];
  element_segments =
      record { table = 0; offset = straight (i32_const 1 ∷ []) End; functions = 3 ∷ 4 ∷ [] }
      ∷ record { table = 0; offset = straight (instr.GlobalGet 1 ∷ []) End; functions = 5 ∷ [] } ∷ [];
}

overlap-of_elements : (fresh_store overlapping_elements).table ≡ None ∷ Some 3 ∷ Some 5 ∷ None ∷ []
overlap-of_elements = refl

globals_begin_as_they_say : (fresh_store overlapping_elements).globals ≡ I64 9 ∷ I32 2 ∷ []
globals_begin_as_they_say = refl

fresh_memory_has_its_minimum : length (fresh_store overlap_module).memory ≡ 65536
fresh_memory_has_its_minimum = refl

-- ---- each instruction on its own width, and each global by its number

abbrev a_global : ℕ → GlobalTree
a_global n = record { global_type = record { value = type.I32; mutable = true }; init = straight (i32_const n ∷ []) End }

abbrev gives_of : FuncType → Code → Option (Outcome × ℕ)
gives_of t body = called (record (paged (t ∷ []) (function_of 0 body ∷ []) []) { globals = a_global 7 ∷ a_global 8 ∷ [] }) 0 [] 100

abbrev from_64 : List Instr → Option (Outcome × ℕ)
from_64 is = gives_of constant_type (straight is End)

nop-goes_on : from_64 (instr.Nop ∷ i32_const 4 ∷ []) ≡ gives 4 98
unfolding exec
nop-goes_on = refl

zeros_of_64_bits : gives_of (function_type [] (type.I64 ∷ [])) (straight (instr.Const (I64 1) ∷ instr.Unary W64 unary_op.Clz ∷ []) End) ≡ Some (Done (Some (I64 63)), 98)
unfolding binary_digits exec
zeros_of_64_bits = refl

comparison_of_64_bits : from_64 (instr.Const (I64 4294967296) ∷ instr.Const (I64 1) ∷ instr.Compare W64 compare_op.LtS ∷ []) ≡ gives 0 97
unfolding exec
comparison_of_64_bits = refl

zero_of_64_bits : from_64 (instr.Const (I64 4294967296) ∷ instr.Eqz W64 ∷ []) ≡ gives 0 98
unfolding exec
zero_of_64_bits = refl

widened_by_its_sign : gives_of (function_type [] (type.I64 ∷ [])) (straight (i32_const 4294967295 ∷ instr.Extend Signed ∷ []) End) ≡ Some (Done (Some (I64 18446744073709551615)), 98)
unfolding exec
widened_by_its_sign = refl

second_global : from_64 (i32_const 5 ∷ instr.GlobalSet 1 ∷ instr.GlobalGet 0 ∷ instr.GlobalGet 1 ∷ i32_sub ∷ []) ≡ gives 2 95
unfolding exec
second_global = refl

-- ---- accesses of 8 bytes at the end of memory

abbrev load_64_at : ℕ → Option (Outcome × ℕ)
load_64_at n = gives_of (function_type [] (type.I64 ∷ [])) (straight (i32_const n ∷ instr.Load W64 (record { align = 0; offset = 0 }) ∷ []) End)

abbrev store_64_at : ℕ → Option (Outcome × ℕ)
store_64_at n = gives_of empty_type (straight (i32_const n ∷ instr.Const (I64 1) ∷ instr.Store W64 (record { align = 0; offset = 0 }) ∷ []) End)

load_64-at_the_end : load_64_at 65528 ≡ Some (Done (Some (I64 0)), 98)
unfolding exec
load_64-at_the_end = refl

load_64-past_the_end : load_64_at 65529 ≡ Some (Trap trap.Memory, 98)
unfolding exec
load_64-past_the_end = refl

store_64-at_the_end : store_64_at 65528 ≡ Some (Done None, 97)
unfolding exec
store_64-at_the_end = refl

store_64-past_the_end : store_64_at 65529 ≡ Some (Trap trap.Memory, 97)
unfolding exec
store_64-past_the_end = refl

-- what was stored stays where it is when the memory grows
growth_keeps_what_was_stored : from_64 (i32_const 1 ∷ i32_const 77 ∷ instr.StorePacked W32 Pack8 (record { align = 0; offset = 0 }) ∷ i32_const 1 ∷ instr.MemoryGrow ∷ instr.Drop ∷ i32_const 0 ∷ i32_load 1 ∷ []) ≡ gives 77 92
unfolding exec
growth_keeps_what_was_stored = refl

-- ---- what lies below an `if` and a loop

-- an arm that ends, one that branches with a value above another, and what stands behind
below_an_if : gives_of constant_type (straight (i32_const 100 ∷ i32_const 1 ∷ []) (If (Some type.I32) (straight (i32_const 5 ∷ []) End) (straight (i32_const 6 ∷ []) End) (straight (i32_sub ∷ []) End))) ≡ gives 95 95
unfolding exec
below_an_if = refl

branch_out_of_an_arm : gives_of constant_type (straight (i32_const 100 ∷ i32_const 0 ∷ []) (If (Some type.I32) (straight (i32_const 5 ∷ []) End) (straight (i32_const 3 ∷ i32_const 6 ∷ instr.Br 0 ∷ []) End) (straight (i32_sub ∷ []) End))) ≡ gives 94 93
unfolding exec
branch_out_of_an_arm = refl

-- a loop that is executed once more
below_a_loop : called (bare (unary_type ∷ []) (function_of 0 (straight (i32_const 100 ∷ []) (Loop (Some type.I32) (straight (instr.LocalGet 0 ∷ i32_const 1 ∷ i32_sub ∷ instr.LocalTee 0 ∷ instr.BrIf 0 ∷ i32_const 9 ∷ []) End) (straight (i32_sub ∷ []) End))) ∷ []) []) 0 (I32 2 ∷ []) 100 ≡ gives 91 85
unfolding exec
below_a_loop = refl

-- ---- extensions by the sign

extend-of_127 : called extend_module 0 (I32 127 ∷ []) 2 ≡ gives 127 0
unfolding exec
extend-of_127 = refl

extend-of_128 : called extend_module 0 (I32 128 ∷ []) 2 ≡ gives 4294967168 0
unfolding exec
extend-of_128 = refl

extend-of_255 : called extend_module 0 (I32 255 ∷ []) 2 ≡ gives 4294967295 0
unfolding exec
extend-of_255 = refl

extend-of_256 : called extend_module 0 (I32 256 ∷ []) 2 ≡ gives 0 0
unfolding exec
extend-of_256 = refl

extend-with_too_little : called extend_module 0 (I32 127 ∷ []) 1 ≡ out_of_fuel
unfolding exec
extend-with_too_little = refl

abbrev extended_32 : PackSize → ℕ → Option (Outcome × ℕ)
extended_32 p n = called (bare (unary_type ∷ []) (function_of 0 (straight (instr.LocalGet 0 ∷ instr.Unary W32 (unary_op.ExtendS p) ∷ []) End) ∷ []) []) 0 (I32 n ∷ []) 2

abbrev extended_64 : PackSize → ℕ → Option (Outcome × ℕ)
extended_64 p n = called (bare (function_type (type.I64 ∷ []) (type.I64 ∷ []) ∷ []) (function_of 0 (straight (instr.LocalGet 0 ∷ instr.Unary W64 (unary_op.ExtendS p) ∷ []) End) ∷ []) []) 0 (I64 n ∷ []) 2

extend_16_of_32 : extended_32 Pack16 32768 ≡ gives 4294934528 0
unfolding exec
extend_16_of_32 = refl

extend_8_of_64 : extended_64 Pack8 128 ≡ Some (Done (Some (I64 18446744073709551488)), 0)
unfolding exec
extend_8_of_64 = refl

extend_16_of_64 : extended_64 Pack16 32768 ≡ Some (Done (Some (I64 18446744073709518848)), 0)
unfolding exec
extend_16_of_64 = refl

extend_32_of_64 : extended_64 Pack32 2147483648 ≡ Some (Done (Some (I64 18446744071562067968)), 0)
unfolding exec
extend_32_of_64 = refl

-- ---- a fill

fill-of_all : called fill_module 0 (I32 0 ∷ I32 65536 ∷ []) 4 ≡ Some (Done None, 0)
unfolding exec
fill-of_all = refl

fill-of_none_at_the_end : called fill_module 0 (I32 65536 ∷ I32 0 ∷ []) 4 ≡ Some (Done None, 0)
unfolding exec
fill-of_none_at_the_end = refl

fill-past_the_end : called fill_module 0 (I32 65536 ∷ I32 1 ∷ []) 4 ≡ Some (Trap trap.Memory, 0)
unfolding exec
fill-past_the_end = refl

fill-of_none_past_the_end : called fill_module 0 (I32 65537 ∷ I32 0 ∷ []) 4 ≡ Some (Trap trap.Memory, 0)
unfolding exec
fill-of_none_past_the_end = refl

-- the end is no number of 32 bits, which would be 1
fill-far_past_the_end : called fill_module 0 (I32 4294967295 ∷ I32 2 ∷ []) 4 ≡ Some (Trap trap.Memory, 0)
unfolding exec
fill-far_past_the_end = refl

fill-with_too_little : called fill_module 0 (I32 0 ∷ I32 65536 ∷ []) 3 ≡ out_of_fuel
unfolding exec
fill-with_too_little = refl
