-- One body or more for each instruction, typed and untyped. Whether each is valid is what V8 answers for the module; the needs are
-- those of the standard's algorithm (appendix A.3). A row is computed by the checker, and `row_says` states what it means in the words
-- of the relation of typing.
use Rattle.std.specs.Prelude.{◌≡◌, ℕ, List, [], ◌∷◌, Option, Some, None, true, false, slice_get, refl}
use Rattle.wasm_types.specs.declared.types.ValType.TheVariants as type
use Rattle.wasm_types.specs.declared.types.Limits.{Limits}
use Rattle.wasm_values.specs.declared.outcome.Val.TheVariants.{I32, I64}
use Rattle.wasm_types.specs.declared.instr.Width.TheVariants.{W32, W64}
use Rattle.wasm_types.specs.declared.instr.Sign.TheVariants.{Signed, Unsigned}
use Rattle.wasm_types.specs.declared.instr.PackSize.TheVariants.{Pack8, Pack16, Pack32}
use Rattle.wasm_types.specs.declared.instr.UnaryOp.TheVariants as unary_op
use Rattle.wasm_types.specs.declared.instr.BinaryOp.TheVariants as binary_op
use Rattle.wasm_types.specs.declared.instr.CompareOp.TheVariants as compare_op
use Rattle.wasm_types.specs.declared.instr.Instr.TheVariants as instr
use Rattle.wasm_types.specs.Tree.{Code, End, Plain, Block, Loop, If, Call, CallIndirect, FunctionTree, ModuleTree}
use Rattle.wasm_spec.specs.Typing.{body_context, own_type, result_types, Typed}
use Rattle.wasm_spec.specs.Need.{need}
use Rattle.wasm_checker.specs.Check.{Stack, check_body}
use Rattle.wasm_checker.proofs.Exact.{Decides, body_exact}

-- a module with these memories and tables, whose function 0 takes an i32 and an i64 and gives an i32
abbrev around : List Limits → List Limits → ModuleTree
around memories tables = record {
  types = record { params = type.I32 ∷ type.I64 ∷ []; results = type.I32 ∷ [] } ∷ record { params = []; results = [] } ∷ record { params = type.I32 ∷ type.I64 ∷ []; results = type.I64 ∷ [] } ∷ record { params = type.I32 ∷ type.I64 ∷ []; results = [] } ∷ [];
  imports = [];
  functions = record { type_index = 0; locals = []; body = Plain (instr.Const (I32 0)) End } ∷ [];
  tables = tables;
  memories = memories;
  globals = record { global_type = record { value = type.I32; mutable = true }; init = Plain (instr.Const (I32 0)) End } ∷ record { global_type = record { value = type.I64; mutable = false }; init = Plain (instr.Const (I64 0)) End } ∷ [];
  exports = [];
  start = None;
  element_segments = [];
  data_segments = [];
}

abbrev one : List Limits
one = record { min = 1; max = None } ∷ []

abbrev need_if : Option Stack → ModuleTree → FunctionTree → Option ℕ
need_if None m f = None
need_if (Some s) m f = Some (need m f)

-- The need of a function of this type and body in the module, or None where the body isn't typed. The checker computes which it is;
-- that the relation of typing says the same is `row_says`.
abbrev need_if_typed : ModuleTree → ℕ → Code → Option ℕ
need_if_typed m t body =
    let f : FunctionTree = record { type_index = t; locals = []; body = body } in
    need_if (check_body (body_context m f) (slice_get (own_type m f).results 0) body) m f

-- a module with a memory and a table
abbrev both : ModuleTree
both = around one one

-- what a row says of typing: that it holds, or that it doesn't
abbrev Says : Option ℕ → Type 0 → Type 0
Says None P = ¬ P
Says (Some n) P = P

by_stack : (o : Option Stack) (m : ModuleTree) (f : FunctionTree) (P : Type 0) → Decides P o → Says (need_if o m f) P
by_stack None m f P d = d
by_stack (Some s) m f P d = d

-- The meaning of a row: the body is typed where its left side is a number, and is not where it is None.
row_says : (m : ModuleTree) (t : ℕ) (body : Code) → let f : FunctionTree = record { type_index = t; locals = []; body = body } in
    Says (need_if_typed m t body) (Typed (body_context m f) body [] (result_types (slice_get (own_type m f).results 0)))
row_says m t body =
    let f : FunctionTree = record { type_index = t; locals = []; body = body } in
    let result = slice_get (own_type m f).results 0 in
    by_stack (check_body (body_context m f) result body) m f (Typed (body_context m f) body [] (result_types result)) (body_exact (body_context m f) result body)

-- two of them, in the words of the relation
drop_nothing_is_untyped : Typed (body_context both (record { type_index = 3; locals = []; body = Plain instr.Drop End })) (Plain instr.Drop End) [] [] → ⊥
drop_nothing_is_untyped = row_says both 3 (Plain instr.Drop End)

add_after_unreachable_is_typed : let code = Plain instr.Unreachable (Plain (instr.Binary W32 binary_op.Add) End) in
    Typed (body_context both (record { type_index = 0; locals = []; body = code })) code [] (type.I32 ∷ [])
add_after_unreachable_is_typed = row_says both 0 (Plain instr.Unreachable (Plain (instr.Binary W32 binary_op.Add) End))

nop-row : need_if_typed both 3 (Plain (instr.Nop) (End)) ≡ Some 3
nop-row = refl

nothing-row : need_if_typed both 3 (End) ≡ Some 3
nothing-row = refl

operand_left-row : need_if_typed both 3 (Plain (instr.Const (I32 1)) (End)) ≡ None
operand_left-row = refl

no_result-row : need_if_typed both 0 (End) ≡ None
no_result-row = refl

one_result-row : need_if_typed both 0 (Plain (instr.Const (I32 1)) (End)) ≡ Some 4
one_result-row = refl

result_of_another_type-row : need_if_typed both 0 (Plain (instr.Const (I64 1)) (End)) ≡ None
result_of_another_type-row = refl

two_results-row : need_if_typed both 0 (Plain (instr.Const (I32 1)) (Plain (instr.Const (I32 2)) (End))) ≡ None
two_results-row = refl

unreachable_gives_any-row : need_if_typed both 0 (Plain (instr.Unreachable) (End)) ≡ Some 3
unreachable_gives_any-row = refl

unreachable_takes_any-row : need_if_typed both 0 (Plain (instr.Const (I32 1)) (Plain (instr.Const (I64 2)) (Plain (instr.Unreachable) (End)))) ≡ Some 5
unreachable_takes_any-row = refl

operand_after_unreachable-row : need_if_typed both 0 (Plain (instr.Unreachable) (Plain (instr.Const (I64 1)) (End))) ≡ None
operand_after_unreachable-row = refl

two_after_unreachable-row : need_if_typed both 0 (Plain (instr.Unreachable) (Plain (instr.Const (I32 1)) (Plain (instr.Const (I32 2)) (End)))) ≡ None
two_after_unreachable-row = refl

add_after_unreachable-row : need_if_typed both 0 (Plain (instr.Unreachable) (Plain (instr.Binary W32 binary_op.Add) (End))) ≡ Some 4
add_after_unreachable-row = refl

mixed_add_after_unreachable-row : need_if_typed both 0 (Plain (instr.Unreachable) (Plain (instr.Const (I64 0)) (Plain (instr.Binary W32 binary_op.Add) (End)))) ≡ None
mixed_add_after_unreachable-row = refl

drop-row : need_if_typed both 3 (Plain (instr.Const (I32 1)) (Plain (instr.Drop) (End))) ≡ Some 4
drop-row = refl

drop_nothing-row : need_if_typed both 3 (Plain (instr.Drop) (End)) ≡ None
drop_nothing-row = refl

drop_after_unreachable-row : need_if_typed both 3 (Plain (instr.Unreachable) (Plain (instr.Drop) (Plain (instr.Drop) (End)))) ≡ Some 3
drop_after_unreachable-row = refl

select-row : need_if_typed both 0 (Plain (instr.Const (I32 1)) (Plain (instr.Const (I32 2)) (Plain (instr.Const (I32 3)) (Plain (instr.Select) (End))))) ≡ Some 6
select-row = refl

select_of_64-row : need_if_typed both 2 (Plain (instr.Const (I64 1)) (Plain (instr.Const (I64 2)) (Plain (instr.Const (I32 3)) (Plain (instr.Select) (End))))) ≡ Some 6
select_of_64-row = refl

select_of_two_types-row : need_if_typed both 0 (Plain (instr.Const (I32 1)) (Plain (instr.Const (I64 2)) (Plain (instr.Const (I32 3)) (Plain (instr.Select) (End))))) ≡ None
select_of_two_types-row = refl

select_by_64-row : need_if_typed both 0 (Plain (instr.Const (I32 1)) (Plain (instr.Const (I32 2)) (Plain (instr.Const (I64 3)) (Plain (instr.Select) (End))))) ≡ None
select_by_64-row = refl

select_after_unreachable-row : need_if_typed both 0 (Plain (instr.Unreachable) (Plain (instr.Select) (End))) ≡ Some 4
select_after_unreachable-row = refl

select_after_unreachable_64-row : need_if_typed both 2 (Plain (instr.Unreachable) (Plain (instr.Const (I64 1)) (Plain (instr.Const (I32 0)) (Plain (instr.Select) (End))))) ≡ Some 5
select_after_unreachable_64-row = refl

select_gives_its_type-row : need_if_typed both 0 (Plain (instr.Unreachable) (Plain (instr.Const (I64 1)) (Plain (instr.Const (I32 0)) (Plain (instr.Select) (End))))) ≡ None
select_gives_its_type-row = refl

local_get-row : need_if_typed both 0 (Plain (instr.LocalGet 0) (End)) ≡ Some 4
local_get-row = refl

local_get_of_another_type-row : need_if_typed both 0 (Plain (instr.LocalGet 1) (End)) ≡ None
local_get_of_another_type-row = refl

local_get_past_the_last-row : need_if_typed both 3 (Plain (instr.LocalGet 2) (Plain (instr.Drop) (End))) ≡ None
local_get_past_the_last-row = refl

local_set-row : need_if_typed both 3 (Plain (instr.Const (I32 1)) (Plain (instr.LocalSet 0) (End))) ≡ Some 4
local_set-row = refl

local_set_of_another_type-row : need_if_typed both 3 (Plain (instr.Const (I32 1)) (Plain (instr.LocalSet 1) (End))) ≡ None
local_set_of_another_type-row = refl

local_tee-row : need_if_typed both 2 (Plain (instr.Const (I64 1)) (Plain (instr.LocalTee 1) (End))) ≡ Some 4
local_tee-row = refl

local_tee_of_nothing-row : need_if_typed both 0 (Plain (instr.LocalTee 0) (End)) ≡ None
local_tee_of_nothing-row = refl

global_get-row : need_if_typed both 0 (Plain (instr.GlobalGet 0) (End)) ≡ Some 4
global_get-row = refl

global_get_constant-row : need_if_typed both 2 (Plain (instr.GlobalGet 1) (End)) ≡ Some 4
global_get_constant-row = refl

global_get_past_the_last-row : need_if_typed both 3 (Plain (instr.GlobalGet 2) (Plain (instr.Drop) (End))) ≡ None
global_get_past_the_last-row = refl

global_set-row : need_if_typed both 3 (Plain (instr.Const (I32 1)) (Plain (instr.GlobalSet 0) (End))) ≡ Some 4
global_set-row = refl

global_set_constant-row : need_if_typed both 3 (Plain (instr.Const (I64 1)) (Plain (instr.GlobalSet 1) (End))) ≡ None
global_set_constant-row = refl

global_set_of_another_type-row : need_if_typed both 3 (Plain (instr.Const (I64 1)) (Plain (instr.GlobalSet 0) (End))) ≡ None
global_set_of_another_type-row = refl

load-row : need_if_typed both 0 (Plain (instr.Const (I32 0)) (Plain (instr.Load W32 (record { align = 2; offset = 4 })) (End))) ≡ Some 4
load-row = refl

load_over_aligned-row : need_if_typed both 0 (Plain (instr.Const (I32 0)) (Plain (instr.Load W32 (record { align = 3; offset = 4 })) (End))) ≡ None
load_over_aligned-row = refl

load_64-row : need_if_typed both 2 (Plain (instr.Const (I32 0)) (Plain (instr.Load W64 (record { align = 3; offset = 0 })) (End))) ≡ Some 4
load_64-row = refl

load_64_over_aligned-row : need_if_typed both 2 (Plain (instr.Const (I32 0)) (Plain (instr.Load W64 (record { align = 4; offset = 0 })) (End))) ≡ None
load_64_over_aligned-row = refl

load8_aligned-row : need_if_typed both 2 (Plain (instr.Const (I32 0)) (Plain (instr.LoadPacked W64 Pack8 Signed (record { align = 0; offset = 0 })) (End))) ≡ Some 4
load8_aligned-row = refl

load8_over_aligned-row : need_if_typed both 2 (Plain (instr.Const (I32 0)) (Plain (instr.LoadPacked W64 Pack8 Signed (record { align = 1; offset = 0 })) (End))) ≡ None
load8_over_aligned-row = refl

load16_over_aligned-row : need_if_typed both 0 (Plain (instr.Const (I32 0)) (Plain (instr.LoadPacked W32 Pack16 Unsigned (record { align = 2; offset = 0 })) (End))) ≡ None
load16_over_aligned-row = refl

load32_aligned-row : need_if_typed both 2 (Plain (instr.Const (I32 0)) (Plain (instr.LoadPacked W64 Pack32 Unsigned (record { align = 2; offset = 0 })) (End))) ≡ Some 4
load32_aligned-row = refl

load32_over_aligned-row : need_if_typed both 2 (Plain (instr.Const (I32 0)) (Plain (instr.LoadPacked W64 Pack32 Unsigned (record { align = 3; offset = 0 })) (End))) ≡ None
load32_over_aligned-row = refl

load_at_64-row : need_if_typed both 0 (Plain (instr.Const (I64 0)) (Plain (instr.Load W32 (record { align = 0; offset = 0 })) (End))) ≡ None
load_at_64-row = refl

load_without_memory-row : need_if_typed (around [] one) 0 (Plain (instr.Const (I32 0)) (Plain (instr.Load W32 (record { align = 0; offset = 0 })) (End))) ≡ None
load_without_memory-row = refl

store-row : need_if_typed both 3 (Plain (instr.Const (I32 0)) (Plain (instr.Const (I32 1)) (Plain (instr.Store W32 (record { align = 2; offset = 0 })) (End)))) ≡ Some 5
store-row = refl

store_64-row : need_if_typed both 3 (Plain (instr.Const (I32 0)) (Plain (instr.Const (I64 1)) (Plain (instr.Store W64 (record { align = 3; offset = 0 })) (End)))) ≡ Some 5
store_64-row = refl

store_64_in_32-row : need_if_typed both 3 (Plain (instr.Const (I32 0)) (Plain (instr.Const (I64 1)) (Plain (instr.Store W32 (record { align = 2; offset = 0 })) (End)))) ≡ None
store_64_in_32-row = refl

store8-row : need_if_typed both 3 (Plain (instr.Const (I32 0)) (Plain (instr.Const (I64 1)) (Plain (instr.StorePacked W64 Pack8 (record { align = 0; offset = 0 })) (End)))) ≡ Some 5
store8-row = refl

store16_over_aligned-row : need_if_typed both 3 (Plain (instr.Const (I32 0)) (Plain (instr.Const (I64 1)) (Plain (instr.StorePacked W64 Pack16 (record { align = 2; offset = 0 })) (End)))) ≡ None
store16_over_aligned-row = refl

store32-row : need_if_typed both 3 (Plain (instr.Const (I32 0)) (Plain (instr.Const (I64 1)) (Plain (instr.StorePacked W64 Pack32 (record { align = 2; offset = 0 })) (End)))) ≡ Some 5
store32-row = refl

store_without_memory-row : need_if_typed (around [] one) 3 (Plain (instr.Const (I32 0)) (Plain (instr.Const (I32 1)) (Plain (instr.Store W32 (record { align = 0; offset = 0 })) (End)))) ≡ None
store_without_memory-row = refl

memory_size-row : need_if_typed both 0 (Plain (instr.MemorySize) (End)) ≡ Some 4
memory_size-row = refl

memory_size_without-row : need_if_typed (around [] one) 0 (Plain (instr.MemorySize) (End)) ≡ None
memory_size_without-row = refl

memory_grow-row : need_if_typed both 0 (Plain (instr.Const (I32 1)) (Plain (instr.MemoryGrow) (End))) ≡ Some 4
memory_grow-row = refl

memory_grow_by_64-row : need_if_typed both 0 (Plain (instr.Const (I64 1)) (Plain (instr.MemoryGrow) (End))) ≡ None
memory_grow_by_64-row = refl

memory_grow_without-row : need_if_typed (around [] one) 0 (Plain (instr.Const (I32 1)) (Plain (instr.MemoryGrow) (End))) ≡ None
memory_grow_without-row = refl

memory_copy-row : need_if_typed both 3 (Plain (instr.Const (I32 0)) (Plain (instr.Const (I32 0)) (Plain (instr.Const (I32 0)) (Plain (instr.MemoryCopy) (End))))) ≡ Some 6
memory_copy-row = refl

memory_copy_of_two-row : need_if_typed both 3 (Plain (instr.Const (I32 0)) (Plain (instr.Const (I32 0)) (Plain (instr.MemoryCopy) (End)))) ≡ None
memory_copy_of_two-row = refl

memory_copy_gives_nothing-row : need_if_typed both 0 (Plain (instr.Const (I32 0)) (Plain (instr.Const (I32 0)) (Plain (instr.Const (I32 0)) (Plain (instr.MemoryCopy) (End))))) ≡ None
memory_copy_gives_nothing-row = refl

memory_copy_by_64-row : need_if_typed both 3 (Plain (instr.Const (I32 0)) (Plain (instr.Const (I32 0)) (Plain (instr.Const (I64 0)) (Plain (instr.MemoryCopy) (End))))) ≡ None
memory_copy_by_64-row = refl

memory_copy_without-row : need_if_typed (around [] one) 3 (Plain (instr.Const (I32 0)) (Plain (instr.Const (I32 0)) (Plain (instr.Const (I32 0)) (Plain (instr.MemoryCopy) (End))))) ≡ None
memory_copy_without-row = refl

memory_fill-row : need_if_typed both 3 (Plain (instr.Const (I32 0)) (Plain (instr.Const (I32 0)) (Plain (instr.Const (I32 0)) (Plain (instr.MemoryFill) (End))))) ≡ Some 6
memory_fill-row = refl

memory_fill_of_two-row : need_if_typed both 3 (Plain (instr.Const (I32 0)) (Plain (instr.Const (I32 0)) (Plain (instr.MemoryFill) (End)))) ≡ None
memory_fill_of_two-row = refl

memory_fill_of_64-row : need_if_typed both 3 (Plain (instr.Const (I32 0)) (Plain (instr.Const (I64 0)) (Plain (instr.Const (I32 0)) (Plain (instr.MemoryFill) (End))))) ≡ None
memory_fill_of_64-row = refl

memory_fill_without-row : need_if_typed (around [] one) 3 (Plain (instr.Const (I32 0)) (Plain (instr.Const (I32 0)) (Plain (instr.Const (I32 0)) (Plain (instr.MemoryFill) (End))))) ≡ None
memory_fill_without-row = refl

extend8-row : need_if_typed both 0 (Plain (instr.Const (I32 1)) (Plain (instr.Unary W32 (unary_op.ExtendS Pack8)) (End))) ≡ Some 4
extend8-row = refl

extend32-row : need_if_typed both 2 (Plain (instr.Const (I64 1)) (Plain (instr.Unary W64 (unary_op.ExtendS Pack32)) (End))) ≡ Some 4
extend32-row = refl

extend32_of_32-row : need_if_typed both 2 (Plain (instr.Const (I32 1)) (Plain (instr.Unary W64 (unary_op.ExtendS Pack32)) (End))) ≡ None
extend32_of_32-row = refl

eqz-row : need_if_typed both 0 (Plain (instr.Const (I32 1)) (Plain (instr.Eqz W32) (End))) ≡ Some 4
eqz-row = refl

eqz_64-row : need_if_typed both 0 (Plain (instr.Const (I64 1)) (Plain (instr.Eqz W64) (End))) ≡ Some 4
eqz_64-row = refl

eqz_64_gives_32-row : need_if_typed both 2 (Plain (instr.Const (I64 1)) (Plain (instr.Eqz W64) (End))) ≡ None
eqz_64_gives_32-row = refl

compare_64-row : need_if_typed both 0 (Plain (instr.Const (I64 1)) (Plain (instr.Const (I64 2)) (Plain (instr.Compare W64 compare_op.LtS) (End)))) ≡ Some 5
compare_64-row = refl

compare_mixed-row : need_if_typed both 0 (Plain (instr.Const (I64 1)) (Plain (instr.Const (I32 2)) (Plain (instr.Compare W64 compare_op.LtS) (End)))) ≡ None
compare_mixed-row = refl

clz_64-row : need_if_typed both 2 (Plain (instr.Const (I64 1)) (Plain (instr.Unary W64 unary_op.Clz) (End))) ≡ Some 4
clz_64-row = refl

clz_of_another_type-row : need_if_typed both 2 (Plain (instr.Const (I32 1)) (Plain (instr.Unary W64 unary_op.Clz) (End))) ≡ None
clz_of_another_type-row = refl

rotl-row : need_if_typed both 0 (Plain (instr.Const (I32 1)) (Plain (instr.Const (I32 2)) (Plain (instr.Binary W32 binary_op.Rotl) (End)))) ≡ Some 5
rotl-row = refl

wrap-row : need_if_typed both 0 (Plain (instr.Const (I64 1)) (Plain (instr.Wrap) (End))) ≡ Some 4
wrap-row = refl

wrap_of_32-row : need_if_typed both 0 (Plain (instr.Const (I32 1)) (Plain (instr.Wrap) (End))) ≡ None
wrap_of_32-row = refl

extend-row : need_if_typed both 2 (Plain (instr.Const (I32 1)) (Plain (instr.Extend Unsigned) (End))) ≡ Some 4
extend-row = refl

extend_of_64-row : need_if_typed both 2 (Plain (instr.Const (I64 1)) (Plain (instr.Extend Signed) (End))) ≡ None
extend_of_64-row = refl

block-row : need_if_typed both 0 (Block (Some type.I32) (Plain (instr.Const (I32 1)) (End)) (End)) ≡ Some 5
block-row = refl

block_without_its_result-row : need_if_typed both 0 (Block (Some type.I32) (End) (End)) ≡ None
block_without_its_result-row = refl

block_takes_from_outside-row : need_if_typed both 0 (Plain (instr.Const (I32 1)) (Block (Some type.I32) (Plain (instr.Const (I32 2)) (Plain (instr.Binary W32 binary_op.Add) (End))) (End))) ≡ None
block_takes_from_outside-row = refl

block_leaves_more-row : need_if_typed both 3 (Block None (Plain (instr.Const (I32 1)) (End)) (End)) ≡ None
block_leaves_more-row = refl

loop-row : need_if_typed both 2 (Loop (Some type.I64) (Plain (instr.Const (I64 1)) (End)) (End)) ≡ Some 5
loop-row = refl

if-row : need_if_typed both 0 (Plain (instr.Const (I32 1)) (If (Some type.I32) (Plain (instr.Const (I32 1)) (End)) (Plain (instr.Const (I32 2)) (End)) (End))) ≡ Some 5
if-row = refl

if_with_one_arm-row : need_if_typed both 3 (Plain (instr.Const (I32 1)) (If None (Plain (instr.Nop) (End)) (End) (End))) ≡ Some 5
if_with_one_arm-row = refl

if_with_one_arm_and_a_result-row : need_if_typed both 0 (Plain (instr.Const (I32 1)) (If (Some type.I32) (Plain (instr.Const (I32 1)) (End)) (End) (End))) ≡ None
if_with_one_arm_and_a_result-row = refl

if_by_64-row : need_if_typed both 3 (Plain (instr.Const (I64 1)) (If None (End) (End) (End))) ≡ None
if_by_64-row = refl

if_with_two_types-row : need_if_typed both 0 (Plain (instr.Const (I32 1)) (If (Some type.I32) (Plain (instr.Const (I32 1)) (End)) (Plain (instr.Const (I64 2)) (End)) (End))) ≡ None
if_with_two_types-row = refl

br-row : need_if_typed both 0 (Block (Some type.I32) (Plain (instr.Const (I32 1)) (Plain (instr.Br 0) (End))) (End)) ≡ Some 5
br-row = refl

br_drops-row : need_if_typed both 0 (Block (Some type.I32) (Plain (instr.Const (I64 7)) (Plain (instr.Const (I32 1)) (Plain (instr.Br 0) (End)))) (End)) ≡ Some 6
br_drops-row = refl

br_without_its_value-row : need_if_typed both 0 (Block (Some type.I32) (Plain (instr.Br 0) (End)) (End)) ≡ None
br_without_its_value-row = refl

br_out-row : need_if_typed both 0 (Block None (Plain (instr.Const (I32 1)) (Plain (instr.Br 1) (End))) (Plain (instr.Const (I32 2)) (End))) ≡ Some 5
br_out-row = refl

br_past_the_body-row : need_if_typed both 3 (Plain (instr.Br 1) (End)) ≡ None
br_past_the_body-row = refl

br_to_a_loop_with_a_result-row : need_if_typed both 0 (Loop (Some type.I32) (Plain (instr.Br 0) (End)) (End)) ≡ Some 5
br_to_a_loop_with_a_result-row = refl

br_if-row : need_if_typed both 0 (Block (Some type.I32) (Plain (instr.Const (I32 1)) (Plain (instr.Const (I32 0)) (Plain (instr.BrIf 0) (End)))) (End)) ≡ Some 6
br_if-row = refl

br_if_keeps-row : need_if_typed both 0 (Block (Some type.I32) (Plain (instr.Const (I32 1)) (Plain (instr.Const (I32 0)) (Plain (instr.BrIf 0) (Plain (instr.Drop) (End))))) (End)) ≡ None
br_if_keeps-row = refl

br_if_by_64-row : need_if_typed both 3 (Plain (instr.Const (I64 0)) (Plain (instr.BrIf 0) (End))) ≡ None
br_if_by_64-row = refl

br_if_after_unreachable-row : need_if_typed both 0 (Block (Some type.I32) (Plain (instr.Unreachable) (Plain (instr.BrIf 0) (End))) (End)) ≡ Some 5
br_if_after_unreachable-row = refl

br_table-row : need_if_typed both 3 (Block None (Plain (instr.Const (I32 0)) (Plain (instr.BrTable (0 ∷ 1 ∷ 0 ∷ []) 0) (End))) (End)) ≡ Some 5
br_table-row = refl

br_table_of_two_types-row : need_if_typed both 3 (Block (Some type.I32) (Plain (instr.Const (I32 1)) (Plain (instr.Const (I32 0)) (Plain (instr.BrTable (1 ∷ []) 0) (End)))) (Plain (instr.Drop) (End))) ≡ None
br_table_of_two_types-row = refl

br_table_with_a_value-row : need_if_typed both 0 (Block (Some type.I32) (Plain (instr.Const (I32 1)) (Plain (instr.Const (I32 0)) (Plain (instr.BrTable (0 ∷ 1 ∷ []) 0) (End)))) (End)) ≡ Some 6
br_table_with_a_value-row = refl

br_table_past_the_labels-row : need_if_typed both 3 (Plain (instr.Const (I32 0)) (Plain (instr.BrTable (1 ∷ []) 0) (End))) ≡ None
br_table_past_the_labels-row = refl

return-row : need_if_typed both 0 (Plain (instr.Const (I32 1)) (Plain (instr.Return) (End))) ≡ Some 4
return-row = refl

return_of_another_type-row : need_if_typed both 0 (Plain (instr.Const (I64 1)) (Plain (instr.Return) (End))) ≡ None
return_of_another_type-row = refl

return_drops-row : need_if_typed both 0 (Plain (instr.Const (I64 7)) (Plain (instr.Const (I32 1)) (Plain (instr.Return) (End)))) ≡ Some 5
return_drops-row = refl

after_return-row : need_if_typed both 0 (Plain (instr.Const (I32 1)) (Plain (instr.Return) (Plain (instr.Const (I64 2)) (Plain (instr.Drop) (End))))) ≡ Some 4
after_return-row = refl

call-row : need_if_typed both 0 (Plain (instr.Const (I32 1)) (Plain (instr.Const (I64 2)) (Call 0 (End)))) ≡ Some 5
call-row = refl

call_operands_in_order-row : need_if_typed both 0 (Plain (instr.Const (I64 2)) (Plain (instr.Const (I32 1)) (Call 0 (End)))) ≡ None
call_operands_in_order-row = refl

call_past_the_last-row : need_if_typed both 3 (Call 9 (End)) ≡ None
call_past_the_last-row = refl

call_indirect-row : need_if_typed both 0 (Plain (instr.Const (I32 1)) (Plain (instr.Const (I64 2)) (Plain (instr.Const (I32 0)) (CallIndirect 0 (End))))) ≡ Some 6
call_indirect-row = refl

call_indirect_by_64-row : need_if_typed both 0 (Plain (instr.Const (I32 1)) (Plain (instr.Const (I64 2)) (Plain (instr.Const (I64 0)) (CallIndirect 0 (End))))) ≡ None
call_indirect_by_64-row = refl

call_indirect_without_table-row : need_if_typed (around one []) 0 (Plain (instr.Const (I32 1)) (Plain (instr.Const (I64 2)) (Plain (instr.Const (I32 0)) (CallIndirect 0 (End))))) ≡ None
call_indirect_without_table-row = refl

call_indirect_of_no_type-row : need_if_typed both 3 (Plain (instr.Const (I32 0)) (CallIndirect 9 (End))) ≡ None
call_indirect_of_no_type-row = refl

store_over_aligned-row : need_if_typed both 3 (Plain (instr.Const (I32 0)) (Plain (instr.Const (I32 1)) (Plain (instr.Store W32 (record { align = 3; offset = 0 })) (End)))) ≡ None
store_over_aligned-row = refl

store_64_over_aligned-row : need_if_typed both 3 (Plain (instr.Const (I32 0)) (Plain (instr.Const (I64 1)) (Plain (instr.Store W64 (record { align = 4; offset = 0 })) (End)))) ≡ None
store_64_over_aligned-row = refl

store8_over_aligned-row : need_if_typed both 3 (Plain (instr.Const (I32 0)) (Plain (instr.Const (I32 1)) (Plain (instr.StorePacked W32 Pack8 (record { align = 1; offset = 0 })) (End)))) ≡ None
store8_over_aligned-row = refl

call_indirect_names_a_type-row : need_if_typed both 3 (Plain (instr.Const (I32 0)) (CallIndirect 1 (End))) ≡ Some 4
call_indirect_names_a_type-row = refl

return_in_a_block_needs_the_result-row : need_if_typed both 0 (Block None (Plain (instr.Return) (End)) (Plain (instr.Const (I32 2)) (End))) ≡ None
return_in_a_block_needs_the_result-row = refl

return_in_a_block-row : need_if_typed both 0 (Block None (Plain (instr.Const (I32 1)) (Plain (instr.Return) (End))) (Plain (instr.Const (I32 2)) (End))) ≡ Some 5
return_in_a_block-row = refl

br_in_the_first_arm-row : need_if_typed both 0 (Plain (instr.Const (I32 1)) (If (Some type.I32) (Plain (instr.Const (I32 1)) (Plain (instr.Br 0) (End))) (Plain (instr.Const (I32 2)) (End)) (End))) ≡ Some 5
br_in_the_first_arm-row = refl

br_in_the_first_arm_without_its_value-row : need_if_typed both 0 (Plain (instr.Const (I32 1)) (If (Some type.I32) (Plain (instr.Br 0) (End)) (Plain (instr.Const (I32 2)) (End)) (End))) ≡ None
br_in_the_first_arm_without_its_value-row = refl

br_in_the_second_arm_without_its_value-row : need_if_typed both 0 (Plain (instr.Const (I32 1)) (If (Some type.I32) (Plain (instr.Const (I32 1)) (End)) (Plain (instr.Br 0) (End)) (End))) ≡ None
br_in_the_second_arm_without_its_value-row = refl

float-row : need_if_typed both 3 (Plain (instr.Float) (End)) ≡ None
float-row = refl

br_if_past_the_labels-row : need_if_typed both 3 (Plain (instr.Const (I32 0)) (Plain (instr.BrIf 1) (End))) ≡ None
br_if_past_the_labels-row = refl

br_table_last_past_the_labels-row : need_if_typed both 3 (Plain (instr.Const (I32 0)) (Plain (instr.BrTable (0 ∷ []) 1) (End))) ≡ None
br_table_last_past_the_labels-row = refl

local_set_past_the_last-row : need_if_typed both 3 (Plain (instr.Const (I32 1)) (Plain (instr.LocalSet 2) (End))) ≡ None
local_set_past_the_last-row = refl

local_tee_past_the_last-row : need_if_typed both 0 (Plain (instr.Const (I32 1)) (Plain (instr.LocalTee 2) (End))) ≡ None
local_tee_past_the_last-row = refl

global_set_past_the_last-row : need_if_typed both 3 (Plain (instr.Const (I32 1)) (Plain (instr.GlobalSet 2) (End))) ≡ None
global_set_past_the_last-row = refl

operand_below_a_block-row : need_if_typed both 0 (Plain (instr.Const (I32 1)) (Block None (End) (End))) ≡ Some 5
operand_below_a_block-row = refl

operand_below_a_loop-row : need_if_typed both 0 (Plain (instr.Const (I32 1)) (Loop None (End) (End))) ≡ Some 5
operand_below_a_loop-row = refl

operand_below_an_if-row : need_if_typed both 0 (Plain (instr.Const (I32 1)) (Plain (instr.Const (I32 0)) (If None (End) (End) (End)))) ≡ Some 6
operand_below_an_if-row = refl

-- ---- each access needs a memory, and a table is none

load_of_64_without_a_memory-row : need_if_typed (around [] one) 3 (Plain (instr.Const (I32 0)) (Plain (instr.Load W64 (record { align = 0; offset = 0 })) (Plain (instr.Drop) (End)))) ≡ None
load_of_64_without_a_memory-row = refl

narrow_load_without_a_memory-row : need_if_typed (around [] one) 3 (Plain (instr.Const (I32 0)) (Plain (instr.LoadPacked W32 Pack8 Signed (record { align = 0; offset = 0 })) (Plain (instr.Drop) (End)))) ≡ None
narrow_load_without_a_memory-row = refl

narrow_load_of_64_without_a_memory-row : need_if_typed (around [] one) 3 (Plain (instr.Const (I32 0)) (Plain (instr.LoadPacked W64 Pack32 Unsigned (record { align = 0; offset = 0 })) (Plain (instr.Drop) (End)))) ≡ None
narrow_load_of_64_without_a_memory-row = refl

store_of_64_without_a_memory-row : need_if_typed (around [] one) 3 (Plain (instr.Const (I32 0)) (Plain (instr.Const (I64 0)) (Plain (instr.Store W64 (record { align = 0; offset = 0 })) (End)))) ≡ None
store_of_64_without_a_memory-row = refl

narrow_store_without_a_memory-row : need_if_typed (around [] one) 3 (Plain (instr.Const (I32 0)) (Plain (instr.Const (I32 0)) (Plain (instr.StorePacked W32 Pack8 (record { align = 0; offset = 0 })) (End)))) ≡ None
narrow_store_without_a_memory-row = refl

narrow_load_without_a_table-row : need_if_typed (around one []) 3 (Plain (instr.Const (I32 0)) (Plain (instr.LoadPacked W32 Pack8 Signed (record { align = 0; offset = 0 })) (Plain (instr.Drop) (End)))) ≡ Some 4
narrow_load_without_a_table-row = refl

narrow_store_without_a_table-row : need_if_typed (around one []) 3 (Plain (instr.Const (I32 0)) (Plain (instr.Const (I32 0)) (Plain (instr.StorePacked W32 Pack8 (record { align = 0; offset = 0 })) (End)))) ≡ Some 5
narrow_store_without_a_table-row = refl

branch_out_without_its_value-row : need_if_typed both 0 (Block None (Plain (instr.Br 1) (End)) (Plain (instr.Const (I32 2)) (End))) ≡ None
branch_out_without_its_value-row = refl

-- ---- all labels of a table have the types of its last one

second_label_of_another_type-row : need_if_typed both 0 (Block None (Plain (instr.Const (I32 0)) (Plain (instr.BrTable (0 ∷ 1 ∷ []) 0) (End))) (Plain (instr.Const (I32 0)) (End))) ≡ None
second_label_of_another_type-row = refl

labels_of_32_and_64-row : need_if_typed both 2 (Block (Some type.I32) (Plain (instr.Const (I32 1)) (Plain (instr.Const (I32 0)) (Plain (instr.BrTable (1 ∷ []) 0) (End)))) (Plain (instr.Drop) (Plain (instr.Const (I64 0)) (End)))) ≡ None
labels_of_32_and_64-row = refl

labels_of_one_type-row : need_if_typed both 0 (Block (Some type.I32) (Plain (instr.Const (I32 1)) (Plain (instr.Const (I32 0)) (Plain (instr.BrTable (1 ∷ 0 ∷ []) 0) (End)))) (End)) ≡ Some 6
labels_of_one_type-row = refl
