-- Worked examples of typing, validity, floats and frame needs.
use Rattle.std.proofs.Common.{◌≡◌, ℕ, List, [], ◌∷◌, true, Some, None, refl, arith}
use Rattle.wasm_types.specs.declared.types.ValType.TheVariants.{I32, I64, F32}
use Rattle.wasm_types.specs.declared.types.FuncType.{FuncType}
use Rattle.wasm_values.specs.declared.outcome.Val.TheVariants as val
use Rattle.wasm_types.specs.declared.instr.Width.TheVariants.{W32}
use Rattle.wasm_types.specs.declared.instr.BinaryOp.TheVariants.{Add, Sub}
use Rattle.wasm_types.specs.declared.instr.Instr.TheVariants as instr
use Rattle.wasm_types.specs.declared.module.Export.{Export}
use Rattle.wasm_types.specs.Tree.{Code, End, Plain, Block, Loop, If, Call, FunctionTree, ModuleTree}
use Rattle.wasm_spec.specs.Typing.{IsTypedFunction, Typed, body_context}
use Rattle.wasm_spec.specs.Validity.{IsValid, uses_floats}
use Rattle.wasm_spec.specs.Need.{need}
use Rattle.wasm_spec.proofs.AddModule.{add, add_function}

abbrev i32_add : Code → Code
i32_add rest = Plain (instr.Binary W32 Add) rest

-- one function of this type, exported under these names
abbrev module_of : FuncType → FunctionTree → List Export → ModuleTree
module_of t f exports =
    record { types = t ∷ []; imports = []; functions = f ∷ []; tables = []; memories = []; globals = []; exports = exports; start = None; element_segments = []; data_segments = [] }

abbrev function_of : Code → FunctionTree
function_of body = record { type_index = 0; locals = []; body = body }

abbrev nothing_to_nothing : FuncType
nothing_to_nothing = record { params = []; results = [] }

abbrev nothing_to_i32 : FuncType
nothing_to_i32 = record { params = []; results = I32 ∷ [] }

add_need : need add add_function ≡ 5
add_need = refl

-- i32.const 1, i32.add, drop: an operand is missing
abbrev missing_operand : FunctionTree
missing_operand = function_of (Plain (instr.Const (val.I32 1)) (i32_add (Plain instr.Drop End)))

abbrev missing : ModuleTree
missing = module_of nothing_to_nothing missing_operand []

missing_untyped : IsTypedFunction missing missing_operand → ⊥
missing_untyped h =
    let first = h.1.1 in
    let second = h.1.2.1 in
    cc (first.1, first.2, second.1)

missing_invalid : IsValid missing → ⊥
missing_invalid v = missing_untyped (v.functions 0 missing_operand (omega arith))

-- an f32.const, which is dropped
abbrev float_code : Code
float_code = Plain instr.Float (Plain instr.Drop End)

float_unsupported : uses_floats (module_of nothing_to_nothing (function_of float_code) []) ≡ true
float_unsupported = refl

-- a parameter of type f32
float_parameter : uses_floats (module_of (record { params = F32 ∷ []; results = [] }) (function_of End) []) ≡ true
float_parameter = refl

-- a recursion down to 0: local.get 0, i32.eqz, if .. else .. with a call in the second arm
abbrev countdown : FunctionTree
countdown =
    function_of (Plain (instr.LocalGet 0) (Plain (instr.Eqz W32)
    (If (Some I32) (Plain (instr.Const (val.I32 0)) End)
    (Plain (instr.LocalGet 0) (Plain (instr.Const (val.I32 1)) (Plain (instr.Binary W32 Sub) (Call 0 End)))) End)))

countdown_need : need (module_of (record { params = I32 ∷ []; results = I32 ∷ [] }) countdown []) countdown ≡ 5
countdown_need = refl

-- what isn't reached begins with no operands, and its end puts none there
abbrev unreached_add : FunctionTree
unreached_add = function_of (Plain instr.Unreachable (i32_add End))

unreached_add_typed : IsTypedFunction (module_of nothing_to_i32 unreached_add []) unreached_add
unreached_add_typed = (refl, (I32 ∷ I32 ∷ [], ([], refl), (I32 ∷ [], ([], refl, refl), refl)))

unreached_add_need : need (module_of nothing_to_i32 unreached_add []) unreached_add ≡ 2
unreached_add_need = refl

unreachable_need : need (module_of nothing_to_i32 unreached_add []) (function_of (Plain instr.Unreachable End)) ≡ 1
unreachable_need = refl

-- declared locals are numbered behind the parameters
abbrev last_local : FunctionTree
last_local = record { type_index = 0; locals = I64 ∷ []; body = Plain (instr.LocalGet 1) End }

last_local_typed : IsTypedFunction (module_of (record { params = I32 ∷ []; results = I64 ∷ [] }) last_local []) last_local
last_local_typed = (refl, (I64 ∷ [], ([], refl, refl), refl))

-- ---- blocks, in the words of the relation

-- code of a function that takes and gives nothing
abbrev IsTyped : Code → Type 0
IsTyped code = Typed (body_context (module_of nothing_to_nothing (function_of code) []) (function_of code)) code [] []

abbrev constant : Code → Code
constant rest = Plain (instr.Const (val.I32 0)) rest

abbrev branch : ℕ → Code
branch label = Plain (instr.Br label) End

abbrev drop : Code
drop = Plain instr.Drop End

-- a branch out of either arm and of the function: the arm's own label is the innermost
branches_out_of_arms : IsTyped (constant (If None (branch 1) (branch 1) End))
branches_out_of_arms = (I32 ∷ [], ([], refl, refl), ([], refl, ([], ([], refl), refl), ([], ([], refl), refl), refl))

-- a branch to a loop takes nothing, one out of a block or an arm takes its result
branch_to_a_loop : IsTyped (Loop (Some I32) (branch 0) drop)
branch_to_a_loop = ((I32 ∷ [], ([], refl), refl), ([], (I32, refl), refl))

branch_out_of_a_block_without_its_value : IsTyped (Block (Some I32) (branch 0) drop) → ⊥
branch_out_of_a_block_without_its_value h = let e = h.0.1.1 in cc (e)

branch_out_of_the_first_arm_without_its_value : IsTyped (constant (If (Some I32) (branch 0) (constant End) drop)) → ⊥
branch_out_of_the_first_arm_without_its_value h = let e = h.2.2.1.1 in cc (e)

branch_out_of_the_second_arm_without_its_value : IsTyped (constant (If (Some I32) (constant End) (branch 0) drop)) → ⊥
branch_out_of_the_second_arm_without_its_value h = let e = h.2.3.1.1 in cc (e)

-- what lies below a block, a loop and an `if` is there behind it, and not in it
operand_below_a_block : IsTyped (constant (Block None End drop))
operand_below_a_block = (I32 ∷ [], ([], refl, refl), (refl, ([], (I32, refl), refl)))

operand_below_a_loop : IsTyped (constant (Loop None End drop))
operand_below_a_loop = (I32 ∷ [], ([], refl, refl), (refl, ([], (I32, refl), refl)))

operand_below_an_if : IsTyped (constant (constant (If None End End drop)))
operand_below_an_if = (I32 ∷ [], ([], refl, refl), (I32 ∷ I32 ∷ [], (I32 ∷ [], refl, refl), (I32 ∷ [], refl, refl, refl, ([], (I32, refl), refl))))

block_drops_what_lies_below : IsTyped (constant (Block None drop drop)) → ⊥
block_drops_what_lies_below h = let e = h.2.0.1.1 in cc (e)

loop_drops_what_lies_below : IsTyped (constant (Loop None drop drop)) → ⊥
loop_drops_what_lies_below h = let e = h.2.0.1.1 in cc (e)

first_arm_drops_what_lies_below : IsTyped (constant (constant (If None drop End drop))) → ⊥
first_arm_drops_what_lies_below h = let e = h.2.2.2.1.1 in cc (e)

second_arm_drops_what_lies_below : IsTyped (constant (constant (If None End drop drop))) → ⊥
second_arm_drops_what_lies_below h = let e = h.2.2.3.1.1 in cc (e)

-- ---- rules, in the words of the relation

-- both operands of a select have one type
select_of_two_types : IsTyped (constant (Plain (instr.Const (val.I64 0)) (constant (Plain instr.Select drop)))) → ⊥
select_of_two_types h =
    let first = h.1 in
    let second = h.2.1 in
    let third = h.2.2.1 in
    let chosen = h.2.2.2.1 in
    cc (first.1, first.2, second.1, second.2, third.1, third.2, chosen.2)

select_of_one_type : IsTyped (constant (constant (constant (Plain instr.Select drop))))
select_of_one_type = (
  I32 ∷ [],
  ([], refl, refl),
  (
    I32 ∷ I32 ∷ [],
    (I32 ∷ [], refl, refl),
    (
      I32 ∷ I32 ∷ I32 ∷ [],
      (I32 ∷ I32 ∷ [], refl, refl),
      (I32 ∷ [], (I32, [], refl, refl), ([], (I32, refl), refl)),
    ),
  ),
)
