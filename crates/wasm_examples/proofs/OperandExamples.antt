-- What instructions take and leave on the operands, seen by a difference behind them: 100 lies below, and 5 on it.
use Rattle.std.specs.Prelude.{◌≡◌, List, [], ◌∷◌, ◌++◌, Option, Some, None, true, refl}
use Rattle.wasm_types.specs.declared.types.ValType.TheVariants as type
use Rattle.wasm_values.specs.declared.outcome.Val.TheVariants.{I32}
use Rattle.wasm_values.specs.declared.outcome.Outcome.{Outcome}
use Rattle.wasm_values.specs.declared.outcome.Outcome.TheVariants.{Done}
use Rattle.wasm_types.specs.declared.instr.Width.TheVariants.{W32}
use Rattle.wasm_types.specs.declared.instr.PackSize.TheVariants.{Pack8}
use Rattle.wasm_types.specs.declared.instr.Instr.{Instr}
use Rattle.wasm_types.specs.declared.instr.Instr.TheVariants as instr
use Rattle.wasm_types.specs.Tree.{End, ModuleTree}
use Rattle.wasm_spec.specs.Execution.{exec}
use Rattle.wasm_spec.specs.Result.{CallResult, call_result}
use Rattle.wasm_examples.proofs.Modules.{straight, i32_const, i32_sub, i32_load, paged, constant_type}

abbrev outcome_of : Option CallResult → Option Outcome
outcome_of None = None
outcome_of (Some r) = Some r.outcome

abbrev around : List Instr → ModuleTree
around is = record (paged (constant_type ∷ [])
    (record { type_index = 0; locals = type.I32 ∷ []; body = straight (i32_const 100 ∷ i32_const 5 ∷ is ++ i32_sub ∷ []) End } ∷ []) []) {
      globals = record { global_type = record { value = type.I32; mutable = true }; init = straight (i32_const 7 ∷ []) End } ∷ [];
    }

abbrev difference : List Instr → Option Outcome
difference is = outcome_of (call_result (around is) (record { pages = 2; depth = 1; request = [] }) 0 [] 100)

abbrev gives_95 : Option Outcome
gives_95 = Some (Done (Some (I32 95)))

nothing_between : difference [] ≡ gives_95
unfolding exec
nothing_between = refl

local_set : difference (instr.LocalSet 0 ∷ instr.LocalGet 0 ∷ []) ≡ gives_95
unfolding exec
local_set = refl

local_tee : difference (instr.LocalTee 0 ∷ []) ≡ gives_95
unfolding exec
local_tee = refl

global_set : difference (instr.GlobalSet 0 ∷ instr.GlobalGet 0 ∷ []) ≡ gives_95
unfolding exec
global_set = refl

drop : difference (i32_const 9 ∷ instr.Drop ∷ []) ≡ gives_95
unfolding exec
drop = refl

select : difference (i32_const 9 ∷ i32_const 1 ∷ instr.Select ∷ []) ≡ gives_95
unfolding exec
select = refl

branch_if : difference (i32_const 0 ∷ instr.BrIf 0 ∷ []) ≡ gives_95
unfolding exec
branch_if = refl

store : difference (i32_const 0 ∷ i32_const 9 ∷ instr.Store W32 (record { align = 0; offset = 0 }) ∷ []) ≡ gives_95
unfolding exec
store = refl

packed_store : difference (i32_const 0 ∷ i32_const 9 ∷ instr.StorePacked W32 Pack8 (record { align = 0; offset = 0 }) ∷ []) ≡ gives_95
unfolding exec
packed_store = refl

load : difference (i32_const 8 ∷ i32_load 0 ∷ instr.Drop ∷ []) ≡ gives_95
unfolding exec
load = refl

growth : difference (i32_const 1 ∷ instr.MemoryGrow ∷ instr.Drop ∷ []) ≡ gives_95
unfolding exec
growth = refl

refused_growth : difference (i32_const 3 ∷ instr.MemoryGrow ∷ instr.Drop ∷ []) ≡ gives_95
unfolding exec
refused_growth = refl

test : difference (i32_const 8 ∷ instr.Eqz W32 ∷ instr.Drop ∷ []) ≡ gives_95
unfolding exec
test = refl
