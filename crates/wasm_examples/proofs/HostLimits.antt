-- Functions of the host at their limits: requests and answers of 65,536 bytes, locals across a call, functions without a result, and
-- what a trap leaves.
use Rattle.std.specs.Prelude.{◌≡◌, ℕ, List, [], ◌∷◌, ◌++◌, Option, Some, None, codes, length, replicate, slice_get, refl}
use Rattle.std.proofs.Common.{arith}
use Rattle.wasm_types.specs.declared.types.ValType.TheVariants.{I32}
use Rattle.wasm_values.specs.declared.outcome.Val.{Val}
use Rattle.wasm_values.specs.declared.outcome.Val.TheVariants as val
use Rattle.wasm_values.specs.declared.outcome.Outcome.{Outcome}
use Rattle.wasm_values.specs.declared.outcome.Outcome.TheVariants.{Done}
use Rattle.wasm_types.specs.declared.instr.Instr.TheVariants as instr
use Rattle.wasm_types.specs.Tree.{Code, End, Plain, Call}
use Rattle.wasm_spec.specs.Execution.{exec}
use Rattle.wasm_spec.specs.Instances.{IsInstance}
use Rattle.wasm_spec.specs.Result.{CallResult, call_result}
use Rattle.wasm_examples.proofs.Modules.{bare}
use Rattle.wasm_examples.proofs.ImportExamples.{echo, i32, shows, sent, said, lengths}

-- ---- requests

length_of_65535_bytes : sent (replicate 65535 7) 0 [] 0 ≡ Some (Done (Some (val.I32 65535)), ([], 0))
unfolding exec
length_of_65535_bytes = refl

length_of_65536_bytes : sent (replicate 65536 7) 0 [] 0 ≡ Some (Done (Some (val.I32 65536)), ([], 0))
unfolding exec
length_of_65536_bytes = refl

read_of_65536_bytes : sent (replicate 65536 7) 1 (val.I32 0 ∷ val.I32 0 ∷ val.I32 65536 ∷ []) 0 ≡ Some (Done (Some (val.I32 65536)), ([], 0))
unfolding exec
read_of_65536_bytes = refl

read_from_the_last_byte : sent (replicate 65536 7) 1 (val.I32 0 ∷ val.I32 65535 ∷ val.I32 2 ∷ []) 0 ≡ Some (Done (Some (val.I32 1)), ([], 0))
unfolding exec
read_from_the_last_byte = refl

-- ---- answers

nothing_onto_a_full_answer : lengths (said [] (i32 0 (i32 65536 (Call 2 (Plain instr.Drop (i32 0 (i32 0 (Call 2 End)))))))) ≡ Some (Done (Some (val.I32 65536)), 65536)
unfolding exec
nothing_onto_a_full_answer = refl

-- an instance may have the longest answer
longest_answer_of_an_instance : IsInstance (bare [] [] []) 0 [] (record { memory = []; table = []; globals = []; answer = replicate 65536 0 })
longest_answer_of_an_instance = record {
  table_is = refl;
  globals_are = refl;
  size = 0;
  whole = refl;
  within = omega arith;
  answered = let zeros : List ℕ = replicate 65536 0 in let long : length zeros ≡ 65536 = refl in omega (arith, long);
}

-- a function that has no result answers what it wrote
written_without_a_result : shows (call_result (record echo {
  types = echo.types ++ record { params = []; results = [] } ∷ [];
  functions = record { type_index = 3; locals = []; body = i32 0 (i32 2 (Call 2 (Plain instr.Drop End))) } ∷ [];
  element_segments = [];
})
    (record { pages = 1; depth = 1; request = [] }) 3 [] 20) ≡ Some (Done None, (0 ∷ 0 ∷ [], 16))
unfolding exec
written_without_a_result = refl

-- ---- the caller's locals

abbrev local_behind : Code → Option (Outcome × (List ℕ × ℕ))
local_behind call = shows (call_result (record echo {
  functions = record { type_index = 0; locals = I32 ∷ []; body = i32 7 (Plain (instr.LocalSet 0) call) } ∷ [];
  element_segments = [];
})
    (record { pages = 1; depth = 1; request = codes "abc" }) 3 [] 20)

abbrev the_local : Code
the_local = Plain instr.Drop (Plain (instr.LocalGet 0) End)

local_behind_len : local_behind (Call 0 the_local) ≡ Some (Done (Some (val.I32 7)), ([], 15))
unfolding exec
local_behind_len = refl

local_behind_read : local_behind (i32 0 (i32 0 (i32 1 (Call 1 the_local)))) ≡ Some (Done (Some (val.I32 7)), ([], 12))
unfolding exec
local_behind_read = refl

local_behind_write : local_behind (i32 0 (i32 0 (Call 2 the_local))) ≡ Some (Done (Some (val.I32 7)), ([], 13))
unfolding exec
local_behind_write = refl

-- ---- what a trap leaves: a byte of the memory

abbrev byte_left : Option CallResult → Option ℕ
byte_left None = None
byte_left (Some r) = slice_get r.store.memory 5

abbrev left_behind : ℕ → List Val → Option ℕ
left_behind x arguments = byte_left (call_result (record echo {
  element_segments = [];
  data_segments = record { memory = 0; offset = i32 5 End; bytes = 9 ∷ [] } ∷ [];
})
    (record { pages = 1; depth = 1; request = codes "abc" }) x arguments 20)

read_that_traps_leaves_the_memory : left_behind 1 (val.I32 65535 ∷ val.I32 0 ∷ val.I32 2 ∷ []) ≡ Some 9
unfolding exec
read_that_traps_leaves_the_memory = refl

write_that_traps_leaves_the_memory : left_behind 2 (val.I32 65535 ∷ val.I32 2 ∷ []) ≡ Some 9
unfolding exec
write_that_traps_leaves_the_memory = refl
