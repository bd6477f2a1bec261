-- Calls of a module that imports the host's functions, computed.
use Rattle.std.specs.Prelude.{◌≡◌, ℕ, List, [], ◌∷◌, ◌++◌, Option, Some, None, codes, length, refl}
use Rattle.wasm_types.specs.declared.types.ValType.TheVariants.{I32}
use Rattle.wasm_values.specs.declared.outcome.Val.{Val}
use Rattle.wasm_values.specs.declared.outcome.Val.TheVariants as val
use Rattle.wasm_values.specs.declared.outcome.TrapKind.TheVariants as trap
use Rattle.wasm_values.specs.declared.outcome.Outcome.{Outcome}
use Rattle.wasm_values.specs.declared.outcome.Outcome.TheVariants.{Done, Trap, Fuel}
use Rattle.wasm_types.specs.declared.instr.Width.TheVariants.{W32}
use Rattle.wasm_types.specs.declared.instr.BinaryOp.TheVariants as binary
use Rattle.wasm_types.specs.declared.instr.Instr.TheVariants as instr
use Rattle.wasm_types.specs.declared.module.ImportDesc.TheVariants as item
use Rattle.wasm_types.specs.Tree.{Code, End, Plain, Call, CallIndirect, ModuleTree}
use Rattle.wasm_spec.specs.Execution.{exec, terms_of}
use Rattle.wasm_spec.specs.Result.{CallResult, answer_of, call_result}

abbrev pub i32 : ℕ → Code → Code
i32 n rest = Plain (instr.Const (val.I32 n)) rest

-- It imports `len`, `read` and `write`. Function 3 reads the whole request to address 0 and answers it; function 4 calls `len` by the table.
abbrev pub echo : ModuleTree
echo = record {
  types = record { params = []; results = I32 ∷ [] } ∷ record { params = I32 ∷ I32 ∷ I32 ∷ []; results = I32 ∷ [] } ∷ record { params = I32 ∷ I32 ∷ []; results = I32 ∷ [] } ∷ [];
  imports = record { module_name = codes "host"; item_name = codes "len"; desc = item.Func 0 } ∷ record { module_name = codes "host"; item_name = codes "read"; desc = item.Func 1 } ∷ record { module_name = codes "host"; item_name = codes "write"; desc = item.Func 2 } ∷ [];
  functions =
      record { type_index = 0; locals = []; body = i32 0 (i32 0 (i32 0 (Call 0 (Call 1 (Call 2 End))))) }
      ∷ record { type_index = 0; locals = []; body = i32 0 (CallIndirect 0 End) }
      ∷ [];
  tables = record { min = 1; max = None } ∷ [];
  memories = record { min = 1; max = None } ∷ [];
  globals = [];
  exports = [];
  start = None;
  element_segments = record { table = 0; offset = i32 0 End; functions = 0 ∷ [] } ∷ [];
  data_segments = [];
}

abbrev pub shows : Option CallResult → Option (Outcome × (List ℕ × ℕ))
shows None = None
shows (Some r) = Some (r.outcome, (answer_of r, r.fuel))

-- with at most one page and one call open
abbrev pub sent : List ℕ → ℕ → List Val → ℕ → Option (Outcome × (List ℕ × ℕ))
sent request x arguments fuel = shows (call_result echo (record { pages = 1; depth = 1; request = request }) x arguments fuel)

gives_i32 : ℕ → List ℕ → ℕ → Option (Outcome × (List ℕ × ℕ))
gives_i32 n answer left = Some (Done (Some (val.I32 n)), (answer, left))

echo-answers_the_request : sent (codes "abc") 3 [] 6 ≡ Some (Done (Some (val.I32 3)), (codes "abc", 0))
unfolding exec
echo-answers_the_request = refl

echo-with_too_little : sent (codes "abc") 3 [] 5 ≡ Some (Fuel, ([], 0))
unfolding exec
echo-with_too_little = refl

echo-of_nothing : sent [] 3 [] 6 ≡ Some (Done (Some (val.I32 0)), ([], 0))
unfolding exec
echo-of_nothing = refl

-- from outside an import costs nothing
len-from_outside : sent (codes "abc") 0 [] 0 ≡ Some (Done (Some (val.I32 3)), ([], 0))
unfolding exec
len-from_outside = refl

read-past_the_end : sent (codes "abc") 1 (val.I32 0 ∷ val.I32 4 ∷ val.I32 9 ∷ []) 2 ≡ Some (Done (Some (val.I32 0)), ([], 2))
unfolding exec
read-past_the_end = refl

-- the whole of what is asked for must lie in the memory, not only what there is
read-reaches_past_the_memory : sent (codes "abc") 1 (val.I32 65535 ∷ val.I32 2 ∷ val.I32 2 ∷ []) 2 ≡ Some (Trap trap.Memory, ([], 2))
unfolding exec
read-reaches_past_the_memory = refl

write-at_the_end : sent [] 2 (val.I32 65536 ∷ val.I32 0 ∷ []) 0 ≡ Some (Done (Some (val.I32 0)), ([], 0))
unfolding exec
write-at_the_end = refl

write-past_the_end : sent [] 2 (val.I32 65536 ∷ val.I32 1 ∷ []) 0 ≡ Some (Trap trap.Memory, ([], 0))
unfolding exec
write-past_the_end = refl

-- an import of the table at the greatest depth: it opens no call
import_of_the_table : sent (codes "abc") 4 [] 2 ≡ Some (Done (Some (val.I32 3)), ([], 0))
unfolding exec
import_of_the_table = refl

-- ---- parts of a request, and answers of more than one write

-- what a function of this body gives beside the three imports, on 20 units of fuel
abbrev pub said : List ℕ → Code → Option (Outcome × (List ℕ × ℕ))
said request body = shows (call_result (record echo { functions = record { type_index = 0; locals = []; body = body } ∷ []; element_segments = [] })
    (record { pages = 1; depth = 1; request = request }) 3 [] 20)

-- how it ends, and how many bytes are answered
abbrev pub lengths : Option (Outcome × (List ℕ × ℕ)) → Option (Outcome × ℕ)
lengths None = None
lengths (Some r) = Some (r.0, length r.1.0)

part_from_a_place : said (codes "abc") (i32 0 (i32 1 (i32 5 (Call 1 (Plain instr.Drop (i32 0 (i32 2 (Call 2 End)))))))) ≡ Some (Done (Some (val.I32 2)), (codes "bc", 12))
unfolding exec
part_from_a_place = refl

-- as many bytes as are asked for, to their address, and the bytes beside them stay
part_of_one_byte : said (codes "abc") (i32 0 (i32 1 (i32 1 (Call 1 (Plain instr.Drop (i32 0 (i32 2 (Call 2 End)))))))) ≡ Some (Done (Some (val.I32 2)), (98 ∷ 0 ∷ [], 12))
unfolding exec
part_of_one_byte = refl

part_to_an_address : said (codes "abc") (i32 7 (i32 0 (i32 3 (Call 1 (Plain instr.Drop (i32 6 (i32 5 (Call 2 End)))))))) ≡ Some (Done (Some (val.I32 5)), (0 ∷ 97 ∷ 98 ∷ 99 ∷ 0 ∷ [], 12))
unfolding exec
part_to_an_address = refl

part_to_the_end : said (codes "abc") (i32 65534 (i32 0 (i32 2 (Call 1 (Plain instr.Drop (i32 65534 (i32 2 (Call 2 End)))))))) ≡ Some (Done (Some (val.I32 2)), (codes "ab", 12))
unfolding exec
part_to_the_end = refl

two_writes : said [] (i32 0 (i32 1 (Call 2 (Plain instr.Drop (i32 0 (i32 2 (Call 2 End))))))) ≡ Some (Done (Some (val.I32 3)), (0 ∷ 0 ∷ 0 ∷ [], 13))
unfolding exec
two_writes = refl

nothing_of_a_trap : said [] (i32 0 (i32 1 (Call 2 (Plain instr.Unreachable End)))) ≡ Some (Trap trap.Unreachable, ([], 16))
unfolding exec
nothing_of_a_trap = refl

longest_answer : lengths (said [] (i32 0 (i32 65536 (Call 2 End)))) ≡ Some (Done (Some (val.I32 65536)), 65536)
unfolding exec
longest_answer = refl

full_answer_gives_minus_1 : lengths (said [] (i32 0 (i32 65536 (Call 2 (Plain instr.Drop (i32 0 (i32 1 (Call 2 End)))))))) ≡ Some (Done (Some (val.I32 4294967295)), 65536)
unfolding exec
full_answer_gives_minus_1 = refl

-- of two bytes of which one would fit none is appended, and then the one is
refused_write_appends_nothing : lengths (said [] (i32 0 (i32 65535 (Call 2 (Plain instr.Drop (i32 0 (i32 2 (Call 2 (Plain instr.Drop (i32 0 (i32 1 (Call 2 End)))))))))))) ≡ Some (Done (Some (val.I32 65536)), 65536)
unfolding exec
refused_write_appends_nothing = refl

-- what neither lies in the memory nor fits the answer traps
trap_before_a_full_answer : said [] (i32 0 (i32 65536 (Call 2 (Plain instr.Drop (i32 65536 (i32 1 (Call 2 End))))))) ≡ Some (Trap trap.Memory, ([], 13))
unfolding exec
trap_before_a_full_answer = refl

-- what the start function appends comes before what the function does, also where that is an import
abbrev started : ℕ → List Val → Option (Outcome × (List ℕ × ℕ))
started x arguments = shows (call_result (record echo {
  types = echo.types ++ record { params = []; results = [] } ∷ [];
  functions =
      record { type_index = 3; locals = []; body = i32 65535 (i32 1 (Call 2 (Plain instr.Drop End))) }
      ∷ record { type_index = 0; locals = []; body = i32 0 (i32 2 (Call 2 End)) }
      ∷ [];
  start = Some 3;
  element_segments = [];
  data_segments = record { memory = 0; offset = i32 65535 End; bytes = 7 ∷ [] } ∷ [];
})
    (record { pages = 1; depth = 1; request = [] }) x arguments 20)

start_function_appends_first : started 4 [] ≡ Some (Done (Some (val.I32 3)), (7 ∷ 0 ∷ 0 ∷ [], 13))
unfolding exec
start_function_appends_first = refl

import_behind_a_start_function : started 2 (val.I32 0 ∷ val.I32 2 ∷ []) ≡ Some (Done (Some (val.I32 3)), (7 ∷ 0 ∷ 0 ∷ [], 16))
unfolding exec
import_behind_a_start_function = refl

trap_behind_a_start_function : started 2 (val.I32 0 ∷ val.I32 65537 ∷ []) ≡ Some (Trap trap.Memory, ([], 16))
unfolding exec
trap_behind_a_start_function = refl

-- nor does one that ends for want of fuel answer anything
nothing_for_want_of_fuel : shows (call_result (record echo { functions = record { type_index = 0; locals = []; body = i32 0 (i32 1 (Call 2 (Plain instr.Nop End))) } ∷ [] })
    (record { pages = 1; depth = 1; request = [] }) 3 [] 3) ≡ Some (Fuel, ([], 0))
unfolding exec
nothing_for_want_of_fuel = refl

-- one function of the host under two numbers
imported_twice : shows (call_result (record echo {
  imports = record { module_name = codes "host"; item_name = codes "write"; desc = item.Func 2 } ∷ record { module_name = codes "host"; item_name = codes "write"; desc = item.Func 2 } ∷ [];
  functions = record { type_index = 0; locals = []; body = i32 0 (i32 1 (Call 0 (Plain instr.Drop (i32 0 (i32 2 (Call 1 End)))))) } ∷ [];
})
    (record { pages = 1; depth = 1; request = [] }) 2 [] 20) ≡ Some (Done (Some (val.I32 3)), (0 ∷ 0 ∷ 0 ∷ [], 13))
unfolding exec
imported_twice = refl

-- ---- addresses and lengths are unsigned, and their sum does not wrap

read-none_at_the_end : sent (codes "abc") 1 (val.I32 65536 ∷ val.I32 0 ∷ val.I32 0 ∷ []) 0 ≡ Some (Done (Some (val.I32 0)), ([], 0))
unfolding exec
read-none_at_the_end = refl

read-none_past_the_end : sent (codes "abc") 1 (val.I32 65537 ∷ val.I32 0 ∷ val.I32 0 ∷ []) 0 ≡ Some (Trap trap.Memory, ([], 0))
unfolding exec
read-none_past_the_end = refl

read-to_the_greatest_address : sent (codes "abc") 1 (val.I32 4294967295 ∷ val.I32 0 ∷ val.I32 1 ∷ []) 0 ≡ Some (Trap trap.Memory, ([], 0))
unfolding exec
read-to_the_greatest_address = refl

read-from_the_greatest_place : sent (codes "abc") 1 (val.I32 0 ∷ val.I32 4294967295 ∷ val.I32 1 ∷ []) 0 ≡ Some (Done (Some (val.I32 0)), ([], 0))
unfolding exec
read-from_the_greatest_place = refl

write-of_the_greatest_length : sent [] 2 (val.I32 1 ∷ val.I32 4294967295 ∷ []) 0 ≡ Some (Trap trap.Memory, ([], 0))
unfolding exec
write-of_the_greatest_length = refl

-- a module without a memory has none of any length
abbrev without_memory : ℕ → List Val → Option (Outcome × (List ℕ × ℕ))
without_memory x arguments = shows (call_result (record echo { memories = [] }) (record { pages = 1; depth = 1; request = codes "abc" }) x arguments 0)

read-none_without_a_memory : without_memory 1 (val.I32 0 ∷ val.I32 0 ∷ val.I32 0 ∷ []) ≡ Some (Done (Some (val.I32 0)), ([], 0))
unfolding exec
read-none_without_a_memory = refl

read-without_a_memory : without_memory 1 (val.I32 0 ∷ val.I32 9 ∷ val.I32 1 ∷ []) ≡ Some (Trap trap.Memory, ([], 0))
unfolding exec
read-without_a_memory = refl

write-none_without_a_memory : without_memory 2 (val.I32 0 ∷ val.I32 0 ∷ []) ≡ Some (Done (Some (val.I32 0)), ([], 0))
unfolding exec
write-none_without_a_memory = refl

write-without_a_memory : without_memory 2 (val.I32 0 ∷ val.I32 1 ∷ []) ≡ Some (Trap trap.Memory, ([], 0))
unfolding exec
write-without_a_memory = refl

-- ---- operands: what lies below them stays

abbrev less : Code
less = Plain (instr.Binary W32 binary.Sub) End

len-above_others : said [] (i32 100 (i32 5 (Call 0 (Plain instr.Drop less)))) ≡ Some (Done (Some (val.I32 95)), ([], 15))
unfolding exec
len-above_others = refl

read-above_others : said [] (i32 100 (i32 5 (i32 0 (i32 0 (i32 0 (Call 1 (Plain instr.Drop less))))))) ≡ Some (Done (Some (val.I32 95)), ([], 12))
unfolding exec
read-above_others = refl

write-above_others : said [] (i32 100 (i32 5 (i32 0 (i32 0 (Call 2 (Plain instr.Drop less)))))) ≡ Some (Done (Some (val.I32 95)), ([], 13))
unfolding exec
write-above_others = refl

refused_write-above_others : lengths (said [] (i32 0 (i32 65536 (Call 2 (i32 5 (i32 0 (i32 1 (Call 2 (Plain instr.Drop less))))))))) ≡ Some (Done (Some (val.I32 65531)), 65536)
unfolding exec
refused_write-above_others = refl

-- ---- runs that are stuck, as none of a valid module that is run is

read-of_two : sent [] 1 (val.I32 0 ∷ val.I32 0 ∷ []) 0 ≡ None
unfolding exec
read-of_two = refl

read-to_64_bits : sent [] 1 (val.I64 0 ∷ val.I32 0 ∷ val.I32 0 ∷ []) 0 ≡ None
unfolding exec
read-to_64_bits = refl

read-from_64_bits : sent [] 1 (val.I32 0 ∷ val.I64 0 ∷ val.I32 0 ∷ []) 0 ≡ None
unfolding exec
read-from_64_bits = refl

read-of_64_bits : sent [] 1 (val.I32 0 ∷ val.I32 0 ∷ val.I64 0 ∷ []) 0 ≡ None
unfolding exec
read-of_64_bits = refl

write-of_one : sent [] 2 (val.I32 0 ∷ []) 0 ≡ None
unfolding exec
write-of_one = refl

write-from_64_bits : sent [] 2 (val.I64 0 ∷ val.I32 0 ∷ []) 0 ≡ None
unfolding exec
write-from_64_bits = refl

write-of_64_bits : sent [] 2 (val.I32 0 ∷ val.I64 0 ∷ []) 0 ≡ None
unfolding exec
write-of_64_bits = refl

import_of_no_host : call_result (record echo { imports = record { module_name = codes "env"; item_name = codes "len"; desc = item.Func 0 } ∷ [] }) (record { pages = 1; depth = 1; request = [] }) 0 [] 0 ≡ None
unfolding exec
import_of_no_host = refl

-- ---- an import of the table that has another type

abbrev said_by_the_table : Code → Option (Outcome × (List ℕ × ℕ))
said_by_the_table body = shows (call_result (record echo { functions = record { type_index = 0; locals = []; body = body } ∷ [] }) (record { pages = 1; depth = 1; request = [] }) 3 [] 20)

len-as_read : said_by_the_table (i32 0 (i32 0 (i32 0 (i32 0 (CallIndirect 1 End))))) ≡ Some (Trap trap.Signature, ([], 15))
unfolding exec
len-as_read = refl

-- ---- what a run is given

given_terms : terms_of (record { pages = 3; depth = 4 }) (codes "abc") ≡ record { pages = 3; depth = 4; request = codes "abc" }
given_terms = refl
