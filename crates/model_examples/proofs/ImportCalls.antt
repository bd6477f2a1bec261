-- Calls of a module that imports: a function of the host which is exported may end without a turn, and then the end is what changes its
-- slots. What a call appends to its answer lies in no slot.
use Rattle.std.proofs.Common.{◌≡◌, ℕ, zero, suc, Bool, true, false, List, [], ◌∷◌, refl, sym, subst, arith}
use Rattle.std.specs.Prelude.{Option, Some, None, codes, replicate, take}
use Rattle.wasm_types.specs.declared.types.ValType.TheVariants as type
use Rattle.wasm_values.specs.declared.outcome.Val.{Val}
use Rattle.wasm_values.specs.declared.outcome.Val.TheVariants.{I32}
use Rattle.wasm_values.specs.declared.outcome.TrapKind.TheVariants as trap
use Rattle.wasm_values.specs.declared.outcome.Outcome.TheVariants as outcome
use Rattle.wasm_types.specs.declared.instr.Instr.{Instr}
use Rattle.wasm_types.specs.declared.instr.Instr.TheVariants as instr
use Rattle.wasm_types.specs.declared.module.ImportDesc.TheVariants as item
use Rattle.wasm_types.specs.Tree.{End, Plain, Call, FunctionTree, ModuleTree}
use Rattle.wasm_spec.specs.Store.{fresh_store}
use Rattle.wasm_spec.specs.Execution.{exec}
use Rattle.pool_core.specs.declared.events.Event.TheVariants.{Claim, Out}
use Rattle.pool_model.specs.Contents.{Contents, filled}
use Rattle.pool_model.specs.declared.kinds.Kind.{Kind}
use Rattle.pool_model.specs.declared.kinds.Kind.TheVariants.{Instance, Memory, Table}
use Rattle.pool_model.specs.PoolMachine.{World, Request, Running, Machine, WorldEvent, Step, Begin, Turn, End as Ends, caller_contents, answer, after, after_all, AllMayHappen, CanTurn, MayHappen, MarksStore, last_store}
use Rattle.pool_model.specs.FreshMachine.{FreshCall, fresh_answer, fresh_after_all, fresh_store_after, fresh_store_on, nothing_runs}
use Rattle.pool_model.specs.Runs.{AreItsTurns}
use Rattle.pool_model.specs.Worlds.{Shadows, answers, in_slots}
use Rattle.pool_model.proofs.Bytes.{filled-past}
use Rattle.model_examples.proofs.FreshCalls.{limits, set_module}
use Rattle.model_examples.proofs.ShortCalls.{opened, world_of}
use Rattle.model_examples.proofs.Scenes.{beyond_four, done, same_call}

-- writes the two bytes at address 0, and goes on
abbrev writing : Instr → FunctionTree
writing next = record { type_index = 0; locals = []; body = Plain (instr.Const (I32 0)) (Plain (instr.Const (I32 2)) (Call 1 (Plain next End))) }

-- It imports `read` and `write`; its own functions write two bytes, and then the last one traps. The bytes are in its memory.
abbrev pub hosted : ModuleTree
hosted = record set_module {
  types = record { params = []; results = [] } ∷ record { params = type.I32 ∷ type.I32 ∷ type.I32 ∷ []; results = type.I32 ∷ [] } ∷ record { params = type.I32 ∷ type.I32 ∷ []; results = type.I32 ∷ [] } ∷ [];
  imports = record { module_name = codes "host"; item_name = codes "read"; desc = item.Func 1 } ∷ record { module_name = codes "host"; item_name = codes "write"; desc = item.Func 2 } ∷ [];
  functions = writing instr.Drop ∷ writing instr.Unreachable ∷ [];
  memories = record { min = 1; max = None } ∷ [];
  data_segments = record { memory = 0; offset = Plain (instr.Const (I32 0)) End; bytes = codes "ab" } ∷ [];
}

abbrev world : World
world = world_of hosted

abbrev request_of : ℕ → List Val → List ℕ → ℕ → Request
request_of x arguments sent fuel = record { named = world.shelf 0; function = x; arguments = arguments; sent = sent; fuel = fuel }

-- a byte of the request to address 0
abbrev reads : Request
reads = request_of 0 (I32 0 ∷ I32 0 ∷ I32 1 ∷ []) (7 ∷ []) 3

abbrev writes : Request
writes = request_of 1 (I32 0 ∷ I32 2 ∷ []) [] 3

abbrev writes_itself : Request
writes_itself = request_of 2 [] [] 4

abbrev begun_by : Request → Machine
begun_by q = after_all world opened (Step Instance (Claim 0 0) ∷ Step Instance (Out 0 0) ∷ Step Memory (Claim 0 0) ∷ Step Memory (Out 0 0) ∷ Begin 0 q ∷ [])

abbrev running : Request → ℕ → Running
running q turns = record { request = q; begun = fresh_store hosted; turns = turns }

it_runs : (begun_by reads).calls 0 ≡ Some (running reads 0)
it_runs = refl

-- ---- a read is called from outside

no_turn_of_an_import : CanTurn world (running reads 0) → ⊥
unfolding exec
no_turn_of_an_import can = done _ can.unfinished

abbrev zeros : List ℕ
zeros = replicate 65532 0

read_may_end : MayHappen world (begun_by reads) (Ends 0 (true ∷ []))
unfolding exec
read_may_end = (_, refl, no_turn_of_an_import, λ h. record { bytes = beyond_four 7 98 0 0 97 98 0 0 zeros; marks = λ i m. refl })

read_needs_its_mark : MarksStore world (begun_by reads) 0 (running reads 0) (last_store world (running reads 0)) (false ∷ []) → ⊥
unfolding exec
read_needs_its_mark marks = let seven : 7 ≡ 97 = (marks refl).bytes 0 refl in omega (arith, seven)

abbrev read_ended : Machine
read_ended = after world (begun_by reads) (Ends 0 (true ∷ []))

what_it_read_is_there : take 3 (read_ended.contents Memory 0).bytes ≡ 7 ∷ 98 ∷ 0 ∷ []
unfolding exec
what_it_read_is_there = refl

with_its_mark : (read_ended.contents Memory 0).marks ≡ true ∷ []
with_its_mark = refl

and_in_no_other_slot : (read_ended.contents Memory 1).pages ≡ 0
and_in_no_other_slot = refl

it_ended : read_ended.calls 0 ≡ None
it_ended = refl

abbrev left : List Bool → (k : Kind) → Contents k
left marks Instance = I32 1 ∷ []
left marks Memory = record { bytes = filled 1 (7 ∷ 98 ∷ 0 ∷ 0 ∷ zeros); pages = 1; marks = marks; holds = Some (world.shelf 0) }
left marks Table = record { entries = []; holds = None }

left_there : (k : Kind) → caller_contents world read_ended 0 k ≡ left (true ∷ []) k
unfolding exec
left_there Instance = refl
left_there Memory = refl
left_there Table = refl

-- what a host does for it is no turn, and this end
no_turns : AreItsTurns world (begun_by reads) 0 (running reads 0) (left (true ∷ [])) (true ∷ [])
no_turns = record { count = 0; happen = tt; ends = read_may_end; contents = λ k needed. left_there k }

-- an end that marks nothing comes after no number of turns
no_end_without_its_mark : MayHappen world (begun_by reads) (Ends 0 (false ∷ [])) → ⊥
no_end_without_its_mark (r, calls, stuck, marks) =
    read_needs_its_mark (subst (λ (x : Running). MarksStore world (begun_by reads) 0 x (last_store world x) (false ∷ [])) (sym (same_call calls)) marks)

no_turn_may_come : MayHappen world (begun_by reads) (Turn 0 (false ∷ [])) → ⊥
no_turn_may_come (r, calls, can, marks) = no_turn_of_an_import (subst (λ (x : Running). CanTurn world x) (sym (same_call calls)) can)

abbrev turns : ℕ → List WorldEvent
turns n = replicate n (Turn 0 (false ∷ []))

after_no_turns : (n : ℕ) → AllMayHappen world (begun_by reads) (turns n) → MayHappen world (after_all world (begun_by reads) (turns n)) (Ends 0 (false ∷ [])) → ⊥
after_no_turns zero happen ends = no_end_without_its_mark ends
after_no_turns (suc n) happen ends = no_turn_may_come happen.0

no_turns_without_its_mark : AreItsTurns world (begun_by reads) 0 (running reads 0) (left (false ∷ [])) (false ∷ []) → ⊥
no_turns_without_its_mark are = after_no_turns are.count are.happen are.ends

-- ---- answers

told_of_a_read : answers world (begun_by reads) (Ends 0 (true ∷ []) ∷ []) 0 ≡ (reads, Some (outcome.Done (Some (I32 1)), [])) ∷ []
unfolding exec
told_of_a_read = refl

told_of_a_write : answers world (begun_by writes) (Ends 0 (false ∷ []) ∷ []) 0 ≡ (writes, Some (outcome.Done (Some (I32 2)), codes "ab")) ∷ []
unfolding exec
told_of_a_write = refl

told_of_a_trap : answer world (running (request_of 3 [] [] 9) 0) ≡ Some (outcome.Trap trap.Unreachable, [])
unfolding exec
told_of_a_trap = refl

-- ---- calls of imports on a fresh instance

-- before its first turn it is as it began, and its end is not seen
fresh_before_a_turn : take 2 (fresh_store_after limits reads 0).memory ≡ codes "ab"
unfolding exec
fresh_before_a_turn = refl

fresh_on_no_fuel : take 2 (fresh_store_on limits reads 0).memory ≡ 7 ∷ 98 ∷ []
unfolding exec
fresh_on_no_fuel = refl

fresh_read : fresh_answer limits reads ≡ Some (outcome.Done (Some (I32 1)), [])
unfolding exec
fresh_read = refl

fresh_write : fresh_answer limits writes ≡ Some (outcome.Done (Some (I32 2)), codes "ab")
unfolding exec
fresh_write = refl

-- ---- an own function that has written, after three turns

abbrev three_turns : List WorldEvent
three_turns = Turn 0 (false ∷ []) ∷ Turn 0 (false ∷ []) ∷ Turn 0 (false ∷ []) ∷ []

abbrev fresh_written : FreshCall
fresh_written = record { request = writes_itself; store = record (fresh_store hosted) { answer = codes "ab" }; turns = 3 }

fresh_has_its_answer : fresh_after_all limits nothing_runs (Begin 0 writes_itself ∷ three_turns) 0 ≡ Some fresh_written
unfolding exec
fresh_has_its_answer = refl

-- its slots show the rest of that store
abbrev has_written : Machine
has_written = after_all world (begun_by writes_itself) three_turns

shown_but_for_its_answer : Shadows world has_written 0 (running writes_itself 3) fresh_written
unfolding exec
shown_but_for_its_answer = record {
  request = refl;
  turns = refl;
  store = refl;
  past = λ h i le. filled-past 1 (fresh_store hosted).memory i le;
  answer = refl;
}

in_slots_is_all_but_the_answer : in_slots (record { memory = 1 ∷ []; table = Some 2 ∷ []; globals = I32 3 ∷ []; answer = 4 ∷ [] }) ≡ record { memory = 1 ∷ []; table = Some 2 ∷ []; globals = I32 3 ∷ []; answer = [] }
in_slots_is_all_but_the_answer = refl
