-- Two callers call a module that has one global and no memory: what each event makes of the machine, which may not come, and the answers.
use Rattle.std.proofs.Common.{◌+◌, ◌≡◌, ℕ, true, true≢false, List, [], ◌∷◌, ◌++◌, refl, sym, ap, subst, arith}
use Rattle.std.specs.Prelude.{Option, Some, None}
use Rattle.wasm_values.specs.declared.outcome.Val.TheVariants.{I32}
use Rattle.wasm_values.specs.declared.outcome.Outcome.{Outcome}
use Rattle.wasm_values.specs.declared.outcome.Outcome.TheVariants as outcome
use Rattle.wasm_types.specs.declared.types.FuncType.{FuncType}
use Rattle.wasm_types.specs.Tree.{ModuleTree}
use Rattle.wasm_spec.specs.Execution.{exec}
use Rattle.wasm_spec.specs.Typing.{type_or_empty}
use Rattle.pool_core.specs.declared.words.State.TheVariants.{Warm}
use Rattle.pool_core.specs.declared.events.Event.TheVariants.{Claim, Home, Load, Out, Release, Split, Stamp, WarmLoad}
use Rattle.pool_core.specs.PoolCore.{opening_core}
use Rattle.pool_core.specs.RefusalRules.{refusal_of}
use Rattle.pool_model.specs.Contents.{Named, TableContents, Contents, memory_image}
use Rattle.pool_model.specs.declared.kinds.Kind.{Kind}
use Rattle.pool_model.specs.declared.kinds.Kind.TheVariants.{Instance, Memory, Table}
use Rattle.pool_model.specs.PoolMachine.{World, Request, Running, Machine, WorldEvent, Step, Prepare, Restore, Clear, Begin, Turn, End, Cancel, after, after_all, IsCallable, CanTurn, MayHappen, MarksStore, store_after}
use Rattle.pool_model.specs.Fitting.{ReleaseFits}
use Rattle.pool_model.specs.Histories.{steps_of}
use Rattle.pool_model.specs.Worlds.{IsSameRequest, answers}
use Rattle.model_examples.proofs.NoCode.{no_code}
use Rattle.model_examples.proofs.FreshCalls.{limits, set_module}
use Rattle.model_examples.proofs.Scenes.{call_is_there, done, same_call}

abbrev pub numbered : ℕ → Named
numbered n = record { number = n; tag = n; tree = set_module; code = no_code }

abbrev pub world : World
world = record { limits = limits; shelf = numbered; seats = λ k i. i; apart = λ k i j e. e }

-- the call on this fuel, of which it needs two
abbrev pub request_of : ℕ → ℕ → Request
request_of n fuel = record { named = numbered n; function = 0; arguments = []; sent = []; fuel = fuel }

abbrev pub no_table : TableContents
no_table = record { entries = []; holds = None }

abbrev cold : (k : Kind) → Contents k
cold Instance = I32 7 ∷ []
cold Memory = record { bytes = memory_image 1 None; pages = 0; marks = []; holds = None }
cold Table = no_table

abbrev pub opened : Machine
opened = record { core = λ k. opening_core 2 0 2; contents = λ k n. cold k; calls = λ i. None }

-- caller i has the ticket i out
abbrev takes : List WorldEvent
takes = Step Instance (Split 0 1) ∷ Step Instance (Claim 0 0) ∷ Step Instance (Out 0 0) ∷ Step Instance (Claim 1 1) ∷ Step Instance (Out 1 1) ∷ []

abbrev pub taken : Machine
taken = after_all world opened takes

abbrev begins : List WorldEvent
begins = Begin 0 (request_of 0 2) ∷ Begin 1 (request_of 1 1) ∷ []

abbrev pub begun : Machine
begun = after_all world taken begins

abbrev pub running : ℕ → ℕ → ℕ → Running
running n fuel turns = record { request = request_of n fuel; begun = record { memory = []; table = []; globals = I32 1 ∷ []; answer = [] }; turns = turns }

-- ---- what each event changes

begins_with_the_fresh_globals : begun.contents Instance 0 ≡ I32 1 ∷ []
begins_with_the_fresh_globals = refl

the_call_of_the_first : begun.calls 0 ≡ Some (running 0 2 0)
the_call_of_the_first = refl

the_call_of_the_second : begun.calls 1 ≡ Some (running 1 1 0)
the_call_of_the_second = refl

nobody_else_calls : begun.calls 2 ≡ None
nobody_else_calls = refl

abbrev pub turned_twice : Machine
turned_twice = after_all world begun (Turn 0 [] ∷ Turn 0 [] ∷ [])

two_turns_of_the_first : turned_twice.calls 0 ≡ Some (running 0 2 2)
two_turns_of_the_first = refl

two_turns_set_its_global : turned_twice.contents Instance 0 ≡ I32 5 ∷ []
unfolding exec
two_turns_set_its_global = refl

and_not_the_others : turned_twice.contents Instance 1 ≡ I32 1 ∷ []
and_not_the_others = refl

one_turn_does_not : (after world begun (Turn 0 [])).contents Instance 0 ≡ I32 1 ∷ []
unfolding exec
one_turn_does_not = refl

an_end : (after world turned_twice (End 0 [])).calls 0 ≡ None
an_end = refl

and_keeps_its_global : (after world turned_twice (End 0 [])).contents Instance 0 ≡ I32 5 ∷ []
unfolding exec
and_keeps_its_global = refl

the_others_call_goes_on : (after world turned_twice (End 0 [])).calls 1 ≡ Some (running 1 1 0)
the_others_call_goes_on = refl

-- a call that is given up runs no more, and leaves what its turns left
given_up : (after world turned_twice (Cancel 0)).calls 0 ≡ None
given_up = refl

its_global_stays : (after world turned_twice (Cancel 0)).contents Instance 0 ≡ I32 5 ∷ []
unfolding exec
its_global_stays = refl

-- a machine in whose table 0 another module's element stands, and in whose memory 0 a byte of the first
abbrev pub used : Machine
used = record opened {
  contents = elim [
    | Instance ↦ λ n. I32 7 ∷ []
    | Memory ↦ λ n. record { bytes = 9 ∷ []; pages = 3; marks = true ∷ []; holds = Some (numbered 0) }
    | Table ↦ λ n. record { entries = Some 3 ∷ []; holds = Some (numbered 1) }
  ];
}

prepared_table : (after world used (Prepare Table 0 (numbered 0))).contents Table 0 ≡ record { entries = []; holds = Some (numbered 0) }
prepared_table = refl

the_slot_beside_it : (after world used (Prepare Table 0 (numbered 0))).contents Table 1 ≡ record { entries = Some 3 ∷ []; holds = Some (numbered 1) }
the_slot_beside_it = refl

restored_memory : ((after world used (Restore Memory 0)).contents Memory 0).bytes ≡ 0 ∷ []
restored_memory = refl

cleared_table : (after world used (Clear Table 0 no_table)).contents Table 0 ≡ no_table
cleared_table = refl

-- ---- answers

abbrev all_events : List WorldEvent
all_events = takes ++ begins ++ Turn 0 [] ∷ Turn 1 [] ∷ Turn 0 [] ∷ End 0 [] ∷ End 1 [] ∷ Begin 0 (request_of 0 1) ∷ Turn 0 [] ∷ End 0 [] ∷ []

-- each is answered its own calls, in their order
first_answers : answers world opened all_events 0 ≡ (request_of 0 2, Some (outcome.Done None, [])) ∷ (request_of 0 1, Some (outcome.Fuel, [])) ∷ []
unfolding exec
first_answers = refl

second_answers : answers world opened all_events 1 ≡ (request_of 1 1, Some (outcome.Fuel, [])) ∷ []
unfolding exec
second_answers = refl

-- a call that is given up is answered nothing
given_up_answers : answers world begun (Turn 0 [] ∷ Cancel 0 ∷ Begin 0 (request_of 0 1) ∷ Turn 0 [] ∷ End 0 [] ∷ []) 0 ≡ (request_of 0 1, Some (outcome.Fuel, [])) ∷ []
unfolding exec
given_up_answers = refl

same_request : IsSameRequest (request_of 0 2) (request_of 1 2)
same_request = record { tree = refl; function = refl; arguments = refl; sent = refl; fuel = refl }

two : ◌≡◌ {A = ℕ} 2 1 → ⊥
two e = omega arith

other_fuel_is_another_request : IsSameRequest (request_of 0 2) (request_of 0 1) → ⊥
other_fuel_is_another_request s = two s.fuel

other_function_is_another_request : IsSameRequest (record (request_of 0 2) { function = 2 }) (record (request_of 0 2) { function = 1 }) → ⊥
other_function_is_another_request s = two s.function

other_arguments_are_another_request : IsSameRequest (record (request_of 0 2) { arguments = I32 1 ∷ [] }) (request_of 0 2) → ⊥
other_arguments_are_another_request s = let e = s.arguments in cc (e)

other_bytes_are_another_request : IsSameRequest (record (request_of 0 2) { sent = 1 ∷ [] }) (request_of 0 2) → ⊥
other_bytes_are_another_request s = let e = s.sent in cc (e)

-- ---- histories

-- the steps of a kind, also those that only read, and none of the others
abbrev mixed : List WorldEvent
mixed = Step Instance (Load 0 0) ∷ Step Memory (Stamp 1) ∷ Prepare Instance 0 (numbered 0) ∷ Step Instance (Claim 0 0) ∷ Begin 0 (request_of 0 2) ∷ Turn 0 [] ∷ End 0 [] ∷ Step Instance (WarmLoad 0) ∷ []

history_of_tickets : steps_of Instance mixed ≡ Load 0 0 ∷ Claim 0 0 ∷ WarmLoad 0 ∷ []
history_of_tickets = refl

history_of_memories : steps_of Memory mixed ≡ Stamp 1 ∷ []
history_of_memories = refl

history_of_tables : steps_of Table mixed ≡ []
history_of_tables = refl

-- ---- turns and ends

last_turn : CanTurn world (running 0 2 1)
unfolding exec
last_turn = record { fuel = omega arith; unfinished = refl }

no_turn_after_the_last : CanTurn world (running 0 9 2) → ⊥
unfolding exec
no_turn_after_the_last can = done None can.unfinished

no_turn_without_fuel : CanTurn world (running 0 1 1) → ⊥
no_turn_without_fuel can = let lt = can.fuel in omega (arith, lt)

abbrev pub running_alone : Running → Machine
running_alone r = record opened { calls = λ i. Some r }

end_with_fuel_left : MayHappen world (running_alone (running 0 9 2)) (End 0 [])
unfolding exec
end_with_fuel_left = (running 0 9 2, refl, (λ can. done None can.unfinished), λ h. absurd (true≢false (sym h)))

no_end_before_the_last_turn : MayHappen world (running_alone (running 0 2 1)) (End 0 []) → ⊥
unfolding exec
no_end_before_the_last_turn (r, calls, stuck, marks) = stuck (subst (λ (x : Running). CanTurn world x) (same_call calls) last_turn)

-- the same module with a memory of no pages, in which a byte of 1 is changed to 0
abbrev pub with_memory : Running
with_memory = record (running 0 2 0) { request = record (request_of 0 2) { named = record (numbered 0) { tree = record set_module { memories = record { min = 0; max = None } ∷ [] } } } }

abbrev pub of_one_byte : Machine
of_one_byte = record opened {
  contents = elim [
    | Instance ↦ λ n. I32 7 ∷ []
    | Memory ↦ λ n. record { bytes = 1 ∷ []; pages = 0; marks = []; holds = None }
    | Table ↦ λ n. no_table
  ];
}

no_unmarked_change : MarksStore world of_one_byte 0 with_memory (store_after world with_memory (with_memory.turns + 1)) [] → ⊥
unfolding exec
no_unmarked_change marks = let zero_is : 0 ≡ 1 = (marks refl).bytes 0 refl in omega (arith, zero_is)

-- ---- what may not come

-- while a call runs its caller's seats do nothing else, though the pool would allow the step
its_pool_allows_the_step : refusal_of (begun.core Instance) (Stamp 0) ≡ 0
its_pool_allows_the_step = refl

no_step_while_it_runs : MayHappen world begun (Step Instance (Stamp 0)) → ⊥
no_step_while_it_runs may = call_is_there (may.1 0 refl)

no_prepare_while_it_runs : MayHappen world begun (Prepare Instance 0 (numbered 0)) → ⊥
no_prepare_while_it_runs may = call_is_there (may.1 0 refl)

-- and of its table, which belongs to the first module
abbrev begun_with_a_table : Machine
begun_with_a_table = after_all world opened (takes ++ Step Table (Claim 0 0) ∷ Step Table (Out 0 0) ∷ Prepare Table 0 (numbered 0) ∷ begins)

no_restore_while_it_runs : MayHappen world begun_with_a_table (Restore Table 0) → ⊥
no_restore_while_it_runs may = call_is_there (may.1 0 refl)

no_clear_while_it_runs : MayHappen world begun (Clear Instance 0 []) → ⊥
no_clear_while_it_runs may = call_is_there (may.1 0 refl)

no_second_call_while_it_runs : MayHappen world begun (Begin 0 (request_of 0 2)) → ⊥
no_second_call_while_it_runs may = call_is_there may.0

no_call_is_given_up_twice : MayHappen world (after world turned_twice (Cancel 0)) (Cancel 0) → ⊥
no_call_is_given_up_twice (r, calls) = call_is_there (sym calls)

-- a step that its pool refuses
no_refused_step : MayHappen world opened (Step Instance (Home 0 0)) → ⊥
no_refused_step may = let four : 4 ≡ 0 = may.0 in omega (arith, four)

-- a value is prepared where a seat has it out
no_prepare_of_nothing : MayHappen world opened (Prepare Instance 0 (numbered 0)) → ⊥
no_prepare_of_nothing may = let e = may.0.holds in cc

no_prepare_in_its_slot : MayHappen world (after world opened (Step Instance (Claim 0 0))) (Prepare Instance 0 (numbered 0)) → ⊥
no_prepare_in_its_slot may = true≢false (sym may.0.out)

-- for a module on the shelf
no_prepare_for_another : MayHappen world taken (Prepare Instance 0 (record (numbered 1) { tag = 2 })) → ⊥
no_prepare_for_another may = two (sym (ap (λ (n : Named). n.tag) may.2.on_shelf))

-- restored where it has a module, and cleared to what is cold
no_restore_of_a_ticket : MayHappen world taken (Restore Instance 0) → ⊥
no_restore_of_a_ticket may = true≢false (sym may.2)

abbrev table_out : Machine
table_out = after_all world opened (Step Table (Claim 0 0) ∷ Step Table (Out 0 0) ∷ [])

no_clear_to_an_element : MayHappen world table_out (Clear Table 0 (record { entries = None ∷ []; holds = None })) → ⊥
no_clear_to_an_element may = let e = may.2.1 in cc (e)

-- a call begins with a slot of each kind that its module needs, and with arguments of its function's types
no_call_without_a_ticket : MayHappen world opened (Begin 0 (request_of 0 2)) → ⊥
no_call_without_a_ticket may = let e = (may.1 Instance refl).holds in cc

-- a shelf on which each number has this module
abbrev pub world_of : ModuleTree → World
world_of m = record world { shelf = λ n. record { number = n; tag = n; tree = m; code = no_code } }

abbrev request_in : ModuleTree → Request
request_in m = record (request_of 0 2) { named = record { number = 0; tag = 0; tree = m; code = no_code } }

abbrev with_a_table : ModuleTree
with_a_table = record set_module { tables = record { min = 0; max = None } ∷ [] }

abbrev with_pages : ModuleTree
with_pages = record set_module { memories = record { min = 0; max = None } ∷ [] }

no_call_without_its_table : MayHappen (world_of with_a_table) taken (Begin 0 (request_in with_a_table)) → ⊥
no_call_without_its_table may = let e = (may.1 Table refl).holds in cc

no_call_without_its_memory : MayHappen (world_of with_pages) taken (Begin 0 (request_in with_pages)) → ⊥
no_call_without_its_memory may = let e = (may.1 Memory refl).holds in cc

no_call_with_an_argument : MayHappen world taken (Begin 0 (record (request_of 0 2) { arguments = I32 1 ∷ [] })) → ⊥
no_call_with_an_argument may = let none : [] ≡ may.3.type.params = ap (λ (o : Option FuncType). (type_or_empty o).params) may.3.typed in let some = may.3.fitting in cc

no_call_of_what_is_not_there : IsCallable (request_in (record set_module { functions = [] })) → ⊥
no_call_of_what_is_not_there is = let e = is.typed in cc (e)

-- a ticket is not released as warm
no_release_as_warm : ReleaseFits world taken (Step Instance (Release 0 0 (record { state = Warm; tag = 0; stamp = 0 }))) → ⊥
no_release_as_warm fits = fits
