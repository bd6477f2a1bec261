-- Events that may not come.
use Rattle.wasm_types.specs.declared.types.FuncType.{FuncType}
use Rattle.std.proofs.Common.{◌≡◌, ◌+◌, true, true≢false, List, [], ◌∷◌, refl, sym, ap, subst, arith}
use Rattle.std.specs.Prelude.{Option, Some, None}
use Rattle.wasm_values.specs.declared.outcome.Val.TheVariants.{I32}
use Rattle.wasm_values.specs.declared.outcome.Outcome.{Outcome}
use Rattle.wasm_values.specs.declared.outcome.Outcome.TheVariants as outcome
use Rattle.wasm_spec.specs.Execution.{exec}
use Rattle.pool_core.specs.declared.words.State.TheVariants.{Warm}
use Rattle.pool_core.specs.declared.events.Event.TheVariants.{Claim, Home, Release, Stamp}
use Rattle.pool_core.specs.StateWords.{cold_target}
use Rattle.wasm_spec.specs.Store.{fresh_store}
use Rattle.wasm_spec.specs.Typing.{type_or_empty}
use Rattle.pool_model.specs.Contents.{Named}
use Rattle.pool_model.specs.declared.kinds.Kind.TheVariants.{Memory, Table}
use Rattle.pool_model.specs.PoolMachine.{Running, Machine, Step, Prepare, Restore, Clear, Begin, Turn, End, after, CanTurn, MayHappen, MarksStore, last_store, store_after}
use Rattle.pool_model.specs.Fitting.{ReleaseFits}
use Rattle.model_examples.proofs.Keeper.{keeper}
use Rattle.model_examples.proofs.Scenes.{first, world, request_of, cold, opened, done, call_is_there, same_call}
use Rattle.model_examples.proofs.Unfitting.{fresh, table_with, differ}
use Rattle.model_examples.proofs.Story.{taken, begun, read, written}

-- while a call runs its caller's seats do nothing else
no_step_while_it_runs : MayHappen world begun (Step Memory (Stamp 0)) → ⊥
no_step_while_it_runs may = call_is_there (may.1 0 refl)

no_prepare_while_it_runs : MayHappen world begun (Prepare Memory 0 first) → ⊥
no_prepare_while_it_runs may = call_is_there (may.1 0 refl)

no_restore_while_it_runs : MayHappen world begun (Restore Memory 0) → ⊥
no_restore_while_it_runs may = call_is_there (may.1 0 refl)

no_clear_while_it_runs : MayHappen world begun (Clear Memory 0 (cold Memory)) → ⊥
no_clear_while_it_runs may = call_is_there (may.1 0 refl)

no_second_call_while_it_runs : MayHappen world begun (Begin 0 (request_of first 5)) → ⊥
no_second_call_while_it_runs may = call_is_there may.0

-- a step that its pool refuses
no_refused_step : MayHappen world opened (Step Memory (Home 0 0)) → ⊥
no_refused_step may = let four : 4 ≡ 0 = may.0 in omega (arith, four)

-- a value is prepared where a seat has it out
no_prepare_of_nothing : MayHappen world opened (Prepare Memory 0 first) → ⊥
no_prepare_of_nothing may = let e = may.0.holds in cc

no_prepare_in_its_slot : MayHappen world (after world opened (Step Memory (Claim 0 0))) (Prepare Memory 0 first) → ⊥
no_prepare_in_its_slot may = true≢false (sym may.0.out)

-- for a module on the shelf
no_prepare_for_another : MayHappen world taken (Prepare Memory 0 (record first { tag = 1 })) → ⊥
no_prepare_for_another may = differ (ap (λ (n : Named). n.tag) may.2.on_shelf)

-- restored where it has a module, and cleared to what is cold
no_restore_of_cold : MayHappen world taken (Restore Memory 0) → ⊥
no_restore_of_cold may = true≢false (sym may.2)

no_clear_to_fresh : MayHappen world taken (Clear Memory 0 fresh) → ⊥
no_clear_to_fresh may = let e = may.2.holds in cc

-- a call begins with a slot of each kind that its module needs, and with arguments of its function's types
no_call_without_slots : MayHappen world opened (Begin 0 (request_of first 5)) → ⊥
no_call_without_slots may = let e = (may.1 Table refl).holds in cc

no_call_with_an_argument : MayHappen world taken (Begin 0 (record (request_of first 5) { arguments = I32 1 ∷ [] })) → ⊥
no_call_with_an_argument may = let none : [] ≡ may.3.type.params = ap (λ (o : Option FuncType). (type_or_empty o).params) may.3.typed in let some = may.3.fitting in cc

-- a turn marks what it changes
no_unmarked_change : MayHappen world read (Turn 0 []) → ⊥
unfolding exec
no_unmarked_change (r, calls, can, marks) =
    let m = subst (λ (x : Running). MarksStore world read 0 x (store_after world x (x.turns + 1)) []) (sym (same_call calls)) marks in
    let seven : 7 ≡ 0 = (m refl).bytes 0 refl in omega (arith, seven)

-- there is none after the last, and the call ends no sooner
abbrev ended : Machine
ended = after world read (Turn 0 (true ∷ []))

no_turn_after_the_last : MayHappen world ended (Turn 0 (true ∷ [])) → ⊥
unfolding exec
no_turn_after_the_last (r, calls, can, marks) = let c = subst (λ (x : Running). CanTurn world x) (sym (same_call calls)) can in done _ c.unfinished

no_end_before_the_last : MayHappen world read (End 0 []) → ⊥
unfolding exec
no_end_before_the_last (r, calls, stuck, marks) = stuck (subst (λ (x : Running). CanTurn world x) (same_call calls) (record { fuel = omega arith; unfinished = refl }))

-- an end takes no mark away
no_end_without_its_marks : MayHappen world ended (End 0 []) → ⊥
unfolding exec
no_end_without_its_marks (r, calls, stuck, marks) =
    let m = subst (λ (x : Running). MarksStore world ended 0 x (last_store world x) []) (sym (same_call calls)) marks in true≢false ((m refl).marks 0 refl)

no_turn_without_fuel : CanTurn world (record { request = record (request_of first 5) { fuel = 4 }; begun = fresh_store keeper; turns = 4 }) → ⊥
no_turn_without_fuel can = let lt = can.fuel in omega (arith, lt)

-- what a call left is no warm memory, and no cold one
no_release_as_warm : ReleaseFits world written (Step Memory (Release 0 0 (record { state = Warm; tag = 0; stamp = 0 }))) → ⊥
unfolding exec
no_release_as_warm (m, f, tag) = true≢false (f.clean 0)

no_release_as_cold : ReleaseFits world written (Step Memory (Release 0 0 cold_target)) → ⊥
unfolding exec
no_release_as_cold c = true≢false (c.clean 0)

-- ---- what preparing makes of a slot

prepared_memory : (after world taken (Prepare Memory 0 first)).contents Memory 0 ≡ record fresh { marks = [] }
prepared_memory = refl

prepared_table : (after world taken (Prepare Table 0 first)).contents Table 0 ≡ table_with (Some 0 ∷ [])
prepared_table = refl
