-- Callers whose seats have other numbers than they; what opens a pool, and what may be called at all.
use Rattle.std.proofs.Common.{◌≡◌, ℕ, ◌+◌, true, false, true≢false, List, [], ◌∷◌, length, refl, ap, arith}
use Rattle.std.specs.Prelude.{Some, None}
use Rattle.wasm_values.specs.declared.outcome.Val.TheVariants.{I32}
use Rattle.wasm_values.specs.declared.outcome.Outcome.TheVariants as outcome
use Rattle.wasm_types.specs.Tree.{ModuleTree}
use Rattle.wasm_spec.specs.Execution.{exec}
use Rattle.pool_core.specs.declared.events.Event.TheVariants.{Stamp}
use Rattle.pool_core.specs.RefusalRules.{refusal_of}
use Rattle.memory_blocks.specs.Blocks.{KeepsUnmarked}
use Rattle.pool_model.specs.Contents.{Named}
use Rattle.pool_model.specs.declared.kinds.Kind.TheVariants.{Instance, Memory, Table}
use Rattle.pool_model.specs.PoolMachine.{InstanceLimits, World, Step, Begin, load_limits, slot_of, terms_of, same_kind, answer, after, MayHappen, IsModule, IsOpening}
use Rattle.model_examples.proofs.NoCode.{no_code}
use Rattle.model_examples.proofs.FreshCalls.{set_module}
use Rattle.model_examples.proofs.ShortCalls.{numbered, world, world_of, request_of, taken, running, running_alone, used}
use Rattle.model_examples.proofs.Scenes.{call_is_there}

-- ---- seats: caller i has the seat i + 1

abbrev pub beside : World
beside = record world { seats = λ k i. i + 1; apart = λ k i j e. omega (arith, e) }

slot_of_its_seat : slot_of beside taken 0 Instance ≡ 1
slot_of_its_seat = refl

no_call_by_a_seat_of_nobody : MayHappen beside taken (Begin 1 (request_of 0 2)) → ⊥
no_call_by_a_seat_of_nobody may = let e = (may.1 Instance refl).holds in cc

its_pool_allows_the_step : refusal_of (taken.core Instance) (Stamp 1) ≡ 0
its_pool_allows_the_step = refl

no_step_of_its_seat_while_it_runs : MayHappen beside (after beside taken (Begin 0 (request_of 0 2))) (Step Instance (Stamp 1)) → ⊥
no_step_of_its_seat_while_it_runs may = call_is_there (may.1 0 refl)

its_slot_is_prepared : (after beside taken (Begin 0 (request_of 0 2))).contents Instance 1 ≡ I32 1 ∷ []
its_slot_is_prepared = refl

and_not_the_other : (after beside taken (Begin 0 (request_of 0 2))).contents Instance 0 ≡ I32 7 ∷ []
and_not_the_other = refl

kinds : same_kind Instance Instance ∷ same_kind Memory Memory ∷ same_kind Table Table ∷ same_kind Instance Memory ∷ same_kind Memory Table ∷ same_kind Table Instance ∷ [] ≡ true ∷ true ∷ true ∷ false ∷ false ∷ false ∷ []
kinds = refl

-- ---- limits, and the answer of a call that has only begun

abbrev four : InstanceLimits
four = record { pages = 1; elements = 2; frame = 3; depth = 4 }

limits_of_loading : load_limits four ≡ record { pages = 1; elements = 2; frame = 3 }
limits_of_loading = refl

limits_of_runs : terms_of four (8 ∷ 9 ∷ []) ≡ record { pages = 1; depth = 4; request = 8 ∷ 9 ∷ [] }
limits_of_runs = refl

answer_on_all_its_fuel : answer world (running 0 2 0) ≡ Some (outcome.Done None, [])
unfolding exec
answer_on_all_its_fuel = refl

answer_on_less_fuel : answer world (running 0 1 0) ≡ Some (outcome.Fuel, [])
unfolding exec
answer_on_less_fuel = refl

-- ---- marks

abbrev any_bytes : List ℕ
any_bytes = 1 ∷ 2 ∷ []

no_mark_is_taken_away : KeepsUnmarked any_bytes any_bytes (true ∷ []) (false ∷ []) → ⊥
no_mark_is_taken_away marks = true≢false (marks.marks 0 refl)

no_change_without_a_mark : KeepsUnmarked (1 ∷ []) (0 ∷ []) [] [] → ⊥
no_change_without_a_mark marks = let zero_is : 0 ≡ 1 = marks.bytes 0 refl in omega (arith, zero_is)

-- ---- what is no opening

pub no_opening_with_contents : IsOpening world used → ⊥
no_opening_with_contents opens = let e = (opens.cold Table 0).1 in cc (e)

no_opening_with_a_call : IsOpening world (running_alone (running 0 2 0)) → ⊥
no_opening_with_a_call opens = call_is_there (opens.calls 0)

-- ---- what is no module: an invalid one, though it stands on the shelf, and one beside the shelf

abbrev of_two_memories : ModuleTree
of_two_memories = record set_module { memories = record { min = 0; max = None } ∷ record { min = 0; max = None } ∷ [] }

no_invalid_module : IsModule (world_of of_two_memories) (record { number = 0; tag = 0; tree = of_two_memories; code = no_code }) → ⊥
no_invalid_module is =
    let few = is.loads.answers.0.valid.one_memory in
    let same = ap (λ (m : ModuleTree). length m.memories) is.loads.answers.1 in
    omega (arith, few, same)

no_module_beside_the_shelf : IsModule world (record (numbered 1) { tag = 0 }) → ⊥
no_module_beside_the_shelf is = let one_is : 1 ≡ 0 = ap (λ (n : Named). n.tag) is.on_shelf in omega (arith, one_is)
