-- Tenants with pools of their own: whose events change which pools, what each reads and is answered, and what is not the same.
use Rattle.std.proofs.Common.{◌≡◌, ℕ, Bool, true, false, true≢false, List, [], ◌∷◌, refl, sym, ap, arith}
use Rattle.std.specs.Prelude.{Option, Some, None, ◌==◌, if◌then◌else◌, map}
use Rattle.wasm_values.specs.declared.outcome.Outcome.TheVariants as outcome
use Rattle.wasm_values.specs.declared.outcome.Val.TheVariants.{I32}
use Rattle.wasm_spec.specs.Execution.{exec}
use Rattle.wasm_spec.specs.Store.{Store}
use Rattle.pool_core.specs.declared.words.State.{State}
use Rattle.pool_core.specs.declared.words.State.TheVariants.{Cold, Warm, Awaiting}
use Rattle.pool_core.specs.declared.words.StateWord.{StateWord}
use Rattle.pool_core.specs.declared.events.Event.TheVariants.{Claim, Load, Split, Stamp}
use Rattle.pool_core.specs.PoolCore.{PoolCore, is_live, opening_core, seat_at}
use Rattle.pool_model.specs.declared.kinds.Kind.{Kind}
use Rattle.pool_model.specs.declared.kinds.Kind.TheVariants.{Instance, Memory, Table}
use Rattle.pool_model.specs.PoolMachine.{World, InstanceLimits, Request, Running, Machine, WorldEvent, Step, Begin, Turn, End, Cancel}
use Rattle.pool_model.specs.Worlds.{OfBoth}
use Rattle.pool_model.specs.Tenants.{TenantEvent, Tenants, Pools, pools_after, pools_after_all, AllMayCome, own_events, claim_read, tenant_reads, tenant_answers, IsSameCall, LookSame, OpenAlike, SeesSame, free_warm, all_free_warm, OpenWithin}
use Rattle.model_examples.proofs.ShortCalls.{world, opened, taken, begun, request_of, running, turned_twice, used, with_memory}
use Rattle.model_examples.proofs.Scenes.{call_is_there}
use Rattle.model_examples.proofs.Callers.{beside, no_opening_with_contents}

abbrev by : ℕ → WorldEvent → TenantEvent
by t e = record { tenant = t; event = e }

abbrev alike : Tenants
alike t = world

abbrev all_opened : Pools
all_opened t = opened

-- ---- whose events change which pools, and what claims read

-- tenant 0 claims its ticket 0 by one seat and by another; tenant 1 both of its tickets
abbrev claims : List TenantEvent
claims = by 1 (Step Instance (Split 0 1)) ∷ by 1 (Step Instance (Claim 0 1)) ∷ by 0 (Step Instance (Split 0 1)) ∷ by 0 (Step Instance (Claim 0 0)) ∷ by 0 (Step Instance (Claim 1 0)) ∷ by 1 (Step Instance (Claim 1 0)) ∷ []

abbrev claimed : Pools
claimed = pools_after_all alike all_opened claims

abbrev held_words : Machine → List Bool
held_words p = map (λ w. w.held) (p.core Instance).words

tickets_of_0 : held_words (claimed 0) ≡ true ∷ false ∷ []
tickets_of_0 = refl

tickets_of_1 : held_words (claimed 1) ≡ true ∷ true ∷ []
tickets_of_1 = refl

tickets_of_2 : held_words (claimed 2) ≡ false ∷ false ∷ []
tickets_of_2 = refl

events_of_0 : own_events 0 claims ≡ Step Instance (Split 0 1) ∷ Step Instance (Claim 0 0) ∷ Step Instance (Claim 1 0) ∷ []
events_of_0 = refl

events_of_1 : own_events 1 claims ≡ Step Instance (Split 0 1) ∷ Step Instance (Claim 0 1) ∷ Step Instance (Claim 1 0) ∷ []
events_of_1 = refl

-- a free cold word reads as 0, and one that is held as 1
reads_of_0 : tenant_reads alike all_opened claims 0 ≡ 0 ∷ 1 ∷ []
reads_of_0 = refl

reads_of_1 : tenant_reads alike all_opened claims 1 ≡ 0 ∷ 0 ∷ []
reads_of_1 = refl

-- by the number claimed and not by the seat, in the pool of its kind, and before it is won; a load is no claim
reads_its_slot : claim_read (claimed 0) (Step Instance (Claim 0 1)) ≡ 0 ∷ []
reads_its_slot = refl

reads_its_kind : claim_read (claimed 0) (Step Memory (Claim 0 0)) ≡ 0 ∷ []
reads_its_kind = refl

abbrev warm_word : StateWord
warm_word = record { target = record { state = Warm; tag = 3; stamp = 1 }; held = false }

reads_the_word : claim_read (record opened { core = λ k. record (opening_core 2 0 2) { words = warm_word ∷ [] } }) (Step Instance (Claim 0 0)) ≡ 8388634 ∷ []
reads_the_word = refl

loads_claim_nothing : claim_read (claimed 0) (Step Instance (Load 0 0)) ≡ []
loads_claim_nothing = refl

-- each event is judged in the pools of its tenant, as those before left them
claims_may_come : AllMayCome alike all_opened claims
claims_may_come = ((refl, λ i e. refl), ((refl, λ i e. refl), ((refl, λ i e. refl), ((refl, λ i e. refl), ((refl, λ i e. refl), ((refl, λ i e. refl), tt))))))

no_claim_by_a_seat_to_come : AllMayCome alike all_opened (by 0 (Step Instance (Split 0 1)) ∷ by 1 (Step Instance (Claim 1 0)) ∷ []) → ⊥
no_claim_by_a_seat_to_come may = absurd (cc (may.1.0.0))

-- a tenant's world is its own: in that of tenant 1 caller i has the seat i + 1
abbrev apart : Tenants
apart t = if t == 1 then beside else world

own_seats : ((pools_after apart (λ t. taken) (by 1 (Begin 0 (request_of 0 2))) 1).contents Instance 1) ≡ I32 1 ∷ []
own_seats = refl

-- ---- answers

-- tenant 0's first caller has made its turns, those of tenant 1 are beginning
abbrev at_work : Pools
at_work t = if t == 0 then turned_twice else begun

abbrev ends : List TenantEvent
ends = by 1 (Turn 1 []) ∷ by 0 (End 0 []) ∷ by 1 (Cancel 0) ∷ by 1 (End 1 []) ∷ []

answer_of_0 : tenant_answers alike at_work ends 0 0 ≡ (request_of 0 2, Some (outcome.Done None, [])) ∷ []
unfolding exec
answer_of_0 = refl

nobody_else_of_0 : tenant_answers alike at_work ends 0 1 ≡ []
nobody_else_of_0 = refl

given_up_without_an_answer : tenant_answers alike at_work ends 1 0 ≡ []
given_up_without_an_answer = refl

answer_of_1 : tenant_answers alike at_work ends 1 1 ≡ (request_of 1 1, Some (outcome.Fuel, [])) ∷ []
unfolding exec
answer_of_1 = refl

-- a call is answered as it stands when it ends, and not as its pools were opened
abbrev begins_and_ends : List TenantEvent
begins_and_ends = by 0 (Begin 0 (request_of 0 2)) ∷ by 0 (End 0 []) ∷ []

answer_of_a_call_that_began : tenant_answers alike (λ t. taken) begins_and_ends 0 0 ≡ (request_of 0 2, Some (outcome.Done None, [])) ∷ []
unfolding exec
answer_of_a_call_that_began = refl

-- ---- what is not the same

one_is_two : ◌≡◌ {A = ℕ} 1 2 → ⊥
one_is_two e = omega arith

another_module : IsSameCall world world begun begun 0 (running 1 2 0) (running 2 2 0) → ⊥
another_module s = one_is_two (ap (λ (q : Request). q.named.number) s.request)

another_turn : IsSameCall world world begun begun 0 (running 0 2 1) (running 0 2 2) → ⊥
another_turn s = one_is_two s.turns

another_global : IsSameCall world world turned_twice begun 0 (running 0 2 0) (running 0 2 0) → ⊥
unfolding exec
another_global s = let e = ap (λ (t : Store). t.globals) (s.same.stores s.turns) in cc (e)

another_size : IsSameCall world world used (record used {
  contents = elim [
    | Instance ↦ λ n. I32 7 ∷ []
    | Memory ↦ λ n. record { bytes = 9 ∷ []; pages = 4; marks = true ∷ []; holds = None }
    | Table ↦ λ n. record { entries = []; holds = None }
  ];
}) 0 with_memory with_memory → ⊥
another_size s = let e : 3 ≡ 4 = s.same.sizes s.turns refl in omega (arith, e)

-- it began without its global, so that it is stuck
abbrev without_globals : Running
without_globals = record (running 0 2 0) { begun = record { memory = []; table = []; globals = []; answer = [] } }

another_answer : IsSameCall world world begun begun 0 (running 0 2 0) without_globals → ⊥
unfolding exec
another_answer s = let e = s.same.answers in cc (e)

nothing_runs_there : OfBoth (IsSameCall world world begun begun 0) (Some (running 0 2 0)) None → ⊥
nothing_runs_there s = s

nothing_runs_here : OfBoth (IsSameCall world world begun begun 0) None (Some (running 0 2 0)) → ⊥
nothing_runs_here s = s

nothing_runs : OfBoth (IsSameCall world world begun begun 0) None None
nothing_runs = tt

other_words : LookSame world world (record taken { core = λ k. opening_core 1 0 2 }) (record taken { core = λ k. opening_core 2 0 2 }) → ⊥
other_words same = let e = ap (λ (c : PoolCore). c.words) (same.cores Table) in cc (e)

other_calls : LookSame world world begun (record begun { calls = λ i. None }) → ⊥
other_calls same = same.calls 1

abbrev other_limits : World
other_limits = record world { limits = record { pages = 1; elements = 0; frame = 9; depth = 4 } }

limits_differ : OpenAlike world other_limits opened opened → ⊥
limits_differ open_alike = let e : 8 ≡ 9 = ap (λ (l : InstanceLimits). l.frame) open_alike.limits in omega (arith, e)

this_is_no_opening : OpenAlike world world used used → ⊥
this_is_no_opening open_alike = no_opening_with_contents open_alike.opens

that_is_no_opening : OpenAlike world world opened used → ⊥
that_is_no_opening open_alike = no_opening_with_contents open_alike.opens_too

more_seats : OpenAlike world world opened (record opened { core = λ k. opening_core 2 0 3 }) → ⊥
more_seats open_alike = let e = ap (λ (c : PoolCore). c.seats) (open_alike.cores Instance) in cc (e)

-- one tenant sees another state, reads something or is answered
abbrev makes_a_seat : List TenantEvent
makes_a_seat = by 0 (Step Instance (Split 0 1)) ∷ []

other_state : SeesSame alike alike all_opened all_opened makes_a_seat makes_a_seat 0 1 → ⊥
other_state sees = true≢false (ap (λ (c : PoolCore). is_live (seat_at c 1).stage) (sees.pools.cores Instance))

abbrev loses_a_claim : List TenantEvent
loses_a_claim = by 0 (Step Instance (Claim 1 0)) ∷ []

other_reads : SeesSame alike alike (λ t. taken) (λ t. taken) loses_a_claim loses_a_claim 0 1 → ⊥
other_reads sees = let e = sees.reads in cc (e)

abbrev ends_or_gives_up : List TenantEvent
ends_or_gives_up = by 0 (End 0 []) ∷ by 1 (Cancel 0) ∷ []

other_answers : SeesSame alike alike (λ t. turned_twice) (λ t. turned_twice) ends_or_gives_up ends_or_gives_up 0 1 → ⊥
unfolding exec
other_answers sees = let e = sees.answers 0 in cc (e)

-- ---- warm slots

abbrev word : State → Bool → StateWord
word state held = record { target = record { state = state; tag = 0; stamp = 0 }; held = held }

-- two free warm words, a held one, one that awaits and one that is cold
abbrev of_five : PoolCore
of_five = record (opening_core 0 2 1) { words = word Warm false ∷ word Warm true ∷ word Awaiting false ∷ word Warm false ∷ word Cold false ∷ [] }

two_are_warm : free_warm of_five ≡ 2
two_are_warm = refl

-- tenant 0's memories have two warm slots, tenant 1's none and tenant 2's two; nobody's tables have any
abbrev warmed : Pools
warmed t = record opened {
  core = elim [
    | Instance ↦ opening_core 2 0 2
    | Memory ↦ if t == 1 then opening_core 2 2 2 else of_five
    | Table ↦ opening_core 2 2 2
  ];
}

of_tenant_0 : all_free_warm warmed Memory 1 ≡ 2
of_tenant_0 = refl

of_two_tenants : all_free_warm warmed Memory 2 ≡ 2
of_two_tenants = refl

of_three_tenants : all_free_warm warmed Memory 3 ≡ 4
of_three_tenants = refl

of_tables : all_free_warm warmed Table 3 ≡ 0
of_tables = refl

other_limit : OpenWithin alike all_opened Memory (0 ∷ 1 ∷ []) → ⊥
other_limit opens = let e = opens.limit 1 (omega arith) in omega (arith, e)

no_opening : OpenWithin alike (λ t. used) Memory (0 ∷ []) → ⊥
no_opening opens = no_opening_with_contents (opens.opens 0 (omega arith))
