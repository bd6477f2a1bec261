-- One call of `add`, which has no memory and no table: it needs a ticket alone.
use Rattle.std.proofs.Common.{◌≡◌, true, true≢false, List, [], ◌∷◌, refl, sym, arith}
use Rattle.std.specs.Prelude.{Option, Some, None}
use Rattle.wasm_values.specs.declared.profile.Profile.TheVariants.{One}
use Rattle.wasm_values.specs.declared.outcome.Val.TheVariants.{I32}
use Rattle.wasm_values.specs.declared.outcome.Outcome.TheVariants as outcome
use Rattle.wasm_spec.specs.Execution.{exec}
use Rattle.wasm_spec.specs.Store.{fresh_store}
use Rattle.wasm_spec.proofs.AddModule.{add, add_bytes, add_loads, add_type}
use Rattle.pool_core.specs.declared.events.Event.TheVariants.{Claim, Out}
use Rattle.pool_core.specs.PoolCore.{opening_core}
use Rattle.pool_model.specs.Contents.{Named, needs}
use Rattle.pool_model.specs.declared.kinds.Kind.{Kind}
use Rattle.pool_model.specs.declared.kinds.Kind.TheVariants.{Instance, Memory, Table}
use Rattle.pool_model.specs.PoolMachine.{World, Request, Machine, WorldEvent, Step, Begin, Turn, End, IsModule, IsCallable, HasOut, after_all, AllMayHappen, answer, IsOpening}
use Rattle.model_examples.proofs.NoCode.{no_code}
use Rattle.model_examples.proofs.Scenes.{cold, cold_is, done}

abbrev named : Named
named = record { number = 0; tag = 0; tree = add; code = no_code }

abbrev world : World
world = record { limits = record { pages = 1; elements = 0; frame = 8; depth = 4 }; shelf = λ n. named; seats = λ k i. i; apart = λ k i j e. e }

abbrev opened_alone : Machine
opened_alone = record { core = λ k. opening_core 1 0 1; contents = λ k n. cold k; calls = λ i. None }

opens : IsOpening world opened_alone
opens = record {
  slots = λ k. 1;
  limit = λ k. 0;
  passes = λ k. 1;
  core = λ k. refl;
  cold = λ k n. cold_is k;
  calls = λ i. refl;
}

abbrev request : Request
request = record { named = named; function = 0; arguments = I32 2 ∷ I32 3 ∷ []; sent = []; fuel = 100 }

abbrev events : List WorldEvent
events = Step Instance (Claim 0 0) ∷ Step Instance (Out 0 0) ∷ Begin 0 request ∷ Turn 0 [] ∷ Turn 0 [] ∷ Turn 0 [] ∷ End 0 [] ∷ []

is_module : IsModule world named
is_module = record { on_shelf = refl; profile = One; bytes = add_bytes; loads = add_loads }

callable : IsCallable request
callable = record {
  export = 0x61 ∷ 0x64 ∷ 0x64 ∷ [];
  exported = record { place = 0; there = refl };
  type = add_type;
  typed = refl;
  fitting = refl;
}

abbrev ready : Machine
ready = after_all world opened_alone (Step Instance (Claim 0 0) ∷ Step Instance (Out 0 0) ∷ [])

its_slots : (k : Kind) → needs k add ≡ true → HasOut ready k 0
its_slots Instance h = record { number = 0; holds = refl; out = refl }
its_slots Memory h = absurd (true≢false (sym h))
its_slots Table h = absurd (true≢false (sym h))

all_happen : AllMayHappen world opened_alone events
unfolding exec
all_happen = (
  (refl, λ i e. refl),
  (
    (refl, λ i e. refl),
    (
      (refl, its_slots, is_module, callable),
      (
        (_, refl, record { fuel = omega arith; unfinished = refl }, λ h. absurd (true≢false (sym h))),
        (
          (_, refl, record { fuel = omega arith; unfinished = refl }, λ h. absurd (true≢false (sym h))),
          (
            (_, refl, record { fuel = omega arith; unfinished = refl }, λ h. absurd (true≢false (sym h))),
            ((_, refl, (λ can. done _ can.unfinished), λ h. absurd (true≢false (sym h))), tt),
          ),
        ),
      ),
    ),
  ),
)

-- and it is answered that the sum is 5
answered : answer world (record { request = request; begun = fresh_store add; turns = 3 }) ≡ Some (outcome.Done (Some (I32 5)), [])
unfolding exec
answered = refl
