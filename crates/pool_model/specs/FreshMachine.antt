-- The same calls, each on a fresh instance of its own: no slots, words or marks.
use Rattle.std.specs.Prelude.{ℕ, ◌+◌, ◌==◌, if◌then◌else◌, List, [], ◌∷◌, Option, Some, None}
use Rattle.wasm_values.specs.declared.outcome.Outcome.{Outcome}
use Rattle.wasm_spec.specs.Store.{Store, fresh_store}
use Rattle.wasm_spec.specs.Result.{CallResult, call_result}
use Rattle.pool_model.specs.PoolMachine.{InstanceLimits, terms_of, Request, WorldEvent, Begin, Turn, End, Cancel, store_or, told}

pub record FreshCall : Type 0 where
  pub request : Request
  pub store : Store
  pub turns : ℕ

-- each caller's running call
abbrev pub FreshMachine : Type 0
FreshMachine = ℕ → Option FreshCall

-- what a request comes to on this fuel
abbrev pub fresh_result : InstanceLimits → Request → ℕ → Option CallResult
fresh_result l q fuel = call_result q.named.tree (terms_of l q.sent) q.function q.arguments fuel

-- its store then
abbrev pub fresh_store_on : InstanceLimits → Request → ℕ → Store
fresh_store_on l q fuel = store_or (fresh_store q.named.tree) (fresh_result l q fuel)

-- its store after so many turns: before the first it is as it began, also where it ends without one
abbrev pub fresh_store_after : InstanceLimits → Request → ℕ → Store
fresh_store_after l q turns = if turns == 0 then fresh_store q.named.tree else fresh_store_on l q turns

-- its answer
abbrev pub fresh_answer : InstanceLimits → Request → Option (Outcome × List ℕ)
fresh_answer l q = told (fresh_result l q q.fuel)

abbrev pub fresh_turn : InstanceLimits → Option FreshCall → Option FreshCall
fresh_turn l None = None
fresh_turn l (Some c) = Some (record c { store = fresh_store_on l c.request (c.turns + 1); turns = c.turns + 1 })

abbrev pub with_fresh_call : FreshMachine → ℕ → Option FreshCall → FreshMachine
with_fresh_call f i call j = if j == i then call else f j

-- of the events a fresh machine has the calls' own alone
abbrev pub fresh_after : InstanceLimits → FreshMachine → WorldEvent → FreshMachine
fresh_after l f (Begin i q) = with_fresh_call f i (Some (record { request = q; store = fresh_store q.named.tree; turns = 0 }))
fresh_after l f (Turn i marks) = with_fresh_call f i (fresh_turn l (f i))
fresh_after l f (End i marks) = with_fresh_call f i None
fresh_after l f (Cancel i) = with_fresh_call f i None
fresh_after l f e = f

abbrev pub fresh_after_all : InstanceLimits → FreshMachine → List WorldEvent → FreshMachine
fresh_after_all l f [] = f
fresh_after_all l f (e ∷ es) = fresh_after_all l (fresh_after l f e) es

abbrev pub nothing_runs : FreshMachine
nothing_runs i = None
