-- Which calls of a module may be made, and how they end.
use Rattle.std.specs.Prelude.{◌≡◌, ◌≢◌, ℕ, List, [], map, Option, Some}
use Rattle.wasm_types.specs.declared.types.FuncType.{FuncType}
use Rattle.wasm_values.specs.declared.outcome.Outcome.{Outcome}
use Rattle.wasm_values.specs.declared.outcome.Outcome.TheVariants as outcome
use Rattle.wasm_values.specs.declared.outcome.Val.{Val}
use Rattle.wasm_types.specs.declared.limits.RunLimits.{RunLimits}
use Rattle.wasm_types.specs.Tree.{ModuleTree}
use Rattle.wasm_spec.specs.Functions.{function_type}
use Rattle.wasm_spec.specs.Execution.{terms_of}
use Rattle.wasm_spec.specs.Typing.{type_of}
use Rattle.wasm_spec.specs.Validity.{Exports}
use Rattle.wasm_spec.specs.Result.{CallResult, answer_of, call_result}
use Rattle.call_payload.specs.declared.call.Call.{Call}
use Rattle.pool_limits.specs.declared.numbers.Numbers.{Numbers}
use Rattle.paused_call.specs.declared.call.SliceEnd.{SliceEnd}
use Rattle.paused_call.specs.declared.call.SliceEnd.TheVariants as turned
use Rattle.paused_call.specs.Fuel.{left_in}
use Rattle.paused_call.specs.Standing.{Waits}
use Rattle.instance_calls.specs.declared.refusal.Refusal.{Refusal}
use Rattle.instance_calls.specs.declared.refusal.Refusal.TheVariants.{NoExport, BadArgs}

-- the export is a function of this type
pub record IsExported (m : ModuleTree) (export : List ℕ) (function : ℕ) (type : FuncType) : Type 0 where
  pub exported : Exports m.exports export function
  pub typed : function_type m function ≡ Some type

-- no function is exported under this name
abbrev pub LacksExport : ModuleTree → List ℕ → Type 0
LacksExport m export = (x : ℕ) → ¬ (Exports m.exports export x)

-- a function is exported under this name, and the arguments aren't of its parameters' types
pub record LacksTypes (m : ModuleTree) (export : List ℕ) (args : List Val) : Type 0 where
  pub function : ℕ
  pub type : FuncType
  pub exported : IsExported m export function type
  pub differ : map type_of args ≢ type.params

-- this function is exported under this name, and the arguments are of its parameters' types
pub record MayCall (m : ModuleTree) (export : List ℕ) (function : ℕ) (args : List Val) : Type 0 where
  pub type : FuncType
  pub exported : IsExported m export function type
  pub fit : map type_of args ≡ type.params

-- a function is exported under this name, the arguments are of its parameters' types, and its call on a fresh instance, with
-- these bytes as its request, ends with this outcome and answers these bytes
pub record EndsWith (m : ModuleTree) (limits : RunLimits) (export : List ℕ) (args : List Val) (request : List ℕ) (fuel : ℕ) (outcome : Outcome) (answer : List ℕ) : Type 0 where
  pub function : ℕ
  pub type : FuncType
  pub exported : IsExported m export function type
  pub fit : map type_of args ≡ type.params
  pub result : CallResult
  pub ends : call_result m (terms_of limits request) function args fuel ≡ Some result
  pub shows : outcome ≡ result.outcome
  pub answers : answer ≡ answer_of result

-- a function is exported under this name, the arguments are of its parameters' types, and its call on a fresh instance, with
-- these bytes as its request, leaves so much of its fuel
abbrev pub EndsLeaving : ModuleTree → RunLimits → (export : List ℕ) → (args : List Val) → (request : List ℕ) → (fuel left : ℕ) → Type 0
EndsLeaving m limits export args request fuel left =
    (function : ℕ) × MayCall m export function args × (left_in (call_result m (terms_of limits request) function args fuel) ≡ Some left)

-- why a call can't be made
abbrev pub IsRefusal : ModuleTree → (export : List ℕ) → (args : List Val) → Refusal → Type 0
IsRefusal m export args NoExport = LacksExport m export
IsRefusal m export args BadArgs = LacksTypes m export args

-- the limits of the runs of a configuration
abbrev pub run_limits : Numbers → RunLimits
run_limits n = record { pages = n.pages; depth = n.depth }

-- what a call comes to on each fuel: what it gives a fresh instance
abbrev pub comes_of : Numbers → ModuleTree → (request : List ℕ) → (function : ℕ) → (args : List Val) → ℕ → Option CallResult
comes_of config m request function args = call_result m (terms_of (run_limits config) request) function args

-- what a call of this function comes to on each fuel, with the arguments and the request of what is asked
abbrev pub gives_of : Numbers → ModuleTree → (function : ℕ) → Call → ℕ → Option CallResult
gives_of config m function call = comes_of config m call.request.now function call.args.now

-- on all its fuel it ends so, and answers these bytes
pub record EndsAs (result : ℕ → Option CallResult) (fuel : ℕ) (outcome : Outcome) (bytes : List ℕ) : Type 0 where
  pub end : CallResult
  pub gives : result fuel ≡ Some end
  pub ends : outcome ≡ end.outcome
  pub answers : bytes ≡ answer_of end

-- a slice up to so many turns: Again exactly where the call waits there, and else how it ends on all its fuel
abbrev pub HasSliced : (ℕ → Option CallResult) → (fuel turns : ℕ) → SliceEnd → (answer : List ℕ) → Type 0
HasSliced result fuel turns turned.Again answer = Waits result fuel turns
HasSliced result fuel turns (turned.Done outcome) answer = ¬ (Waits result fuel turns) × EndsAs result fuel outcome answer

-- what is kept of the bytes that were appended: all while the call goes on, and its answer where it is done
abbrev pub kept_after : SliceEnd → List ℕ → List ℕ
kept_after turned.Again bytes = bytes
kept_after (turned.Done (outcome.Done v)) bytes = bytes
kept_after (turned.Done _) bytes = []
