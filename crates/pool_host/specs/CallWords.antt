-- What a call of a loaded module is answered.
use Rattle.std.specs.Prelude.{◌≡◌, ℕ, Bool, true, false, List, []}
use Rattle.wasm_values.specs.declared.outcome.Val.{Val}
use Rattle.wasm_types.specs.declared.limits.RunLimits.{RunLimits}
use Rattle.wasm_types.specs.Tree.{ModuleTree}
use Rattle.call_payload.specs.declared.call.Call.{Call}
use Rattle.instance_calls.specs.CallWords.{EndsLeaving, EndsWith, LacksExport, LacksTypes, MayCall}
use Rattle.pool_model.specs.declared.kinds.Kind.{Kind}
use Rattle.pool_host.specs.declared.answers.Answer.{Answer}
use Rattle.pool_host.specs.declared.answers.Answer.TheVariants as answer
use Rattle.pool_host.specs.declared.lane.LaneAnswer.{LaneAnswer}
use Rattle.pool_host.specs.declared.lane.LaneAnswer.TheVariants.{Done, NoExport, BadArgs, Retired}

-- What a call of one caller is answered, and with which bytes. There are none where it was not made. Where the module is retired it could have been made.
abbrev pub IsAnswer : ModuleTree → RunLimits → (export : List ℕ) → (args : List Val) → (request : List ℕ) → (fuel : ℕ) → LaneAnswer → (bytes : List ℕ) → Type 0
IsAnswer m limits export args request fuel NoExport bytes = LacksExport m export × (bytes ≡ [])
IsAnswer m limits export args request fuel BadArgs bytes = LacksTypes m export args × (bytes ≡ [])
IsAnswer m limits export args request fuel Retired bytes = (function : ℕ) × MayCall m export function args × (bytes ≡ [])
IsAnswer m limits export args request fuel (Done outcome) bytes = EndsWith m limits export args request fuel outcome bytes

-- What one of several callers is answered. Where the module is retired or a kind is full the call could have been made.
abbrev pub IsHostAnswer : ModuleTree → RunLimits → (export : List ℕ) → (args : List Val) → (request : List ℕ) → (fuel : ℕ) → Answer → (bytes : List ℕ) → Type 0
IsHostAnswer m limits export args request fuel answer.NoExport bytes = LacksExport m export × (bytes ≡ [])
IsHostAnswer m limits export args request fuel answer.BadArgs bytes = LacksTypes m export args × (bytes ≡ [])
IsHostAnswer m limits export args request fuel answer.Retired bytes = (function : ℕ) × MayCall m export function args × (bytes ≡ [])
IsHostAnswer m limits export args request fuel (answer.Done outcome) bytes = EndsWith m limits export args request fuel outcome bytes
IsHostAnswer m limits export args request fuel (answer.Full kind) bytes = (function : ℕ) × MayCall m export function args × (bytes ≡ [])

-- what one of several callers is answered that asks this, and what one of one caller
abbrev pub IsAnswerTo : Call → ModuleTree → RunLimits → Answer → (bytes : List ℕ) → Type 0
IsAnswerTo call m limits answer bytes = IsHostAnswer m limits call.export.now call.args.now call.request.now call.fuel answer bytes

abbrev pub IsLaneAnswerTo : Call → ModuleTree → RunLimits → LaneAnswer → (bytes : List ℕ) → Type 0
IsLaneAnswerTo call m limits answer bytes = IsAnswer m limits call.export.now call.args.now call.request.now call.fuel answer bytes

-- What is left of the fuel of a call of one of several callers: what its end left, and all where it was not made.
abbrev pub IsFuelLeft : ModuleTree → RunLimits → (export : List ℕ) → (args : List Val) → (request : List ℕ) → (fuel : ℕ) → Answer → (left : ℕ) → Type 0
IsFuelLeft m limits export args request fuel (answer.Done outcome) left = EndsLeaving m limits export args request fuel left
IsFuelLeft m limits export args request fuel _ left = left ≡ fuel

abbrev pub IsLeftTo : Call → ModuleTree → RunLimits → Answer → (left : ℕ) → Type 0
IsLeftTo call m limits answer left = IsFuelLeft m limits call.export.now call.args.now call.request.now call.fuel answer left

-- the module was retired
abbrev pub is_retired : LaneAnswer → Bool
is_retired Retired = true
is_retired _ = false

-- it as a host's
abbrev pub host_answer : LaneAnswer → Answer
host_answer NoExport = answer.NoExport
host_answer BadArgs = answer.BadArgs
host_answer Retired = answer.Retired
host_answer (Done outcome) = answer.Done outcome

-- a fact of the kind, where it was full
abbrev pub IfFull : Answer → (Kind → Type 0) → Type 0
IfFull (answer.Full kind) P = P kind
IfFull _ P = Unit {0}
