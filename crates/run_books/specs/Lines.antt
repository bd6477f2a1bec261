-- What a module line and a call show.
use Rattle.wasm_types.specs.declared.limits.RunLimits.{RunLimits}
use Rattle.wasm_types.specs.declared.limits.LoadLimits.{LoadLimits}
use Rattle.std.specs.Prelude.{◌≡◌, ◌⊎◌, ℕ, Bool, true, false, List, Option, Some, Result, Ok, Err, slice_get}
use Rattle.wasm_values.specs.declared.outcome.Outcome.{Outcome}
use Rattle.wasm_values.specs.declared.outcome.Outcome.TheVariants as outcome
use Rattle.request_calls.specs.declared.invocation.Invocation.{Invocation}
use Rattle.wasm_values.specs.declared.profile.Profile.{Profile}
use Rattle.wasm_types.specs.Tree.{ModuleTree}
use Rattle.wasm_spec.specs.Loading as loading
use Rattle.wasm_spec.specs.Loading.{Loads, Refusal}
use Rattle.instance_calls.specs.CallWords.{EndsWith, LacksExport, LacksTypes}
use Rattle.pool_limits.specs.declared.numbers.Numbers.{Numbers}
use Rattle.report_text.specs.declared.report.ModuleLine.{ModuleLine}
use Rattle.report_text.specs.declared.report.ModuleLine.TheVariants as module_line
use Rattle.report_text.specs.declared.report.CallLine.{CallLine}
use Rattle.report_text.specs.declared.report.CallLine.TheVariants as call_line
use Rattle.request_calls.specs.Invocations.{sent_by, shown_of}

-- the profile of WebAssembly in which a module is read, and what bounds it and its calls: nothing else of a configuration does
pub record Limits : Type 0 where
  pub profile : Profile
  pub load : LoadLimits
  pub run : RunLimits

abbrev pub limits_in : Profile → Numbers → Limits
limits_in profile n =
    record { profile = profile; load = record { pages = n.pages; elements = n.elements; frame = n.frame }; run = record { pages = n.pages; depth = n.depth } }

-- ---- the line of a module

abbrev pub loading_line : Result ModuleTree Refusal → ModuleLine
loading_line (Ok m) = module_line.Accepted
loading_line (Err loading.Malformed) = module_line.Malformed
loading_line (Err loading.Unsupported) = module_line.Unsupported
loading_line (Err loading.Invalid) = module_line.Invalid
loading_line (Err (loading.OverLimit demand)) = module_line.Limit
loading_line (Err (loading.Segment extent)) = module_line.Segment

-- ---- the line of a call

-- the line of a call that ended so, where this is shown of the bytes that it answered
abbrev pub end_line : Outcome → (shown : Option (List ℕ)) → CallLine
end_line (outcome.Done value) (Some bytes) = call_line.Sent value bytes
end_line end shown = call_line.Done end

-- the call can be made, and ends as the line shows
pub record ShowsEnd (m : ModuleTree) (limits : RunLimits) (asked : Invocation) (line : CallLine) : Type 0 where
  pub outcome : Outcome
  pub bytes : List ℕ
  pub ends : EndsWith m limits asked.export asked.args (sent_by asked) asked.fuel outcome bytes
  pub shows : line ≡ end_line outcome (shown_of asked bytes)

-- how a call of this module goes: it has no such export, or that has other parameters, or the call has an end
abbrev pub ShowsAsked : ModuleTree → RunLimits → (asked : Invocation) → CallLine → Type 0
ShowsAsked m limits asked line = (LacksExport m asked.export × (line ≡ call_line.NoExport))
    ⊎ ((LacksTypes m asked.export asked.args × (line ≡ call_line.BadArgs)) ⊎ ShowsEnd m limits asked line)

-- How a call goes whose module was loaded so. Where the module is retired it is refused, whatever is asked of it.
abbrev pub ShowsCall : Limits → (retired : Bool) → Result ModuleTree Refusal → Invocation → CallLine → Type 0
ShowsCall limits retired (Err refusal) invocation line = line ≡ call_line.NoModule
ShowsCall limits true (Ok m) invocation line = line ≡ call_line.Retired
ShowsCall limits false (Ok m) invocation line = ShowsAsked m limits.run invocation line

-- How a call goes: this is fixed by the limits, its profile of WebAssembly, the bytes of its module, whether the module is retired before it, and
-- what is asked of it.
pub record IsCallLine (limits : Limits) (bytes : List ℕ) (retired : Bool) (invocation : Invocation) (line : CallLine) : Type 0 where
  pub loaded : Result ModuleTree Refusal
  pub loads : Loads limits.profile bytes limits.load loaded
  pub shows : ShowsCall limits retired loaded invocation line

-- how the call of the module at this place among the module lines goes, where it is retired or not
pub record GoesAs (limits : Limits) (modules : List (List ℕ)) (place : ℕ) (retired : Bool) (invocation : Invocation) (how : CallLine) : Type 0 where
  pub bytes : List ℕ
  pub there : slice_get modules place ≡ Some bytes
  pub goes : IsCallLine limits bytes retired invocation how
