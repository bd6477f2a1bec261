use Rattle.std.proofs.Common.{◌≡◌, ℕ, List, [], Some, subst}
use Rattle.wasm_values.specs.declared.outcome.Val.{Val}
use Rattle.wasm_spec.specs.Execution.{terms_of}
use Rattle.wasm_spec.specs.Result.{call_result}
use Rattle.pool_model.specs.Contents.{Named}
use Rattle.paused_call.specs.Fuel.{left_in}
use Rattle.instance_calls.specs.CallWords.{run_limits}
use Rattle.host_calls.proofs.laws.slices_leave_the_fuel_of_the_call.Goals as goal

pub returns : goal.returns
returns c = λ config m export function args fuel v left may is leaves. (
  function,
  may,
  subst (λ (k : ℕ). left_in (call_result m.tree (terms_of (run_limits config) []) function args k) ≡ Some left) is.fuel_is
      (subst (λ (l : List Val). left_in (call_result m.tree (terms_of (run_limits config) []) function l v.call.fuel) ≡ Some left) is.args_are
      (subst (λ (f : ℕ). left_in (call_result m.tree (terms_of (run_limits config) []) f v.args v.call.fuel) ≡ Some left) is.function_is
      (subst (λ (n : Named). left_in (call_result n.tree (terms_of (run_limits config) []) v.call.function v.args v.call.fuel) ≡ Some left) is.named_is leaves))),
)
