use Rattle.std.proofs.Common.{◌≡◌, ℕ, List, [], Some, subst}
use Rattle.wasm_values.specs.declared.outcome.Val.{Val}
use Rattle.wasm_spec.specs.Execution.{terms_of}
use Rattle.wasm_spec.specs.Result.{call_result}
use Rattle.pool_model.specs.Contents.{Named}
use Rattle.instance_calls.specs.CallWords.{run_limits}
use Rattle.host_calls.proofs.laws.slices_end_as_the_call.Goals as goal

pub returns : goal.returns
returns c = λ config m export function args fuel v outcome bytes may is over. record {
  function = function;
  type = may.type;
  exported = may.exported;
  fit = may.fit;
  result = over.end;
  ends = subst (λ (k : ℕ). call_result m.tree (terms_of (run_limits config) []) function args k ≡ Some over.end) is.fuel_is
      (subst (λ (l : List Val). call_result m.tree (terms_of (run_limits config) []) function l v.call.fuel ≡ Some over.end) is.args_are
      (subst (λ (f : ℕ). call_result m.tree (terms_of (run_limits config) []) f v.args v.call.fuel ≡ Some over.end) is.function_is
      (subst (λ (n : Named). call_result n.tree (terms_of (run_limits config) []) v.call.function v.args v.call.fuel ≡ Some over.end) is.named_is over.gives)));
  shows = over.ends;
  answers = over.answers;
}
