use Rattle.std.proofs.Common.{◌≡◌, ◌∙◌, ℕ, Some, sym, subst}
use Rattle.std.proofs.lemmas.Option.{same_Some}
use Rattle.wasm_spec.specs.Execution.{terms_of}
use Rattle.wasm_spec.specs.Result.{call_result}
use Rattle.paused_call.specs.Fuel.{left_in}
use Rattle.pool_host.proofs.AnswerLemmas.{one_export}
use Rattle.host_calls.proofs.laws.a_call_leaves_one_fuel.Goals as goal

pub returns : goal.returns
returns c = λ m limits export args request fuel a b valid h g.
    let same : h.0 ≡ g.0 = one_export m export h.0 g.0 valid h.1.exported.exported g.1.exported.exported in
    let one : left_in (call_result m (terms_of limits request) g.0 args fuel) ≡ Some a =
    subst (λ (x : ℕ). left_in (call_result m (terms_of limits request) x args fuel) ≡ Some a) same h.2 in
    same_Some a b (sym one ∙ g.2)
