-- What a call asks is what its line asks.
use Rattle.std.proofs.Common.{ℕ, List, subst}
use Rattle.wasm_values.specs.declared.outcome.Val.{Val}
use Rattle.call_payload.specs.declared.call.Call.{Call}
use Rattle.request_calls.specs.declared.invocation.Invocation.{Invocation}
use Rattle.request_calls.specs.Invocations.{Asks, sent_by}

-- a fact of what the call asks is one of what the line does
pub asked_so : (P : (export : List ℕ) → (args : List Val) → (request : List ℕ) → (fuel : ℕ) → Type 0) (line : Invocation) (call : Call) → Asks line call
    → P call.export.now call.args.now call.request.now call.fuel → P line.export line.args (sent_by line) line.fuel
asked_so P line call asks h =
    subst (λ (fuel : ℕ). P line.export line.args (sent_by line) fuel) asks.fuel
    (subst (λ (request : List ℕ). P line.export line.args request call.fuel) asks.request
    (subst (λ (args : List Val). P line.export args call.request.now call.fuel) asks.args
    (subst (λ (export : List ℕ). P export call.args.now call.request.now call.fuel) asks.export h)))
