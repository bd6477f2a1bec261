-- What a call is sent, and what its line shows of the bytes that it answered.
use Rattle.std.specs.Prelude.{◌≡◌, ℕ, List, [], Option, None, Some, if◌then◌else◌, unwrap_or}
use Rattle.call_payload.specs.declared.call.Call.{Call}
use Rattle.request_calls.specs.declared.invocation.Invocation.{Invocation}

-- the bytes that a call is sent: none by a `call` line
abbrev pub sent_by : Invocation → List ℕ
sent_by invocation = unwrap_or invocation.request []

-- a line shows all bytes that the call answered, or says nothing of them
abbrev pub shown_of : Invocation → (bytes : List ℕ) → Option (List ℕ)
shown_of invocation bytes = if invocation.shows then Some bytes else None

-- the call asks what the line does
pub record Asks (invocation : Invocation) (call : Call) : Type 0 where
  pub export : call.export.now ≡ invocation.export
  pub args : call.args.now ≡ invocation.args
  pub request : call.request.now ≡ sent_by invocation
  pub fuel : call.fuel ≡ invocation.fuel
