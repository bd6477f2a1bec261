-- A call that is paused on an instance, as it is seen, and what a slice makes of it.
use Rattle.std.specs.Prelude.{ℕ, List, [], Option}
use Rattle.wasm_spec.specs.Result.{CallResult}
use Rattle.pool_limits.specs.declared.numbers.Numbers.{Numbers}
use Rattle.pool_model.specs.Contents.{Named}
use Rattle.paused_call.specs.declared.call.PausedCall.{PausedCall}
use Rattle.instance_calls.specs.declared.instance.Instance.{Instance}
use Rattle.instance_calls.specs.CallWords.{MayCall, comes_of}
use Rattle.instance_calls.specs.Parts.{BelongsTo, memory_in, memory_slot, table_in, table_slot, ticket_slot}
use Rattle.instance_calls.specs.Paused.{IsPausedOn}
use Rattle.instance_calls.specs.PausedViews.{PausedView}

module _ {N : Type 0} where
  abbrev pub paused_view : Instance N → Named → PausedCall → (answer : List ℕ) → PausedView
  paused_view x m call answer = record {
    ticket = ticket_slot x.ticket;
    memory = memory_slot x.memory;
    table = table_slot x.table;
    named = m;
    call = call;
    args = x.ticket.value.args;
    globals = x.ticket.value.globals;
    bytes = memory_in x.memory;
    entries = table_in x.table;
    answer = answer;
  }

  -- The call began on a fresh instance, whose contents belong to its module, and may be made. It is sent no bytes.
  pub record IsPausedInstance (config : Numbers) (x : Instance N) (m : Named) (call : PausedCall) (answer : List ℕ) : Type 0 where
    pub paused : IsPausedOn config m [] call answer x
    pub memory_belongs : BelongsTo m (memory_slot x.memory)
    pub table_belongs : BelongsTo m (table_slot x.table)
    pub export : List ℕ
    pub may : MayCall m.tree export call.function x.ticket.value.args

-- what the call comes to on each fuel: what it gives a fresh instance
abbrev pub comes_to : Numbers → PausedView → ℕ → Option CallResult
comes_to config v = comes_of config v.named.tree [] v.call.function v.args
