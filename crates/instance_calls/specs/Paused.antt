-- A call that is paused on the slots of an instance.
use Rattle.std.specs.Prelude.{◌≡◌, ◌≢◌, ℕ, Bool, List, [], Option}
use Rattle.wasm_types.specs.declared.module.Module.{Module}
use Rattle.wasm_types.specs.Tree.{ModuleTree, module_tree}
use Rattle.wasm_spec.specs.Execution.{Terms, terms_of}
use Rattle.wasm_spec.specs.Instances.{room_for}
use Rattle.wasm_spec.specs.Result.{CallResult}
use Rattle.wasm_spec.specs.Store.{Store, fresh_store}
use Rattle.wasm_machine.specs.Calls.{FitsFrame}
use Rattle.pool_limits.specs.declared.numbers.Numbers.{Numbers}
use Rattle.pool_model.specs.Contents.{Contents, MemoryContents, Named}
use Rattle.pool_model.specs.declared.kinds.Kind.{Kind}
use Rattle.pool_model.specs.Runs.{LeavesFrom}
use Rattle.instance_slots.specs.Tickets.{TicketView}
use Rattle.memory_slots.specs.Lent.{IsReady, store_in}
use Rattle.paused_call.specs.declared.call.PausedCall.{PausedCall}
use Rattle.paused_call.specs.Standing.{Stands}
use Rattle.instance_calls.specs.declared.instance.Instance.{Instance}
use Rattle.instance_calls.specs.CallWords.{run_limits}
use Rattle.instance_calls.specs.Instances.{HasParts, bare_store, instance_store}
use Rattle.instance_calls.specs.Parts.{memory_in}

module _ {N : Type 0} where
  -- A call of the module that was sent these bytes and began on a fresh instance is paused on this one. Its slots and what it has
  -- answered so far show the store that its turns left, and nothing past the memory's size.
  pub record IsPausedOn (config : Numbers) (m : Named) (request : List ℕ) (call : PausedCall) (answer : List ℕ) (x : Instance N) : Type 0 where
    pub code : module_tree m.code ≡ m.tree
    pub parts : HasParts m.tree x
    pub frame : FitsFrame m.code config.frame
    pub memory : m.code.memories ≢ [] → IsReady (room_for m.code.memories config.pages) (memory_in x.memory)
    pub stands : Stands m.code (terms_of (run_limits config) request) (fresh_store m.tree) x.ticket.value.args call x.ticket.value.stacks (instance_store m.tree answer x)

-- Turns of a call that comes to `result` on each fuel, from this number of them to that, went from these contents to those.
pub record WentOn (pages : ℕ) (m : ModuleTree) (result : ℕ → Option CallResult) (from to : ℕ) (old new : (k : Kind) → Contents k) : Type 0 where
  pub marks : List Bool
  pub at : CallResult
  pub leaves : LeavesFrom pages m result from to old new marks at

-- A call of the module that began from this store stands on a ticket, a table and what it has answered so far.
module _ (m : Module) (limits : Terms) (begun : Store) (call : PausedCall) (ticket : TicketView) where
  -- and on a memory
  abbrev pub StandsWithMemory : MemoryContents → (table : List (Option ℕ)) → (answer : List ℕ) → Type 0
  StandsWithMemory memory table answer = Stands m limits begun ticket.args call ticket.stacks (store_in m memory table ticket.globals answer)

  -- and its module has no memory
  abbrev pub StandsWithoutMemory : (table : List (Option ℕ)) → (answer : List ℕ) → Type 0
  StandsWithoutMemory table answer = Stands m limits begun ticket.args call ticket.stacks (bare_store m table ticket.globals answer)
