-- What contracts see of a ticket, and what every ticket keeps.
use Rattle.std.specs.Prelude.{◌≡◌, ◌<◌, ◌≤◌, ℕ, List, length}
use Rattle.wasm_values.specs.declared.outcome.Val.{Val}
use Rattle.linear_memory.specs.declared.memory.Memory.{Memory}
use Rattle.linear_memory.specs.Bytes.{IsMemory}
use Rattle.wasm_machine.specs.Room.{StacksView}
use Rattle.pool_limits.specs.declared.over.TheConstants.{MOST_GLOBALS}
use Rattle.pool_limits.specs.declared.numbers.Numbers.{Numbers}

-- its globals, the arguments of a call that is paused on it, and its stacks
pub record TicketView : Type 0 where
  pub globals : List Val
  pub args : List Val
  pub stacks : StacksView

-- as many globals as a module may have, room for the arguments of any call, stacks of the configured depth and frame, and a memory of
-- no bytes
pub record IsTicket (config : Numbers) (globals : List Val) (args_room : ℕ) (stacks : StacksView) (memory : Memory) : Type 0 where
  pub globals_are : length globals ≡ MOST_GLOBALS
  -- an own function's arguments are part of its frame, and an import has at most three
  pub args_fit : config.frame ≤ args_room
  pub imports_fit : 3 ≤ args_room
  pub stacks_are : stacks.room ≡ record { depth = config.depth; frame = config.frame }
  pub deep : 0 < config.depth
  pub memory_is : IsMemory 0 memory
  pub no_bytes : length memory.bytes.items ≡ 0
