-- What a call of a module runs on.
use Rattle.std.specs.Prelude.{◌≡◌, ◌≢◌, ℕ, List, [], Option, is_some, length, take}
use Rattle.wasm_values.specs.declared.outcome.Val.{Val}
use Rattle.wasm_types.specs.declared.module.Module.{Module}
use Rattle.wasm_types.specs.Tree.{ModuleTree}
use Rattle.machine_steps.specs.Lent.{answer_set}
use Rattle.wasm_spec.specs.Instances.{room_for}
use Rattle.wasm_spec.specs.Store.{Store, fresh_store}
use Rattle.wasm_machine.specs.Lent.{own}
use Rattle.slot_words.specs.declared.leases.Lease.{Lease}
use Rattle.pool_limits.specs.declared.numbers.Numbers.{Numbers}
use Rattle.pool_model.specs.Contents.{Contents, MemoryContents, TableContents, needs, shown_store, shown_memory, shown_table}
use Rattle.pool_model.specs.declared.kinds.Kind.{Kind}
use Rattle.pool_model.specs.declared.kinds.Kind.TheVariants.{Memory, Table}
use Rattle.memory_slots.specs.Left.{lease_left}
use Rattle.memory_slots.specs.Lent.{IsReady, parts}
use Rattle.instance_calls.specs.declared.instance.Instance.{Instance}
use Rattle.instance_calls.specs.declared.left_instance.LeftInstance.{LeftInstance}
use Rattle.instance_calls.specs.Parts.{memory_in, memory_slot, table_in, ticket_slot}

-- the store of a module without a memory in this table, these globals and this answer
abbrev pub bare_store : Module → List (Option ℕ) → List Val → List ℕ → Store
bare_store m table globals answer = record { memory = []; table = table; globals = own m globals; answer = answer }

-- the memory of an instance of the module as it begins, if the module has one
pub record HasFreshMemory (config : Numbers) (m : ModuleTree) (memory : Option (Lease MemoryContents)) : Type 0 where
  pub had : is_some memory ≡ needs Memory m
  pub shown : shown_memory (needs Memory m) (memory_in memory) ≡ (fresh_store m).memory
  pub ready : m.memories ≢ [] → IsReady (room_for m.memories config.pages) (memory_in memory)

-- and its table
pub record IsFreshTable (m : ModuleTree) (table : Option (Lease TableContents)) : Type 0 where
  pub had : is_some table ≡ needs Table m
  pub shown : shown_table (needs Table m) (table_in table) ≡ (fresh_store m).table

module _ {N : Type 0} where
  -- the contents of an instance's slots
  abbrev pub instance_contents : Instance N → (k : Kind) → Contents k
  instance_contents x = parts (memory_in x.memory) (table_in x.table).holds (table_in x.table).entries x.ticket.value.globals

  -- the store that they show to a call of the module which has answered this so far
  abbrev pub instance_store : ModuleTree → (answer : List ℕ) → Instance N → Store
  instance_store m answer x = answer_set answer (shown_store m (instance_contents x))

  -- it has a slot of each kind that the module needs, and no other
  pub record HasParts (m : ModuleTree) (x : Instance N) : Type 0 where
    pub memory : is_some x.memory ≡ needs Memory m
    pub table : is_some x.table ≡ needs Table m

  -- it is one of the module as it begins
  pub record IsFreshInstance (config : Numbers) (m : ModuleTree) (x : Instance N) : Type 0 where
    pub globals : take (length m.globals) x.ticket.value.globals ≡ (fresh_store m).globals
    pub memory : HasFreshMemory config m x.memory
    pub table : IsFreshTable m x.table

  -- it has the slots that it had, and their contents belong to whom they did
  pub record KeepsSlots (x y : Instance N) : Type 0 where
    pub ticket : ticket_slot y.ticket ≡ ticket_slot x.ticket
    pub memory : memory_slot y.memory ≡ memory_slot x.memory
    pub table : y.table ≡ x.table

  -- the instance that a call left
  abbrev pub left_by : LeftInstance N → Instance N
  left_by left = record { ticket = left.ticket; memory = lease_left left.memory; table = left.table }
