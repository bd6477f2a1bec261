-- A memory that lies in a slot, lent to a run.
use Rattle.std.specs.Prelude.{ℕ, ◌*◌, ◌≤◌, List, Option, take, count_by}
use Rattle.wasm_values.specs.declared.outcome.Val.{Val}
use Rattle.wasm_types.specs.declared.module.Module.{Module}
use Rattle.wasm_types.specs.Tree.{module_tree}
use Rattle.wasm_spec.specs.Execution.{Terms}
use Rattle.wasm_spec.specs.Result.{CallResult, function_result}
use Rattle.wasm_spec.specs.Store.{Store, page_size}
use Rattle.wasm_machine.specs.declared.invocation.RunEnd.{RunEnd}
use Rattle.wasm_machine.specs.Lent.{own}
use Rattle.wasm_machine.specs.Room.{StacksView}
use Rattle.paused_call.specs.declared.call.PausedCall.{PausedCall}
use Rattle.paused_call.specs.Standing.{CanResume, Stands}
use Rattle.pool_model.specs.Contents.{Named, MemoryContents, Contents}
use Rattle.pool_model.specs.declared.kinds.Kind.{Kind}
use Rattle.pool_model.specs.declared.kinds.Kind.TheVariants.{Instance, Memory, Table}
use Rattle.pool_model.specs.Worlds.{IsZeroPast}

-- it has at most so many pages, and zeros past its size
pub record IsReady (most : ℕ) (x : MemoryContents) : Type 0 where
  pub size : x.pages ≤ most
  pub zeros : IsZeroPast x

abbrev pub dirty_blocks : MemoryContents → ℕ
dirty_blocks x = count_by (λ marked. marked) x.marks

-- the store of a run of the module on this memory, a table, globals and an answer
abbrev pub store_in : Module → MemoryContents → List (Option ℕ) → List Val → List ℕ → Store
store_in m x table globals answer = record { memory = take (x.pages * page_size) x.bytes; table = table; globals = own m globals; answer = answer }

-- what is lent to a run: the contents of a memory, a table, globals and an answer
pub record Lent : Type 0 where
  pub memory : MemoryContents
  pub table : List (Option ℕ)
  pub globals : List Val
  pub answer : List ℕ

abbrev pub lent : MemoryContents → List (Option ℕ) → List Val → List ℕ → Lent
lent x table globals answer = record { memory = x; table = table; globals = globals; answer = answer }

-- the store of a run of the module on what is lent
abbrev pub store_on : Module → Lent → Store
store_on m l = store_in m l.memory l.table l.globals l.answer

-- what a function of the module comes to on each fuel, where this is lent to it
abbrev pub result_on : Module → Terms → (function : ℕ) → (args : List Val) → Lent → ℕ → Option CallResult
result_on m limits function args l = function_result (module_tree m) limits function args (store_on m l)

-- the end of a run that leaves this
abbrev pub end_on : Module → Lent → RunEnd → CallResult
end_on m l end = record { outcome = end.outcome; store = store_on m l; fuel = end.left }

-- where a paused call of the module stands, with this lent to it
abbrev pub StandsOn : Module → Terms → (begun : Store) → (args : List Val) → PausedCall → StacksView → Lent → Type 0
StandsOn m limits begun args call stacks l = Stands m limits begun args call stacks (store_on m l)

-- some call stands there
abbrev pub CanResumeOn : Module → Terms → (args : List Val) → PausedCall → StacksView → Lent → Type 0
CanResumeOn m limits args call stacks l = CanResume m limits args call stacks (store_on m l)

-- these, as the contents of a call's slots, where the table belongs to this module
abbrev pub parts : MemoryContents → Option Named → List (Option ℕ) → List Val → (k : Kind) → Contents k
parts x owner table globals Instance = globals
parts x owner table globals Memory = x
parts x owner table globals Table = record { entries = table; holds = owner }
