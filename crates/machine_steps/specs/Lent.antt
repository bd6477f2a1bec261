-- The parts that are lent to a run, as a store.
use Rattle.std.specs.Prelude.{ℕ, List, Option}
use Rattle.wasm_values.specs.declared.outcome.Val.{Val}
use Rattle.wasm_spec.specs.Store.{Store}
use Rattle.linear_memory.specs.declared.memory.Memory.{Memory}
use Rattle.linear_memory.specs.Bytes.{shown}

-- the store with this memory, and with this answer
abbrev pub memory_set : List ℕ → Store → Store
memory_set bytes store = record store { memory = bytes }

abbrev pub answer_set : List ℕ → Store → Store
answer_set bytes store = record store { answer = bytes }

abbrev pub store_of : Memory → List (Option ℕ) → List Val → List ℕ → Store
store_of memory table globals answer = record { memory = shown memory; table = table; globals = globals; answer = answer }
