-- What all stores of one instance have in common.
use Rattle.std.specs.Prelude.{◌≡◌, ℕ, ◌*◌, ◌≤◌, List, [], ◌∷◌, Option, length}
use Rattle.wasm_types.specs.declared.types.Limits.{Limits}
use Rattle.wasm_types.specs.Tree.{ModuleTree}
use Rattle.wasm_spec.specs.Store.{Store, page_size}
use Rattle.wasm_spec.specs.Execution.{most_answer}

-- the most pages that an instance of a module with these memories may have, where a memory may have so many
abbrev pub room_for : List Limits → ℕ → ℕ
room_for [] pages = 0
room_for (limits ∷ _) pages = pages

-- It has this table, a value for each global, and whole pages of memory, no more than so many. Without a memory it has none.
-- Its answer is not too long.
pub record IsInstance (m : ModuleTree) (pages : ℕ) (table : List (Option ℕ)) (s : Store) : Type 0 where
  pub table_is : s.table ≡ table
  pub globals_are : length s.globals ≡ length m.globals
  pub size : ℕ
  pub whole : length s.memory ≡ size * page_size
  pub within : size ≤ room_for m.memories pages
  pub answered : length s.answer ≤ most_answer
