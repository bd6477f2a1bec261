-- What every table in a slot keeps.
use Rattle.std.specs.Prelude.{◌≡◌, ℕ, ◌≤◌, List, Option, length, take}
use Rattle.pool_limits.specs.declared.numbers.Numbers.{Numbers}
use Rattle.pool_model.specs.Contents.{Named, table_image}

-- at most the configured elements, of which so many are the table's: those of its own module
pub record IsKeptTable (config : Numbers) (entries : List (Option ℕ)) (count : ℕ) (holds : Option Named) : Type 0 where
  pub room : length entries ≤ config.elements
  pub size : count ≤ length entries
  pub image : take count entries ≡ table_image holds
