-- Which store it is.
use Rattle.std.specs.Prelude.{◌≡◌, ℕ}
use Rattle.boxcar.specs.Table.{Shelves}
use Rattle.pool_limits.specs.declared.numbers.Numbers.{Numbers}
use Rattle.module_store.specs.declared.opened.Opened.{Opened}

-- an opened store has this table of modules and these numbers, and may have so many modules
pub record Bears (s : Opened) (shelves : Shelves) (config : Numbers) (most : ℕ) : Type 0 where
  pub shelves_are : s.modules ≡ shelves
  pub config_is : s.config ≡ config
  pub most_is : s.most ≡ most
