-- What the matches of a subcommand hold, by the id of an option, a flag or an argument.
use Rattle.std.specs.Prelude.{◌≡◌, ◌≤◌, ◌⊎◌, ℕ, Bool, false, List, Option, Some, None, codes}
use Rattle.std.specs.Option.{option_map_or}
use Rattle.std.specs.Str.{bytes_eq}
use Rattle.std.specs.Str.Parse.{IsNumeral, digits_value, without_leading_plus}
use Rattle.clap.specs.Words.{Row, Text, one_of}
use Rattle.pool_limits.specs.declared.numbers.Numbers.{Numbers}

-- the whole number that a text writes in decimal digits, maybe after a plus sign
abbrev pub number_of : Text → ℕ
number_of text = digits_value 10 (without_leading_plus text)

-- the number of an option
abbrev pub number_in : Text → List Row → ℕ
number_in id rows = option_map_or number_of (one_of id rows) 0

-- the numbers of a configuration
abbrev pub numbers_in : List Row → Numbers
numbers_in rows = record {
  workers = number_in (codes "workers") rows;
  instances = number_in (codes "instances") rows;
  memories = number_in (codes "memories") rows;
  tables = number_in (codes "tables") rows;
  warm = number_in (codes "warm") rows;
  batch = number_in (codes "batch") rows;
  pages = number_in (codes "pages") rows;
  elements = number_in (codes "elements") rows;
  depth = number_in (codes "depth") rows;
  frame = number_in (codes "frame") rows;
}

-- whether a flag is set
abbrev pub is_set : Text → List Row → Bool
is_set id rows = option_map_or (λ text. bytes_eq text (codes "true")) (one_of id rows) false

-- there is a text, and it writes a number from `least` to `most`
abbrev pub IsNumberIn : (least most : ℕ) → Option Text → Type 0
IsNumberIn least most None = ⊥
IsNumberIn least most (Some text) =
    IsNumeral 10 (without_leading_plus text) × (least ≤ number_of text) × (number_of text ≤ most)

-- there is a text, and it says whether a flag is set
abbrev pub IsFlag : Option Text → Type 0
IsFlag None = ⊥
IsFlag (Some text) = (text ≡ codes "true") ⊎ (text ≡ codes "false")

-- each option of a configuration has a number of its range
pub record HasNumbers (rows : List Row) : Type 0 where
  pub workers : IsNumberIn 1 16 (one_of (codes "workers") rows)
  pub instances : IsNumberIn 1 1024 (one_of (codes "instances") rows)
  pub memories : IsNumberIn 1 1024 (one_of (codes "memories") rows)
  pub tables : IsNumberIn 1 1024 (one_of (codes "tables") rows)
  pub warm : IsNumberIn 0 1024 (one_of (codes "warm") rows)
  pub batch : IsNumberIn 1 1024 (one_of (codes "batch") rows)
  pub pages : IsNumberIn 1 256 (one_of (codes "pages") rows)
  pub elements : IsNumberIn 0 65536 (one_of (codes "elements") rows)
  pub depth : IsNumberIn 1 1000 (one_of (codes "depth") rows)
  pub frame : IsNumberIn 1 4096 (one_of (codes "frame") rows)

-- so has that of the slices, and the flag is set or not
pub record HasRun (rows : List Row) : Type 0 where
  pub numbers : HasNumbers rows
  pub slice : IsNumberIn 0 4294967295 (one_of (codes "slice") rows)
  pub summary : IsFlag (one_of (codes "summary") rows)

-- each argument of `make` has a number of its range
pub record HasMake (rows : List Row) : Type 0 where
  pub seed : IsNumberIn 0 18446744073709551615 (one_of (codes "seed") rows)
  pub count : IsNumberIn 1 100000 (one_of (codes "count") rows)

-- of the subcommand of this name
abbrev pub IsComplete : Text × List Row → Type 0
IsComplete entered = ((entered.0 ≡ codes "run") × HasRun entered.1) ⊎ ((entered.0 ≡ codes "make") × HasMake entered.1)
