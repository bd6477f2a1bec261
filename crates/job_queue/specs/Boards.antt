-- What a board has of a number. Its numbers are 1 to its length.
use Rattle.std.specs.Prelude.{◌≡◌, ℕ, ◌-◌, ◌<◌, ◌≤◌, ◌⊎◌, List, length, slice_index_or, Option, None, IsSome, IsNone}
use Rattle.report_text.specs.declared.report.CallLine.{CallLine}

abbrev pub IsStranger : List (Option CallLine) → ℕ → Type 0
IsStranger lines number = (number ≡ 0) ⊎ (length lines < number)

-- a line stands at the number
pub record IsCollected (lines : List (Option CallLine)) (number : ℕ) : Type 0 where
  pub above : 0 < number
  pub within : number ≤ length lines
  pub stands : IsSome (slice_index_or lines (number - 1) None)

-- the number is one of the board's, and no line stands at it
pub record IsOpen (lines : List (Option CallLine)) (number : ℕ) : Type 0 where
  pub above : 0 < number
  pub within : number ≤ length lines
  pub free : IsNone (slice_index_or lines (number - 1) None)
