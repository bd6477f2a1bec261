-- How passes that were handed out are shared among views, whatever else a view says.
use Rattle.std.specs.Prelude.{◌≡◌, ℕ, ◌+◌, ◌≤◌, List, length}
use mathlib.Core.Option.{some}
use lib.ListN.{get_elem?}
use Rattle.std.specs.List.{sum_by}

-- each seat that may ever be made has a view, or is still to be split off from one, and the views stand for all passes together
pub record AreShared {W : Type 0} (share unsplit : W → ℕ) (passes : ℕ) (views : List W) : Type 0 where
  pub unsplit_sum : sum_by unsplit views + length views ≡ passes
  pub share_sum : sum_by share views ≡ passes
  -- one view alone splits seats off, and knows how many were made
  pub splits : (j : ℕ) (v : W) → get_elem? views j ≡ some v → 1 ≤ unsplit v → unsplit v + length views ≡ passes
