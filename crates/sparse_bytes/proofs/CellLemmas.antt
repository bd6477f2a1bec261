-- A cell that there is or is not.
use Rattle.std.proofs.Common.{◌≡◌, ℕ, ◌<◌, ◌≤◌, ⊎_elim, List, [], false, replicate, get_or, refl}
use Rattle.std.specs.Prelude.{Option, None, Some, is_some, unwrap_or}
use Rattle.std.proofs.lemmas.Bool.{cases_lt}
use Rattle.std.proofs.lemmas.List.{get_or_past, get_or-replicate}

-- zeros serve for a cell that there is not
pub cell_or_zeros : (cell : Option (List ℕ)) (j : ℕ) → get_or (unwrap_or cell (replicate 64 0)) j 0 ≡ get_or (unwrap_or cell []) j 0
cell_or_zeros None j = ⊎_elim (λ (l : j < 64). get_or-replicate 64 j 0 0 l) (λ (l : 64 ≤ j). get_or_past (replicate 64 0) j 0 l) (cases_lt j 64)
cell_or_zeros (Some bytes) j = refl

pub none_zero : (cell : Option (List ℕ)) (j : ℕ) → is_some cell ≡ false → get_or (unwrap_or cell []) j 0 ≡ 0
none_zero None j e = refl
none_zero (Some bytes) j e = absurd (cc)
