-- A row of marks that is set.
use Rattle.std.proofs.Common.{◌≡◌, ℕ, zero, suc, ◌+◌, ◌<◌, ◌≤◌, List, [], ◌∷◌, ◌++◌, Bool, true, false, length, take, drop, replicate, get_or, refl, ap, arith}

-- the marks after those from `first` on, up to `end`, were set
abbrev pub set_row : (first count end : ℕ) → List Bool → List Bool
set_row first count end xs = take first xs ++ (replicate count true ++ drop end xs)

pub row_before : (first count end : ℕ) (xs : List Bool) (k : ℕ) → end ≡ first + count → end ≤ length xs → k < first → get_or (set_row first count end xs) k false ≡ get_or xs k false
row_before zero count end xs k e h l = absurd (omega arith)
row_before (suc first) count zero xs k e h l = absurd (omega arith)
row_before (suc first) count (suc end) [] k e h l = absurd (omega arith)
row_before (suc first) count (suc end) (x ∷ xs) zero e h l = refl
row_before (suc first) count (suc end) (x ∷ xs) (suc k) e h l = row_before first count end xs k (omega arith) (omega arith) (omega arith)

pub row_after : (first count end : ℕ) (xs : List Bool) (k : ℕ) → end ≡ first + count → end ≤ length xs → end ≤ k → get_or (set_row first count end xs) k false ≡ get_or xs k false
row_after zero zero zero xs k e h l = refl
row_after zero zero (suc end) xs k e h l = absurd (omega arith)
row_after zero (suc count) zero xs k e h l = absurd (omega arith)
row_after zero (suc count) (suc end) [] k e h l = absurd (omega arith)
row_after zero (suc count) (suc end) (x ∷ xs) zero e h l = absurd (omega arith)
row_after zero (suc count) (suc end) (x ∷ xs) (suc k) e h l = row_after zero count end xs k (omega arith) (omega arith) (omega arith)
row_after (suc first) count zero xs k e h l = absurd (omega arith)
row_after (suc first) count (suc end) [] k e h l = absurd (omega arith)
row_after (suc first) count (suc end) (x ∷ xs) zero e h l = absurd (omega arith)
row_after (suc first) count (suc end) (x ∷ xs) (suc k) e h l = row_after first count end xs k (omega arith) (omega arith) (omega arith)

pub length-row : (first count end : ℕ) (xs : List Bool) → end ≡ first + count → end ≤ length xs → length (set_row first count end xs) ≡ length xs
length-row zero zero zero xs e h = refl
length-row zero zero (suc end) xs e h = absurd (omega arith)
length-row zero (suc count) zero xs e h = absurd (omega arith)
length-row zero (suc count) (suc end) [] e h = absurd (omega arith)
length-row zero (suc count) (suc end) (x ∷ xs) e h = ap suc (length-row zero count end xs (omega arith) (omega arith))
length-row (suc first) count zero xs e h = absurd (omega arith)
length-row (suc first) count (suc end) [] e h = absurd (omega arith)
length-row (suc first) count (suc end) (x ∷ xs) e h = ap suc (length-row first count end xs (omega arith) (omega arith))
