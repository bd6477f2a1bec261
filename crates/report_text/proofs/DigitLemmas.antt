-- The digits of lower case.
use Rattle.std.proofs.Common.{◌≡◌, ℕ, zero, suc, ◌+◌, ◌-◌, ◌<◌, ◌==◌, ◌&&◌, Bool, true, inl, inr, refl, sym, slice_index, arith}
use Rattle.std.specs.Prelude.{if◌then◌else◌, nat_lt}
use Rattle.std.proofs.lemmas.Bool.{and_parts, cases_lt, eqb-true}
use Rattle.hex.specs.Hex.{lower_digits}

-- the digit of a value, by whether it is a letter
abbrev pub digit_of : ℕ → ℕ
digit_of v = if nat_lt v 10 then 48 + v else 97 + (v - 10)

-- the test of the first n values, which computes
abbrev all_are : ℕ → Bool
all_are zero = true
all_are (suc n) = (digit_of n == slice_index lower_digits n) && all_are n

all_are-at : (n v : ℕ) → all_are n ≡ true → v < n → digit_of v ≡ slice_index lower_digits v
all_are-at zero v h lt = absurd (omega arith)
all_are-at (suc n) v h lt =
    let parts = and_parts (digit_of n == slice_index lower_digits n) (all_are n) h in
    elim (cases_lt v n) [
      | inl below ↦ all_are-at n v parts.1 below
      | inr top ↦
          let e : v ≡ n = omega arith in
          rw e (eqb-true _ _ parts.0)
    ]

pub digit_is : (v : ℕ) → v < 16 → digit_of v ≡ slice_index lower_digits v
digit_is v lt = all_are-at 16 v refl lt
