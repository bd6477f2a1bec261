-- Looking a seat or a word up.
use Rattle.std.proofs.Common.{◌≡◌, ℕ, zero, suc, ◌<◌, Bool, true, false, true≢false, List, [], ◌∷◌, length, get_or, refl, sym, ap, ◌∙◌, arith, lt_of_not-le}
use mathlib.Core.Logic.{dite}
use mathlib.Core.Option.{some, some-injective, some-ne-none}
use native.Mathlib.Decide.{dec_le}
use lib.ListN.{get_elem?}
use Rattle.std.specs.Prelude.{Option, Some, None, is_some}
use Rattle.std.proofs.lemmas.List.{get_or_past}
use Rattle.pool_core.specs.declared.seats.Stage.{Stage}
use Rattle.pool_core.specs.declared.seats.Stage.TheVariants.{Live}
use Rattle.pool_core.specs.PoolCore.{is_live, is_away}

module _ {A : Type 0} where
  -- what a place has is what it reads as
  pub found : (l : List A) (i : ℕ) (a d : A) → get_elem? l i ≡ some a → (i < length l) × (get_or l i d ≡ a)
  found [] i a d e = absurd (some-ne-none a (sym e))
  found (x ∷ xs) zero a d e = (omega arith, some-injective x a e)
  found (x ∷ xs) (suc i) a d e = let r = found xs i a d e in let h = r.0 in (omega arith, r.1)

  -- what a test tells from the default is in the list
  pub tested_inside : (test : A → Bool) (d : A) → test d ≡ false → (xs : List A) (i : ℕ) → test (get_or xs i d) ≡ true → i < length xs
  tested_inside test d off xs i on = dite (dec_le (length xs) i) (λ past. absurd (true≢false (sym on ∙ ap test (get_or_past xs i d past) ∙ off))) (λ within. lt_of_not-le within)

-- a live seat is not away
pub live_not_away : (st : Stage) → is_live st ≡ true → is_away st ≡ false
live_not_away Live e = refl
live_not_away st e = absurd (true≢false (sym e))

-- what is not none is a number
pub number_held : (h : Option ℕ) → is_some h ≡ true → (n : ℕ) × (h ≡ Some n)
number_held None e = absurd (true≢false (sym e))
number_held (Some n) e = (n, refl)
