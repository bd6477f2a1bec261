-- Which claim of a take is its last.
use Rattle.std.specs.Prelude.{◌≡◌, ℕ, Bool, true, false, List, ◌∷◌, ◌++◌}
use Rattle.std.specs.List.{All}
use Rattle.slot_words.specs.declared.views.Operation.{Operation}
use Rattle.slot_words.specs.declared.views.Operation.TheVariants.{Claim}
use Rattle.decommit_batch.specs.Settle.{IsSettled}

abbrev pub is_claim : Operation → Bool
is_claim (Claim n read) = true
is_claim o = false

-- The last claim is of number n and read this, and all that follows is what settles it.
pub record EndsWithClaim (n read : ℕ) (done : List Operation) : Type 0 where
  pub before : List Operation
  pub after : List Operation
  pub done_is : done ≡ before ++ (Claim n read ∷ after)
  pub settled : IsSettled read after
  pub no_other : All (λ o. is_claim o ≡ false) after
