-- A call prefers the slots of its module, and found the slots of a full kind held.
use Rattle.std.proofs.Common.{◌≡◌, ℕ, List, subst}
use Rattle.slot_words.specs.declared.views.Operation.{Operation}
use Rattle.slot_words.specs.Parts.{Grew, Then}
use Rattle.slot_pools.specs.LastClaims.{EndsWithClaim}
use Rattle.slot_pools.specs.Preferring.{PrefersOwn}
use Rattle.pool_host.specs.Preferring.{IsServedOwn}
use Rattle.pool_host.specs.Visits.{Adds, Served, Visit}

module _ (IsTake : ℕ → ℕ → List Operation → Type 0) (IsGive : ℕ → List Operation → Type 0) (IsFullTake : List Operation → Type 0) (slots tag : ℕ)
    (prefers : (n read : ℕ) (done : List Operation) → IsTake n read done → PrefersOwn slots tag n done)
    (ends : (n read : ℕ) (done : List Operation) → IsTake n read done → EndsWithClaim n read done) where
  pub served_own : (v : Visit) (t u : List Operation) → Grew (Adds IsTake IsGive IsFullTake v) t u → v ≡ Served → Grew (IsServedOwn slots tag IsGive) t u
  served_own v t u grew is =
      let P : Visit → Type 0 = λ w. Adds IsTake IsGive IsFullTake w grew.done in
      let adds : (number : ℕ) × (read : ℕ) × Then (IsTake number read) (IsGive number) grew.done = subst P is grew.is in
      let both = adds.2 in record {
        done = grew.done;
        grown = grew.grown;
        is = (
          adds.0,
          adds.1,
          record {
            first = both.first;
            second = both.second;
            done_is = both.done_is;
            is_first = (prefers adds.0 adds.1 both.first both.is_first, ends adds.0 adds.1 both.first both.is_first);
            is_second = both.is_second;
          },
        );
      }

-- what holds of all that a trail grew by
pub grew_as : (P Q : List Operation → Type 0) (t u : List Operation) → ((done : List Operation) → P done → Q done) → Grew P t u → Grew Q t u
grew_as P Q t u implies grew = record { done = grew.done; grown = grew.grown; is = implies grew.done grew.is }
