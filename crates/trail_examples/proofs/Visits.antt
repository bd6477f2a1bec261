-- Calls at a pool of one slot that is handed to any module: what they add to a trail.
use Rattle.std.proofs.Common.{◌≡◌, inl, ◌+◌, true, false, List, [], ◌∷◌, count_by, refl, ap, ◌∙◌, arith}
use Rattle.slot_words.specs.declared.views.Operation.{Operation}
use Rattle.slot_words.specs.declared.views.Operation.TheVariants.{Claim, Load, Release}
use Rattle.slot_words.specs.Accounts.{is_release}
use Rattle.slot_words.specs.Passes.{share_of, Pass}
use Rattle.slot_pools.specs.Gives.{IsColdGive}
use Rattle.slot_pools.specs.declared.policy.Policy.TheVariants.{Any}
use Rattle.slot_pools.specs.Takes.{IsTake, IsFullTake}
use Rattle.pool_host.specs.Visits.{Adds, IsTurnedAway, None, Served}
use Rattle.trail_examples.proofs.LostClaims.{counted}
use Rattle.trail_examples.proofs.Settling.{cold_needs_nothing}
use Rattle.trail_examples.proofs.SlotWords.{cold}

abbrev taken : List Operation
taken = Load 0 cold ∷ Claim 0 cold ∷ []

it_is_taken : IsTake Any 0 1 0 cold taken
it_is_taken = (
  0 ∷ [],
  record {
    first = Load 0 cold ∷ [];
    second = Claim 0 cold ∷ [];
    done_is = refl;
    is_first = record { seen = cold ∷ []; all_seen = refl; order_is = refl; done_is = refl };
    is_second = record {
      first = Claim 0 cold ∷ [];
      second = [];
      done_is = refl;
      is_first = inl (record { place = 0; within = omega arith; number_is = refl; lost = []; are_lost = refl; done_is = refl });
      is_second = cold_needs_nothing;
    };
  },
)

served : Adds (IsTake Any 0 1) IsColdGive (IsFullTake Any 0 1) Served (Load 0 cold ∷ Claim 0 cold ∷ Release 0 cold ∷ [])
served = (0, cold, record { first = taken; second = Release 0 cold ∷ []; done_is = refl; is_first = it_is_taken; is_second = refl })

served_and_not_given_back : Adds (IsTake Any 0 1) IsColdGive (IsFullTake Any 0 1) Served taken → ⊥
served_and_not_given_back (n, read, both) =
    let give : count_by is_release both.second ≡ 1 = ap (λ (os : List Operation). count_by is_release os) both.is_second in
    let all : 0 ≡ count_by is_release both.first + count_by is_release both.second = ap (λ (os : List Operation). count_by is_release os) both.done_is ∙ counted is_release both.first both.second in omega arith

takes_what_it_does_not_need : Adds (IsTake Any 0 1) IsColdGive (IsFullTake Any 0 1) None taken → ⊥
takes_what_it_does_not_need e = cc

-- ---- a call that is turned away

module _ {V : Type 0} (before after : Pass V) where
  turned_away_without_need : IsTurnedAway false (IsFullTake Any 0 1) 2 before after → ⊥
  turned_away_without_need away = let e = away.needed_is in cc

  -- a pass that stands for all finds no slot held
  turned_away_by_nobody : share_of before ≡ 2 → IsTurnedAway true (IsFullTake Any 0 1) 2 before after → ⊥
  turned_away_by_nobody all away = let some = away.others in omega arith
