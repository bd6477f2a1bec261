-- Gives of slot 0 by the module of tag 5, in a pool of one slot.
use Rattle.std.proofs.Common.{◌≡◌, ℕ, Bool, true, false, MatchBool, List, [], ◌∷◌, ◌++◌, refl, arith}
use Rattle.slot_words.specs.declared.views.Operation.{Operation}
use Rattle.slot_words.specs.declared.views.Operation.TheVariants.{AwaitUp, Release, Stamp, WarmDown, WarmUp}
use Rattle.decommit_batch.specs.HandIn.{FlushesAt, IsHandIn, WaitsAt}
use Rattle.slot_pools.specs.Gives.{IsColdGive, IsWarmGive}
use Rattle.trail_examples.proofs.Flushes.{nothing_is_a_flush, restored, restores_by_a_permit}
use Rattle.trail_examples.proofs.SlotWords.{awaiting_5, cold, warm_5}

-- ---- cold

given_cold : IsColdGive 0 (Release 0 cold ∷ [])
given_cold = refl

given_warm_as_cold : IsColdGive 0 (Release 0 warm_5 ∷ []) → ⊥
given_warm_as_cold e = let same : ◌≡◌ {A = ℕ} warm_5 cold = cc in omega (arith, same)

-- ---- warm, of which one slot may be

given_warm : IsWarmGive 1 0 5 (WarmUp 0 ∷ Stamp 0 ∷ Release 0 warm_5 ∷ [])
given_warm = (0, (0, refl))

given_cold_at_the_limit : IsWarmGive 1 0 5 (WarmUp 1 ∷ WarmDown 2 ∷ Release 0 cold ∷ [])
given_cold_at_the_limit = (1, (2, refl))

-- the count of warm slots that was read
count_read : (done : List Operation) (r : ℕ) (given : ℕ → List Operation) (refused : List Operation) (b : Bool) → MatchBool b ((s : ℕ) × (done ≡ WarmUp r ∷ given s)) ((d : ℕ) × (done ≡ WarmUp r ∷ WarmDown d ∷ refused))
    → (others : List Operation) × (done ≡ WarmUp r ∷ others)
count_read done r given refused true (s, e) = (given s, e)
count_read done r given refused false (d, e) = (WarmDown d ∷ refused, e)

given_warm_at_the_limit : IsWarmGive 1 0 5 (WarmUp 1 ∷ Stamp 0 ∷ Release 0 warm_5 ∷ []) → ⊥
given_warm_at_the_limit give = let e = (count_read _ give.0 _ _ _ give.1).1 in let read : give.0 ≡ 1 = cc in let (d, refused) = rw read at give.1 in cc

refusal_is_kept : IsWarmGive 1 0 5 (WarmUp 1 ∷ Release 0 cold ∷ []) → ⊥
refusal_is_kept give = let e = (count_read _ give.0 _ _ _ give.1).1 in let read : give.0 ≡ 1 = cc in let (d, refused) = rw read at give.1 in cc

given_without_a_stamp : IsWarmGive 1 0 5 (WarmUp 0 ∷ Release 0 warm_5 ∷ []) → ⊥
given_without_a_stamp give = let e = (count_read _ give.0 _ _ _ give.1).1 in let read : give.0 ≡ 0 = cc in let (s, given) = rw read at give.1 in cc

-- ---- awaiting

abbrev handed_in : List Operation
handed_in = AwaitUp 0 ∷ Stamp 0 ∷ Release 0 awaiting_5 ∷ []

waits_for_a_second : IsHandIn 1 1 0 5 2 handed_in
waits_for_a_second = (0, 0, [], refl, refl)

flushes_a_batch_of_one : IsHandIn 1 1 0 5 1 (handed_in ++ restored)
flushes_a_batch_of_one = (0, 0, restored, refl, restores_by_a_permit)

flushes_before_it_counts : IsHandIn 1 1 0 5 1 (restored ++ handed_in) → ⊥
flushes_before_it_counts (a, s, flushed, e, follows) = cc

full_batch_waits : IsHandIn 1 1 0 5 1 handed_in → ⊥
full_batch_waits give = let e = give.3 in let none : give.2 ≡ [] = cc in let read : give.0 ≡ 0 = cc in nothing_is_a_flush 1 (rw (none, read) at give.4)

flushes_before_the_batch_is_full : IsHandIn 1 1 0 5 2 (handed_in ++ restored) → ⊥
flushes_before_the_batch_is_full give = let e = give.3 in let some : give.2 ≡ restored = cc in let read : give.0 ≡ 0 = cc in let none : restored ≡ [] = rw (some, read) at give.4 in cc

-- as the laws of batches say it
batch_of_one_waits : WaitsAt 1 0 → ⊥
batch_of_one_waits waits = let e = waits 1 1 0 5 0 restored flushes_a_batch_of_one in cc

batch_of_two_flushes_at_once : FlushesAt 2 0 → ⊥
batch_of_two_flushes_at_once flushes = nothing_is_a_flush 1 (flushes 1 1 0 5 0 [] waits_for_a_second)
