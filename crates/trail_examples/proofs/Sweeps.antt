-- Sweeps for the module of tag 5, over one slot.
use Rattle.std.proofs.Common.{◌≡◌, ℕ, Bool, true, false, List, [], ◌∷◌, true≢false, refl, ap, arith}
use Rattle.std.specs.Prelude.{slice_index_or}
use Rattle.pool_core.specs.declared.words.StateWord.{StateWord}
use Rattle.pool_core.specs.StateWords.{cold_word, free_word, is_cold, unpacked}
use Rattle.pool_core.specs.PoolCore.{PoolCore, core_of}
use Rattle.slot_words.specs.declared.views.Operation.{Operation}
use Rattle.slot_words.specs.declared.views.Operation.TheVariants.{AwaitDown, Claim, Load, Release, Stamp, WarmDown}
use Rattle.decommit_batch.specs.Sweep.{is_free_of, IsCleaned, IsCleaningTried, IsSweep, IsSweepPart}
use Rattle.decommit_batch.specs.Swept.{AccountsForSlots}
use Rattle.decommit_batch.specs.SweptPools.{IsSwept}
use Rattle.trail_examples.proofs.FirstSteps.{of_others, one_or_more, one_two_or_more, part_of_one}
use Rattle.trail_examples.proofs.Settling.{by_state}
use Rattle.trail_examples.proofs.SlotWords.{awaiting_5, cold, left_awaiting_5, left_warm_6, warm_5, warm_6}

-- ---- trails

-- an awaiting slot of the module is claimed and released cold
abbrev awaiting_is_cleaned : List Operation
awaiting_is_cleaned = Load 0 awaiting_5 ∷ Claim 0 awaiting_5 ∷ AwaitDown 1 ∷ Release 0 cold ∷ []

-- it is left out
abbrev awaiting_is_left : List Operation
awaiting_is_left = Load 0 awaiting_5 ∷ []

-- a slot of another module is cleared
abbrev another_is_cleared : List Operation
another_is_cleared = Load 0 warm_6 ∷ Claim 0 warm_6 ∷ WarmDown 1 ∷ Release 0 cold ∷ []

-- a slot is cleared that another module had as it was won
abbrev another's_is_cleared : List Operation
another's_is_cleared = Load 0 warm_5 ∷ Claim 0 warm_6 ∷ WarmDown 1 ∷ Release 0 cold ∷ []

-- a slot is cleaned, and its permit is not given back
abbrev permit_is_kept : List Operation
permit_is_kept = Load 0 warm_5 ∷ Claim 0 warm_5 ∷ Release 0 cold ∷ []

-- a slot that was won is kept
abbrev slot_is_kept : List Operation
slot_is_kept = Load 0 warm_5 ∷ Claim 0 warm_5 ∷ WarmDown 1 ∷ []

accounts_for_its_slot : AccountsForSlots 5 1 1 awaiting_is_cleaned
accounts_for_its_slot = record { looked_at = refl; claimed = refl; given = refl; permits = refl; marks = refl; nothing_else = refl; few = omega arith }

not_looking_accounts : AccountsForSlots 5 1 0 [] → ⊥
not_looking_accounts a = let e = a.looked_at in cc

leaving_awaiting_accounts : AccountsForSlots 5 1 0 awaiting_is_left → ⊥
leaving_awaiting_accounts a = let e = a.claimed in cc

clearing_another_accounts : AccountsForSlots 5 1 1 another_is_cleared → ⊥
clearing_another_accounts a = let e = a.claimed in cc

clearing_another's_accounts : AccountsForSlots 5 1 1 another's_is_cleared → ⊥
clearing_another's_accounts a = let zero : ◌≡◌ {A = ℕ} cold warm_6 = let e = a.given in cc in omega (arith, zero)

keeping_a_permit_accounts : AccountsForSlots 5 1 1 permit_is_kept → ⊥
keeping_a_permit_accounts a = let none : ◌≡◌ {A = ℕ} 0 1 = a.permits in omega (arith, none)

keeping_a_slot_accounts : AccountsForSlots 5 1 1 slot_is_kept → ⊥
keeping_a_slot_accounts a = let e = a.given in cc

stamping_accounts : AccountsForSlots 5 1 0 (Load 0 cold ∷ Stamp 0 ∷ []) → ⊥
stamping_accounts a = let e = a.nothing_else in cc

-- ---- the steps that such a trail was made by

-- the word that the look read, and the one that the claim found
look_read : (tag n read : ℕ) (others : List Operation) (part : IsSweepPart tag n (Load n read ∷ others)) → part.0 ≡ read
look_read tag n read others part = let e = (one_or_more (IsCleaningTried tag n) (Load n read ∷ others) (Load n part.0) _ part.1).1 in cc

claim_found : (tag n read : ℕ) (others : List Operation) (tried : IsCleaningTried tag n (Claim n read ∷ others)) → tried.0 ≡ read
claim_found tag n read others tried = let e = (one_two_or_more (IsCleaned n tried.0) (Claim n read ∷ others) (Claim n tried.0) _ _ _ tried.1).1 in cc

leaving_awaiting_is_a_sweep : (cleaned : ℕ) → IsSweep 5 1 cleaned awaiting_is_left → ⊥
leaving_awaiting_is_a_sweep cleaned s =
    let part = part_of_one (IsSweepPart 5) _ s.parts in let tried = of_others (IsCleaningTried 5 0) _ [] (rw (look_read 5 0 awaiting_5 [] part) at part.1) in
    let e = (one_two_or_more (IsCleaned 0 tried.0) [] (Claim 0 tried.0) _ _ _ tried.1).1 in cc

clearing_another_is_a_sweep : (cleaned : ℕ) → IsSweep 5 1 cleaned another_is_cleared → ⊥
clearing_another_is_a_sweep cleaned s = let part = part_of_one (IsSweepPart 5) _ s.parts in let e = rw (look_read 5 0 warm_6 _ part) at part.1 in cc

-- what follows the look at a slot of the module
tried_at : (cleaned read : ℕ) (others : List Operation) → is_free_of 5 (unpacked read) ≡ true → IsSweep 5 1 cleaned (Load 0 read ∷ others) → IsCleaningTried 5 0 others
tried_at cleaned read others free s = let part = part_of_one (IsSweepPart 5) _ s.parts in of_others (IsCleaningTried 5 0) _ others (rw (look_read 5 0 read others part, free) at part.1)

clearing_another's_is_a_sweep : (cleaned : ℕ) → IsSweep 5 1 cleaned another's_is_cleared → ⊥
clearing_another's_is_a_sweep cleaned s = let tried = tried_at cleaned warm_5 _ refl s in let e = rw (claim_found 5 0 warm_6 _ tried) at tried.1 in cc

keeping_a_permit_is_a_sweep : (cleaned : ℕ) → IsSweep 5 1 cleaned permit_is_kept → ⊥
keeping_a_permit_is_a_sweep cleaned s =
    let tried = tried_at cleaned warm_5 _ refl s in let clean = of_others (IsCleaned 0 warm_5) _ _ (rw (claim_found 5 0 warm_5 _ tried) at tried.1) in
    let (r, e) = by_state warm_5 clean.first clean.is_first in let f = clean.done_is in cc

one_too_many_is_told : IsSweep 5 1 2 awaiting_is_cleaned → ⊥
one_too_many_is_told s = let one : ◌≡◌ {A = ℕ} 2 1 = s.cleaned_is in omega (arith, one)

-- ---- pools

abbrev pool_of : StateWord → PoolCore
pool_of w = core_of (w ∷ []) [] 0 0 0 0

abbrev with_awaiting : PoolCore
with_awaiting = pool_of (free_word left_awaiting_5)

abbrev with_another : PoolCore
with_another = pool_of (free_word left_warm_6)

awaiting_slot_is_swept : IsSwept 5 1 with_awaiting (pool_of cold_word)
awaiting_slot_is_swept = record { words_are = refl; cleaned_is = refl }

another's_slot_stays : IsSwept 5 0 with_another with_another
another's_slot_stays = record { words_are = refl; cleaned_is = refl }

abbrev first_is_cold : List StateWord → Bool
first_is_cold ws = is_cold (slice_index_or ws 0 cold_word).target.state

awaiting_slot_stays : IsSwept 5 1 with_awaiting with_awaiting → ⊥
awaiting_slot_stays s = let e : false ≡ true = ap first_is_cold s.words_are in cc

another's_slot_is_swept : IsSwept 5 0 with_another (pool_of cold_word) → ⊥
another's_slot_is_swept s = true≢false (ap first_is_cold s.words_are)

one_is_told_for_none : IsSwept 5 1 with_another with_another → ⊥
one_is_told_for_none s = let one : ◌≡◌ {A = ℕ} 1 0 = s.cleaned_is in omega (arith, one)
