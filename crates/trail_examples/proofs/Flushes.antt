-- Flushes of one slot.
use Rattle.std.proofs.Common.{◌≡◌, ℕ, Bool, true, false, MatchBool, List, [], ◌∷◌, refl, sym, ap, ◌∙◌}
use Rattle.pool_core.specs.declared.words.StateWord.{StateWord}
use Rattle.pool_core.specs.StateWords.{unpacked, IsWordOf}
use Rattle.pool_core.proofs.WordBits.{bits_say_the_word}
use Rattle.slot_words.specs.declared.views.Operation.{Operation}
use Rattle.slot_words.specs.declared.views.Operation.TheVariants.{AwaitDown, Claim, Load, Release, WarmDown, WarmUp}
use Rattle.decommit_batch.specs.Flush.{IsDecommit, IsFlush, IsFlushPart, IsTried}
use Rattle.trail_examples.proofs.FirstSteps.{of_others, one_or_more, one_two_or_more, part_of_one}
use Rattle.trail_examples.proofs.SlotWords.{awaiting_5, cold, warm_5}

-- a slot that awaits is restored by a permit, and else cleared
abbrev pub restored : List Operation
restored = Load 0 awaiting_5 ∷ Claim 0 awaiting_5 ∷ AwaitDown 1 ∷ WarmUp 0 ∷ Release 0 warm_5 ∷ []

abbrev cleared : List Operation
cleared = Load 0 awaiting_5 ∷ Claim 0 awaiting_5 ∷ AwaitDown 1 ∷ WarmUp 0 ∷ WarmDown 1 ∷ Release 0 cold ∷ []

abbrev awaits : StateWord
awaits = unpacked awaiting_5

it_is : IsWordOf awaiting_5 awaits
it_is = record { packed_is = refl; well_formed = refl }

pub restores_by_a_permit : IsFlush 1 1 restored
restores_by_a_permit = (_, _, refl, (awaiting_5, awaits, it_is, (_, refl, (awaiting_5, awaits, it_is, (_, refl, (1, 0, refl))))), refl)

clears_at_the_limit : IsFlush 0 1 cleared
clears_at_the_limit = (_, _, refl, (awaiting_5, awaits, it_is, (_, refl, (awaiting_5, awaits, it_is, (_, refl, (1, 0, (1, refl)))))), refl)

-- ---- what no flush is

pub nothing_is_a_flush : (limit : ℕ) → IsFlush limit 1 [] → ⊥
nothing_is_a_flush limit f = let part = part_of_one (IsFlushPart limit) [] f in let e = (one_or_more (IsTried limit 0) [] (Load 0 part.0) _ part.3).1 in cc

-- what a word says that was read as these bits
said : (bits read : ℕ) (w : StateWord) → IsWordOf bits w → bits ≡ read → w ≡ unpacked read
said bits read w is same = sym (bits_say_the_word bits w is) ∙ ap unpacked same

-- what follows the look at a slot that awaits
tried_at : (limit : ℕ) (others : List Operation) → IsFlush limit 1 (Load 0 awaiting_5 ∷ others) → IsTried limit 0 others
tried_at limit others f =
    let part = part_of_one (IsFlushPart limit) _ f in let e = (one_or_more (IsTried limit 0) (Load 0 awaiting_5 ∷ others) (Load 0 part.0) _ part.3).1 in
    let read : part.0 ≡ awaiting_5 = cc in of_others (IsTried limit 0) _ others (rw (said part.0 awaiting_5 part.1 part.2 read, read) at part.3)

awaiting_slot_is_passed_by : IsFlush 1 1 (Load 0 awaiting_5 ∷ []) → ⊥
awaiting_slot_is_passed_by f = let tried = tried_at 1 [] f in let e = (one_two_or_more (IsDecommit 1 0 tried.1.target) [] (Claim 0 tried.0) _ _ _ tried.3).1 in cc

-- what follows the claim that found it awaiting still
decommitted_at : (limit : ℕ) (others : List Operation) → IsTried limit 0 (Claim 0 awaiting_5 ∷ others) → IsDecommit limit 0 awaits.target others
decommitted_at limit others tried =
    let e = (one_two_or_more (IsDecommit limit 0 tried.1.target) (Claim 0 awaiting_5 ∷ others) (Claim 0 tried.0) _ _ _ tried.3).1 in
    let found : tried.0 ≡ awaiting_5 = cc in of_others (IsDecommit limit 0 awaits.target) _ others (rw (said tried.0 awaiting_5 tried.1 tried.2 found, found) at tried.3)

-- the count of warm slots that was read
count_read : (done given refused : List Operation) (b : Bool) (a r : ℕ) → MatchBool b (done ≡ AwaitDown a ∷ WarmUp r ∷ given) ((d : ℕ) × (done ≡ AwaitDown a ∷ WarmUp r ∷ WarmDown d ∷ refused))
    → (others : List Operation) × (done ≡ AwaitDown a ∷ WarmUp r ∷ others)
count_read done given refused true a r e = (given, e)
count_read done given refused false a r (d, e) = (WarmDown d ∷ refused, e)

-- what is refused is followed by what gives the refusal back
no_refusal : (a : ℕ) → ((d : ℕ) × (AwaitDown 1 ∷ WarmUp 0 ∷ Release 0 warm_5 ∷ [] ≡ AwaitDown a ∷ WarmUp 0 ∷ WarmDown d ∷ Release 0 cold ∷ [])) → ⊥
no_refusal a (d, e) = cc

no_permit_at_the_limit : IsDecommit 0 0 awaits.target (AwaitDown 1 ∷ WarmUp 0 ∷ Release 0 warm_5 ∷ []) → ⊥
no_permit_at_the_limit found = let e = (count_read _ _ _ _ found.0 found.1 found.2).1 in let read : found.1 ≡ 0 = cc in no_refusal found.0 (rw read at found.2)

restores_at_the_limit : IsFlush 0 1 restored → ⊥
restores_at_the_limit f = no_permit_at_the_limit (decommitted_at 0 _ (tried_at 0 _ f))

no_refusal_below_the_limit : IsDecommit 1 0 awaits.target (AwaitDown 1 ∷ WarmUp 0 ∷ WarmDown 1 ∷ Release 0 cold ∷ []) → ⊥
no_refusal_below_the_limit found = let e = (count_read _ _ _ _ found.0 found.1 found.2).1 in let read : found.1 ≡ 0 = cc in let given = rw read at found.2 in cc

clears_below_the_limit : IsFlush 1 1 cleared → ⊥
clears_below_the_limit f = no_refusal_below_the_limit (decommitted_at 1 _ (tried_at 1 _ f))

-- the mark is given back before the slot is
mark_is_kept : IsFlush 1 1 (Load 0 awaiting_5 ∷ Claim 0 awaiting_5 ∷ WarmUp 0 ∷ Release 0 warm_5 ∷ []) → ⊥
mark_is_kept f = let found = decommitted_at 1 _ (tried_at 1 _ f) in let e = (count_read _ _ _ _ found.0 found.1 found.2).1 in cc
