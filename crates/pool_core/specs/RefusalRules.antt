-- Which events a pool refuses, and by which of eight rules. An event is refused by the least rule that it breaks.
use Rattle.std.specs.Prelude.{◌≡◌, ℕ, ◌==◌, ◌<◌, Bool, true, false, not, cond, ltb, ◌&&◌, ◌||◌, is_none, [], ◌∷◌, length, slice_index_or}
use Rattle.pool_core.specs.declared.events.Event.{Event}
use Rattle.pool_core.specs.declared.events.Event.TheVariants.{Load, Claim, Out, Home, Release, Split, Join, Close, WarmLoad, WarmUp, WarmDown, Stamp, AwaitUp, AwaitDown, AwaitLoad}
use Rattle.pool_core.specs.StateWords.{is_warm, is_awaiting, is_well_formed}
use Rattle.pool_core.specs.PoolCore.{PoolCore, seat_at, is_live, is_unmade, is_idle, is_holding}

-- the seat that makes the event
abbrev pub seat_of : Event → ℕ
seat_of (Load s n) = s
seat_of (Claim s n) = s
seat_of (Out s n) = s
seat_of (Home s n) = s
seat_of (Release s n to) = s
seat_of (Split s t) = s
seat_of (Join s t) = s
seat_of (Close s) = s
seat_of (WarmLoad s) = s
seat_of (WarmUp s) = s
seat_of (WarmDown s) = s
seat_of (Stamp s) = s
seat_of (AwaitUp s) = s
seat_of (AwaitDown s) = s
seat_of (AwaitLoad s) = s

-- the slot that the event names, or its seat where it names none
abbrev pub number_of : Event → ℕ
number_of (Load s n) = n
number_of (Claim s n) = n
number_of (Out s n) = n
number_of (Home s n) = n
number_of (Release s n to) = n
number_of e = seat_of e

-- rule 1: a named seat is not live; the new seat of a split is past the last or was live before; a join names one seat twice
abbrev pub breaks_seat_rule : PoolCore → Event → Bool
breaks_seat_rule c (Split s t) = not (is_live (seat_at c s).stage) || not (ltb t (length c.seats)) || not (is_unmade (seat_at c t).stage)
breaks_seat_rule c (Join s t) = not (is_live (seat_at c s).stage) || not (is_live (seat_at c t).stage) || (s == t)
breaks_seat_rule c e = not (is_live (seat_at c (seat_of e)).stage)

-- rule 2: there is no such slot
abbrev pub breaks_slot_rule : PoolCore → Event → Bool
breaks_slot_rule c (Load s n) = not (ltb n (length c.words))
breaks_slot_rule c (Claim s n) = not (ltb n (length c.words))
breaks_slot_rule c (Out s n) = not (ltb n (length c.words))
breaks_slot_rule c (Home s n) = not (ltb n (length c.words))
breaks_slot_rule c (Release s n to) = not (ltb n (length c.words))
breaks_slot_rule c e = false

-- rule 3: a named live seat is not idle
abbrev pub breaks_idle_rule : PoolCore → Event → Bool
breaks_idle_rule c (Claim s n) = not (is_idle (seat_at c s))
breaks_idle_rule c (Split s t) = not (is_idle (seat_at c s))
breaks_idle_rule c (Join s t) = not (is_idle (seat_at c s)) || not (is_idle (seat_at c t))
breaks_idle_rule c (Close s) = not (is_idle (seat_at c s))
breaks_idle_rule c e = false

-- rule 4: the seat does not hold that slot, or for an event that names none, any slot
abbrev pub breaks_holder_rule : PoolCore → Event → Bool
breaks_holder_rule c (Out s n) = not (is_holding (seat_at c s).holds n)
breaks_holder_rule c (Home s n) = not (is_holding (seat_at c s).holds n)
breaks_holder_rule c (Release s n to) = not (is_holding (seat_at c s).holds n)
breaks_holder_rule c (WarmUp s) = is_none (seat_at c s).holds
breaks_holder_rule c (WarmDown s) = is_none (seat_at c s).holds
breaks_holder_rule c (Stamp s) = is_none (seat_at c s).holds
breaks_holder_rule c (AwaitUp s) = is_none (seat_at c s).holds
breaks_holder_rule c (AwaitDown s) = is_none (seat_at c s).holds
breaks_holder_rule c e = false

-- rule 5: the value is not where the event needs it
abbrev pub breaks_place_rule : PoolCore → Event → Bool
breaks_place_rule c (Out s n) = (seat_at c s).out
breaks_place_rule c (Home s n) = not (seat_at c s).out
breaks_place_rule c (Release s n to) = (seat_at c s).out
breaks_place_rule c e = false

-- rule 6: a permit, refusal or await mark that is needed is not there
abbrev pub breaks_need_rule : PoolCore → Event → Bool
breaks_need_rule c (Release s n to) = (is_warm to.state && not (seat_at c s).permit) || (is_awaiting to.state && not (seat_at c s).mark)
breaks_need_rule c (WarmDown s) = not ((seat_at c s).permit || (seat_at c s).refusal)
breaks_need_rule c (AwaitDown s) = not (seat_at c s).mark
breaks_need_rule c e = false

-- rule 7: a permit, refusal or await mark is there that must not be; after a release none may remain
abbrev pub breaks_excess_rule : PoolCore → Event → Bool
breaks_excess_rule c (Release s n to) = (seat_at c s).refusal || ((seat_at c s).permit && not (is_warm to.state)) || ((seat_at c s).mark && not (is_awaiting to.state))
breaks_excess_rule c (WarmUp s) = (seat_at c s).permit || (seat_at c s).refusal
breaks_excess_rule c (AwaitUp s) = (seat_at c s).mark
breaks_excess_rule c e = false

-- rule 8: no word says what the slot is released to
abbrev pub breaks_target_rule : PoolCore → Event → Bool
breaks_target_rule c (Release s n to) = not (is_well_formed to)
breaks_target_rule c e = false

-- the least rule that the event breaks, or 0 where it breaks none
abbrev pub refusal_of : PoolCore → Event → ℕ
refusal_of c e =
    cond (breaks_seat_rule c e) 1 (cond (breaks_slot_rule c e) 2 (cond (breaks_idle_rule c e) 3 (cond (breaks_holder_rule c e) 4
    (cond (breaks_place_rule c e) 5 (cond (breaks_need_rule c e) 6 (cond (breaks_excess_rule c e) 7 (cond (breaks_target_rule c e) 8 0)))))))

-- rule 0 is none, and the others stand in their order
abbrev pub breaks_rule : PoolCore → Event → ℕ → Bool
breaks_rule c e r = slice_index_or (false ∷ breaks_seat_rule c e ∷ breaks_slot_rule c e ∷ breaks_idle_rule c e ∷ breaks_holder_rule c e
    ∷ breaks_place_rule c e ∷ breaks_need_rule c e ∷ breaks_excess_rule c e ∷ breaks_target_rule c e ∷ []) r false

-- the event breaks rule r and no lesser one, or r is 0 and it breaks none
pub record IsLeastRule (c : PoolCore) (e : Event) (r : ℕ) : Type 0 where
  pub broken : 0 < r → breaks_rule c e r ≡ true
  pub least : (k : ℕ) → k < r → breaks_rule c e k ≡ false
  pub none : r ≡ 0 → (k : ℕ) → breaks_rule c e k ≡ false
