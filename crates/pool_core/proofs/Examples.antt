-- Lists of events, worked by hand: what a wrong line of the table or of the rules would change.
use Rattle.std.proofs.Common.{◌≡◌, true, false, List, [], ◌∷◌, map, refl}
use Rattle.std.specs.Prelude.{Some}
use Rattle.pool_core.specs.declared.events.Event.{Event}
use Rattle.pool_core.specs.declared.events.Event.TheVariants.{AwaitDown, AwaitLoad, AwaitUp, Claim, Close, Home, Join, Load, Out, Release, Split, Stamp, WarmDown, WarmUp}
use Rattle.pool_core.specs.declared.seats.Stage.TheVariants.{Closed, Joined, Live}
use Rattle.pool_core.specs.declared.words.State.TheVariants.{Awaiting, Cold, Warm}
use Rattle.pool_core.specs.declared.words.Target.{Target}
use Rattle.pool_core.specs.StateWords.{cold_target, free_word, is_well_formed, packed, unpacked}
use Rattle.pool_core.specs.PoolCore.{PoolCore, idle_seat, opening_core}
use Rattle.pool_core.specs.RefusalRules.{refusal_of}
use Rattle.pool_core.specs.Runs.{AllAllowed, core_after_all}

abbrev awaiting_5 : Target
awaiting_5 = record { state = Awaiting; tag = 5; stamp = 0 }

abbrev warm_5 : Target
warm_5 = record { state = Warm; tag = 5; stamp = 0 }

-- a slot is used and left awaiting, claimed again, restored and left warm
abbrev visits : List Event
visits = Claim 0 0 ∷ Out 0 0 ∷ AwaitUp 0 ∷ Stamp 0 ∷ Home 0 0 ∷ Release 0 0 awaiting_5 ∷ AwaitLoad 0 ∷ Load 0 0
    ∷ Claim 0 0 ∷ AwaitDown 0 ∷ Out 0 0 ∷ WarmUp 0 ∷ Home 0 0 ∷ Release 0 0 warm_5 ∷ []

visits_are_allowed : AllAllowed (opening_core 1 1 1) visits
visits_are_allowed = (refl, (refl, (refl, (refl, (refl, (refl, (refl, (refl, (refl, (refl, (refl, (refl, (refl, (refl, tt))))))))))))))

visits_leave : core_after_all (opening_core 1 1 1) visits ≡ record { words = free_word warm_5 ∷ []; seats = idle_seat Live ∷ []; warm = 1; awaiting = 0; clock = 1; limit = 1 }
visits_leave = refl

-- in its 64 bits
warm_bits : packed (free_word warm_5) ≡ 42
warm_bits = refl

all_bits : packed (record { target = record { state = Warm; tag = 7; stamp = 12 }; held = true }) ≡ 100663355
all_bits = refl

all_said : unpacked 100663355 ≡ record { target = record { state = Warm; tag = 7; stamp = 12 }; held = true }
all_said = refl

-- the greatest tag and the greatest stamp, and one more of each
abbrev fullest : Target
fullest = record { state = Awaiting; tag = 1048575; stamp = 2199023255551 }

fullest_bits : packed (record { target = fullest; held = true }) ≡ 18446744073709551613
fullest_bits = refl

fullest_said : unpacked 18446744073709551613 ≡ record { target = fullest; held = true }
fullest_said = refl

fitting : map is_well_formed (fullest ∷ record fullest { tag = 1048576 } ∷ record fullest { stamp = 2199023255552 } ∷ record cold_target { tag = 1 } ∷ record cold_target { stamp = 1 } ∷ cold_target ∷ [])
    ≡ true ∷ false ∷ false ∷ false ∷ false ∷ true ∷ []
fitting = refl

-- one seat is split off and joined again, a second claims, and all are closed
abbrev ends : List Event
ends = Split 0 1 ∷ Split 1 2 ∷ Join 0 1 ∷ Claim 2 0 ∷ Close 0 ∷ []

ends_are_allowed : AllAllowed (opening_core 1 0 3) ends
ends_are_allowed = (refl, (refl, (refl, (refl, (refl, tt)))))

ends_leave : core_after_all (opening_core 1 0 3) ends ≡ record {
  words = record { target = cold_target; held = true } ∷ [];
  seats = idle_seat Closed ∷ idle_seat Joined ∷ record (idle_seat Closed) { holds = Some 0 } ∷ [];
  warm = 0;
  awaiting = 0;
  clock = 0;
  limit = 0;
}
ends_leave = refl

-- seat 0 holds slot 0 of two, and seat 1 of three is idle
abbrev busy : PoolCore
busy = core_after_all (opening_core 2 1 3) (Split 0 1 ∷ Claim 0 0 ∷ [])

-- each rule, where it is the least that is broken
refusals : map (refusal_of busy) (Load 2 5 ∷ Split 1 0 ∷ Split 1 3 ∷ Join 1 1
    ∷ Load 0 2 ∷ Claim 0 2
    ∷ Claim 0 1 ∷ Join 1 0 ∷ Close 0
    ∷ Out 0 1 ∷ Release 1 0 warm_5 ∷ Stamp 1 ∷ WarmUp 1
    ∷ Home 0 0
    ∷ Release 0 0 warm_5 ∷ Release 0 0 awaiting_5 ∷ WarmDown 0 ∷ AwaitDown 0
    ∷ Release 0 0 (record { state = Cold; tag = 5; stamp = 0 }) ∷ Release 0 0 cold_target ∷ [])
    ≡ 1 ∷ 1 ∷ 1 ∷ 1 ∷ 2 ∷ 2 ∷ 3 ∷ 3 ∷ 3 ∷ 4 ∷ 4 ∷ 4 ∷ 4 ∷ 5 ∷ 6 ∷ 6 ∷ 6 ∷ 6 ∷ 8 ∷ 0 ∷ []
refusals = refl

-- with a permit or a mark at hand, and at the limit with a refusal
refusals_of_excess : map (refusal_of (core_after_all busy (WarmUp 0 ∷ AwaitUp 0 ∷ []))) (WarmUp 0 ∷ AwaitUp 0 ∷ Release 0 0 warm_5 ∷ Release 0 0 awaiting_5 ∷ Release 0 0 cold_target ∷ []) ≡ 7 ∷ 7 ∷ 7 ∷ 7 ∷ 7 ∷ []
refusals_of_excess = refl

refusal_at_the_limit : refusal_of (core_after_all busy (WarmUp 0 ∷ Claim 1 1 ∷ WarmUp 1 ∷ [])) (Release 1 1 cold_target) ≡ 7
refusal_at_the_limit = refl
