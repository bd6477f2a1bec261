-- Histories worked by hand: what seats note, and what is counted as one closes.
use Rattle.std.specs.Prelude.{◌≡◌, List, [], ◌∷◌}
use Rattle.pool_core.specs.declared.words.State.TheVariants.{Warm}
use Rattle.pool_core.specs.declared.words.Target.{Target}
use Rattle.pool_core.specs.declared.events.Event.{Event}
use Rattle.pool_core.specs.declared.events.Event.TheVariants as event
use Rattle.pool_core.specs.PoolCore.{PoolCore, opening_core}
use Rattle.pool_core.specs.Runs.{AllAllowed}
use Rattle.slot_words.specs.declared.views.Operation.TheVariants as operation
use Rattle.slot_words.specs.Closing.{ClosesAs}
use Rattle.slot_words.specs.History.{trail_of}

-- three slots of which two may be warm, and two seats
abbrev pub worked_opening : PoolCore
worked_opening = opening_core 3 2 2

abbrev pub warm_for_5 : Target
warm_for_5 = record { state = Warm; tag = 5; stamp = 0 }

-- a slot is claimed by seat 1, each count is moved and read, and the slot is given back warm and read
abbrev pub each_operation : List Event
each_operation = event.Split 0 1 ∷ event.Claim 1 2 ∷ event.Stamp 1 ∷ event.Stamp 1 ∷ event.AwaitUp 1 ∷ event.AwaitLoad 1 ∷ event.AwaitDown 1 ∷ event.WarmUp 1 ∷ event.WarmLoad 1 ∷ event.WarmDown 1 ∷ event.WarmUp 1
    ∷ event.Release 1 2 warm_for_5 ∷ event.Load 1 2 ∷ event.Claim 0 2 ∷ event.Claim 1 2 ∷ []

pub record AreWorked : Type 0 where
  pub allowed : AllAllowed worked_opening each_operation
  pub own : trail_of 1 worked_opening each_operation ≡ operation.Claim 2 0 ∷ operation.Stamp 0 ∷ operation.Stamp 1 ∷ operation.AwaitUp 0 ∷ operation.AwaitLoad 1 ∷ operation.AwaitDown 1
      ∷ operation.WarmUp 0 ∷ operation.WarmLoad 1 ∷ operation.WarmDown 1 ∷ operation.WarmUp 0 ∷ operation.Release 2 42 ∷ operation.Load 2 42 ∷ operation.Claim 2 43 ∷ []
  pub other : trail_of 0 worked_opening each_operation ≡ operation.Claim 2 42 ∷ []
  -- a pass claims the one slot and is dropped: another finds the slot held, and as this one closes, it is counted as held
  pub dropped : ClosesAs 1 0 2 1 (record { seat = 0; trail = operation.Claim 0 1 ∷ [] } ∷ []) record { cold = 0; warm = 0; awaiting = 0; held = 1 }
  -- a pass claims it and gives it back, and is joined into another, which then reads it
  pub joined : ClosesAs 1 0 2 2 (record { seat = 0; trail = operation.Load 0 0 ∷ [] } ∷ record { seat = 1; trail = operation.Claim 0 0 ∷ operation.Release 0 0 ∷ [] } ∷ []) record { cold = 1; warm = 0; awaiting = 0; held = 0 }
