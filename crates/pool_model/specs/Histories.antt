-- The pool of each kind, as its own events alone tell it.
use Rattle.std.specs.Prelude.{◌≡◌, List, [], ◌∷◌, if◌then◌else◌}
use Rattle.pool_core.specs.declared.events.Event.{Event}
use Rattle.pool_core.specs.PoolCore.{PoolCore, opening_core}
use Rattle.pool_core.specs.Runs.{core_after_all, AllAllowed}
use Rattle.pool_model.specs.declared.kinds.Kind.{Kind}
use Rattle.pool_model.specs.PoolMachine.{World, Machine, WorldEvent, Step, same_kind, after_all, AllMayHappen, IsOpening}

-- of these events the steps of one kind, in their order
abbrev pub steps_of : Kind → List WorldEvent → List Event
steps_of k [] = []
steps_of k (Step j e ∷ es) = if same_kind j k then e ∷ steps_of k es else steps_of k es
steps_of k (e ∷ es) = steps_of k es

-- the events lead from the first pool to the last, and none is refused where it comes
pub record LeadTo (first : PoolCore) (es : List Event) (last : PoolCore) : Type 0 where
  pub allowed : AllAllowed first es
  pub leads : last ≡ core_after_all first es

-- The steps of one kind, in any list of events from the opening, are a history of that kind's pool from its own opening.
abbrev pub StepsAreHistories : Type 0
StepsAreHistories = (w : World) (p : Machine) (es : List WorldEvent) (opening : IsOpening w p) → AllMayHappen w p es
    → (k : Kind) → LeadTo (opening_core (opening.slots k) (opening.limit k) (opening.passes k)) (steps_of k es) ((after_all w p es).core k)
