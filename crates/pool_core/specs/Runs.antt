-- A pool after a list of events, and where such a list is first refused.
use Rattle.std.specs.Prelude.{◌≡◌, ℕ, ◌<◌, List, [], ◌∷◌, take, slice_get, Some}
use Rattle.pool_core.specs.declared.events.Event.{Event}
use Rattle.pool_core.specs.declared.replays.ReplayFault.{ReplayFault}
use Rattle.pool_core.specs.declared.replays.ReplayFault.TheVariants.{Unlawful, NoMemory}
use Rattle.pool_core.specs.PoolCore.{PoolCore}
use Rattle.pool_core.specs.EventEffects.{core_after}
use Rattle.pool_core.specs.RefusalRules.{refusal_of, number_of}

abbrev pub core_after_all : PoolCore → List Event → PoolCore
core_after_all c [] = c
core_after_all c (e ∷ es) = core_after_all (core_after c e) es

-- no event breaks a rule where it comes
abbrev pub AllAllowed : PoolCore → List Event → Type 0
AllAllowed c [] = Unit {0}
AllAllowed c (e ∷ es) = (refusal_of c e ≡ 0) × AllAllowed (core_after c e) es

-- the pool c refuses the event e by this rule, and names this number
pub record Refuses (c : PoolCore) (e : Event) (rule number : ℕ) : Type 0 where
  pub refused : 0 < rule
  pub least : rule ≡ refusal_of c e
  pub named : number ≡ number_of e

-- the fault says that the event at this place was refused
abbrev pub IsRefusedAt : ℕ → PoolCore → Event → ReplayFault → Type 0
IsRefusedAt place c e (Unlawful at rule number) = (at ≡ place) × Refuses c e rule number
IsRefusedAt place c e NoMemory = ⊥

-- all events before the one at this place are allowed, and that one is refused
abbrev pub IsReplayFault : PoolCore → List Event → ReplayFault → Type 0
IsReplayFault c es (Unlawful at rule number) = AllAllowed c (take at es) × ((e : Event) × (slice_get es at ≡ Some e) × Refuses (core_after_all c (take at es)) e rule number)
IsReplayFault c es NoMemory = Unit {0}
