-- Pools of several tenants, each of whom has pools of its own: what its callers see is decided by its own events, and how much of it all is warm.
use Rattle.std.specs.Prelude.{◌≡◌, ℕ, ◌<◌, ◌≤◌, ◌==◌, if◌then◌else◌, List, [], ◌∷◌, ◌++◌, length, slice_index, sum, Option}
use Rattle.std.specs.List.{count_by, range_with_len, sum_by}
use Rattle.wasm_values.specs.declared.outcome.Outcome.{Outcome}
use Rattle.pool_core.specs.StateWords.{packed}
use Rattle.pool_core.specs.Lawful.{is_free_warm}
use Rattle.pool_core.specs.PoolCore.{PoolCore, word_at}
use Rattle.pool_core.specs.declared.events.Event.TheVariants.{Claim}
use Rattle.pool_model.specs.declared.kinds.Kind.{Kind}
use Rattle.pool_model.specs.PoolMachine.{World, Request, Running, Machine, WorldEvent, Step, after, MayHappen, IsOpening}
use Rattle.pool_model.specs.Worlds.{answered, OfBoth, SameToCaller}

-- an event of one tenant's passes
pub record TenantEvent : Type 0 where
  pub tenant : ℕ
  pub event : WorldEvent

-- what does not change for each tenant, and each tenant's pools
abbrev pub Tenants : Type 0
Tenants = ℕ → World

abbrev pub Pools : Type 0
Pools = ℕ → Machine

-- An event changes the pools of its tenant alone.
abbrev pub pools_after : Tenants → Pools → TenantEvent → Pools
pools_after ws ps e t = if t == e.tenant then after (ws e.tenant) (ps e.tenant) e.event else ps t

abbrev pub pools_after_all : Tenants → Pools → List TenantEvent → Pools
pools_after_all ws ps [] = ps
pools_after_all ws ps (e ∷ es) = pools_after_all ws (pools_after ws ps e) es

-- It may come where it may come to the pools of its tenant.
abbrev pub AllMayCome : Tenants → Pools → List TenantEvent → Type 0
AllMayCome ws ps [] = Unit {0}
AllMayCome ws ps (e ∷ es) = MayHappen (ws e.tenant) (ps e.tenant) e.event × AllMayCome ws (pools_after ws ps e) es

-- the events of one tenant's passes, in order
abbrev pub own_events : ℕ → List TenantEvent → List WorldEvent
own_events t [] = []
own_events t (e ∷ es) = if t == e.tenant then e.event ∷ own_events t es else own_events t es

-- what a claim reads as this event comes
abbrev pub claim_read : Machine → WorldEvent → List ℕ
claim_read p (Step k (Claim s n)) = packed (word_at (p.core k) n) ∷ []
claim_read p e = []

-- what the claims of one tenant's passes read, in order; and what one of its callers is answered, in order
abbrev pub tenant_reads : Tenants → Pools → List TenantEvent → ℕ → List ℕ
tenant_reads ws ps [] t = []
tenant_reads ws ps (e ∷ es) t = (if t == e.tenant then claim_read (ps t) e.event else []) ++ tenant_reads ws (pools_after ws ps e) es t

abbrev pub tenant_answers : Tenants → Pools → List TenantEvent → ℕ → ℕ → List (Request × Option (Outcome × List ℕ))
tenant_answers ws ps [] t i = []
tenant_answers ws ps (e ∷ es) t i = (if t == e.tenant then answered (ws t) (ps t) e.event i else []) ++ tenant_answers ws (pools_after ws ps e) es t i

-- the same call runs, with the same instance
pub record IsSameCall (w v : World) (p q : Machine) (i : ℕ) (r c : Running) : Type 0 where
  pub request : r.request ≡ c.request
  pub turns : r.turns ≡ c.turns
  pub same : SameToCaller w v p q i i r c

-- a tenant's pools in two worlds: the same words, counts and seats, and for each caller the same running call
pub record LookSame (w v : World) (p q : Machine) : Type 0 where
  pub cores : (k : Kind) → p.core k ≡ q.core k
  pub calls : (i : ℕ) → OfBoth (IsSameCall w v p q i) (p.calls i) (q.calls i)

-- two worlds in which pools of one tenant opened alike
pub record OpenAlike (w v : World) (p q : Machine) : Type 0 where
  pub limits : w.limits ≡ v.limits
  pub opens : IsOpening w p
  pub opens_too : IsOpening v q
  pub cores : (k : Kind) → p.core k ≡ q.core k

-- What a tenant sees after events of all tenants: the state of its pools, what its claims read, and what its callers are answered.
pub record SeesSame (ws vs : Tenants) (ps qs : Pools) (es ds : List TenantEvent) (t u : ℕ) : Type 0 where
  pub pools : LookSame (ws t) (vs u) (pools_after_all ws ps es t) (pools_after_all vs qs ds u)
  pub reads : tenant_reads ws ps es t ≡ tenant_reads vs qs ds u
  pub answers : (i : ℕ) → tenant_answers ws ps es t i ≡ tenant_answers vs qs ds u i

-- Where the events of one tenant's passes are the same list in two worlds, modules' numbers included, it sees the same in both, whatever other tenants do and have. As each beginning of a list is a list, this holds after each event.
abbrev pub OwnEventsDecide : Type 0
OwnEventsDecide = (ws vs : Tenants) (ps qs : Pools) (es ds : List TenantEvent) (t u : ℕ) → OpenAlike (ws t) (vs u) (ps t) (qs u)
    → AllMayCome ws ps es → AllMayCome vs qs ds → own_events t es ≡ own_events u ds → SeesSame ws vs ps qs es ds t u

-- ---- warm slots

-- how many slots of a pool are warm while nobody holds them
abbrev pub free_warm : PoolCore → ℕ
free_warm c = count_by is_free_warm c.words

-- and of the pools of one kind of so many tenants together
abbrev pub all_free_warm : Pools → Kind → (tenants : ℕ) → ℕ
all_free_warm ps k tenants = sum_by (λ t. free_warm ((ps t).core k)) (range_with_len 0 tenants)

-- the pools of tenants 0, 1, .. have opened, of this kind with these limits of warm slots
pub record OpenWithin (ws : Tenants) (ps : Pools) (k : Kind) (limits : List ℕ) : Type 0 where
  pub opens : (t : ℕ) → t < length limits → IsOpening (ws t) (ps t)
  pub limit : (t : ℕ) → t < length limits → ((ps t).core k).limit ≡ slice_index limits t

-- Whatever events came, the free warm slots of all tenants are no more than their limits add up to.
abbrev pub WarmSlotsStayWithin : Type 0
WarmSlotsStayWithin = (ws : Tenants) (ps : Pools) (es : List TenantEvent) (k : Kind) (limits : List ℕ) → OpenWithin ws ps k limits → AllMayCome ws ps es
    → all_free_warm (pools_after_all ws ps es) k (length limits) ≤ sum limits
