-- What the trails of a call say of the slots that it won, and of those that it found held.
use Rattle.std.specs.Prelude.{◌≡◌, ℕ, List}
use Rattle.slot_words.specs.declared.views.Operation.{Operation}
use Rattle.slot_words.specs.Owned.{limit_of, slots_of}
use Rattle.slot_words.specs.Parts.{Grew, Then}
use Rattle.slot_words.specs.Passes.{trail}
use Rattle.slot_pools.specs.Causes.{FullAfterLook, FullAfterMark, FullAfterScan}
use Rattle.slot_pools.specs.LastClaims.{EndsWithClaim}
use Rattle.slot_pools.specs.Preferring.{PrefersOwn}
use Rattle.pool_limits.specs.declared.numbers.Numbers.{Numbers}
use Rattle.pool_model.specs.Contents.{Named, needs}
use Rattle.pool_model.specs.declared.kinds.Kind.{Kind}
use Rattle.pool_model.specs.declared.kinds.Kind.TheVariants.{Memory, Table, Instance}
use Rattle.pool_host.specs.declared.answers.Answer.{Answer}
use Rattle.pool_host.specs.declared.host.Host.{Host}
use Rattle.pool_host.specs.declared.passes.Passes.{Passes}
use Rattle.pool_host.specs.Kinds.{IsGiveOf}
use Rattle.pool_host.specs.Trails.{AddsTrails, HasCause, visit_if}
use Rattle.pool_host.specs.Visits.{Served}

-- A take won a slot that it had seen free and warm for the module of this tag, or else lost the claim of each such slot. Its last claim
-- is of the slot that it won, and what follows is the give of that slot.
abbrev pub IsServedOwn : (slots tag : ℕ) → (IsGive : ℕ → List Operation → Type 0) → List Operation → Type 0
IsServedOwn slots tag IsGive done = (number : ℕ) × (read : ℕ) × Then (λ take. PrefersOwn slots tag number take × EndsWithClaim number read take) (IsGive number) done

module _ {N : Type 0} (config : Numbers) (host : Host N) (m : Named) (before after : Passes N) where
  -- where a call that was answered so was served with a memory, it was served so; likewise with a table
  pub record IsServedOwnFirst (answer : Answer) : Type 0 where
    pub memory : visit_if (needs Memory m.tree) answer Memory ≡ Served → Grew (IsServedOwn (slots_of host.memories) m.tag (IsGiveOf Memory host.memories m config.batch)) (trail before.memory) (trail after.memory)
    pub table : visit_if (needs Table m.tree) answer Table ≡ Served → Grew (IsServedOwn (slots_of host.tables) m.tag (IsGiveOf Table host.tables m config.batch)) (trail before.table) (trail after.table)

module _ {N : Type 0} (host : Host N) (m : Named) (before after : Passes N) where
  -- each slot of the kind was claimed and found held: a memory after the flush mark, a table after the look, a ticket after the scan
  abbrev pub FoundAllHeld : Kind → Type 0
  FoundAllHeld Instance = Grew (FullAfterScan (slots_of host.tickets)) (trail before.ticket) (trail after.ticket)
  FoundAllHeld Memory = Grew (FullAfterMark (slots_of host.memories)) (trail before.memory) (trail after.memory)
  FoundAllHeld Table = Grew (FullAfterLook (limit_of host.tables) (slots_of host.tables) m.tag) (trail before.table) (trail after.table)

module _ (N : Type 0) where
  -- each call prefers the slots of its module
  abbrev pub CallsPreferOwn : Type 0
  CallsPreferOwn = (config : Numbers) (host : Host N) (m : Named) (answer : Answer) (before after : Passes N)
      → AddsTrails config host m answer before after → IsServedOwnFirst config host m before after answer

  -- and where a kind is full, it found each slot of that kind held
  abbrev pub FullHasCause : Type 0
  FullHasCause = (config : Numbers) (host : Host N) (m : Named) (kind : Kind) (before after : Passes N)
      → HasCause config host m before after kind → FoundAllHeld host m before after kind
