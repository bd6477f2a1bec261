-- A host and its passes.
use Rattle.std.specs.Prelude.{◌≡◌, ℕ, ◌≤◌, []}
use Rattle.pool_core.specs.declared.limits.TheConstants.{MOST_SLOTS}
use Rattle.pool_limits.specs.declared.share.Share.{Share}
use Rattle.slot_words.specs.Owned.{IsNewPassOf, IsPassOf, limit_of, passes_of, slots_of}
use Rattle.slot_words.specs.Passes.{IsIdle, IsSamePass}
use Rattle.module_store.specs.declared.naming.Naming.{Ghosts}
use Rattle.retired_tags.specs.Passes as retired
use Rattle.pool_host.specs.declared.host.Host.{Host}
use Rattle.pool_host.specs.declared.passes.HostPass.{HostPass}
use Rattle.pool_host.specs.declared.passes.Passes.{Passes}

-- each of these numbers can be that of a pool's slots
pub record IsShare (share : Share) : Type 0 where
  pub instances : (1 ≤ share.instances) × (share.instances ≤ MOST_SLOTS)
  pub memories : (1 ≤ share.memories) × (share.memories ≤ MOST_SLOTS)
  pub tables : (1 ≤ share.tables) × (share.tables ≤ MOST_SLOTS)

module _ {N : Type 0} where
  -- these are passes of the host's pools
  pub record ArePassesOf (host : Host N) (p : Passes N) : Type 0 where
    pub ticket : IsPassOf host.tickets p.ticket
    pub memory : IsPassOf host.memories p.memory
    pub table : IsPassOf host.tables p.table

  -- none of them holds a slot
  pub record AreIdle (p : Passes N) : Type 0 where
    pub ticket : IsIdle p.ticket
    pub memory : IsIdle p.memory
    pub table : IsIdle p.table

  -- they stay those seats, and join no others
  pub record AreSamePasses (p q : Passes N) : Type 0 where
    pub ticket : IsSamePass p.ticket q.ticket
    pub memory : IsSamePass p.memory q.memory
    pub table : IsSamePass p.table q.table

  -- one as it is handed out: with no operation yet
  pub record AreNewPassesOf (host : Host N) (p : Passes N) : Type 0 where
    pub ticket : IsNewPassOf host.tickets p.ticket
    pub memory : IsNewPassOf host.memories p.memory
    pub table : IsNewPassOf host.tables p.table

  -- so many passes of each of its pools, and of its retired tags, were handed out
  pub record HandedOut (host : Host N) (passes : ℕ) : Type 0 where
    pub of_tickets : passes_of host.tickets ≡ passes
    pub of_memories : passes_of host.memories ≡ passes
    pub of_tables : passes_of host.tables ≡ passes
    pub of_retired : retired.passes_of host.retired.tags ≡ passes

  -- it has as many slots as its share says, of which of each kind at most so many are warm while no call has them
  pub record HasShare (warm : ℕ) (share : Share) (host : Host N) : Type 0 where
    pub of_tickets : slots_of host.tickets ≡ share.instances
    pub of_memories : slots_of host.memories ≡ share.memories
    pub of_tables : slots_of host.tables ≡ share.tables
    pub warm_tickets : limit_of host.tickets ≡ warm
    pub warm_memories : limit_of host.memories ≡ warm
    pub warm_tables : limit_of host.tables ≡ warm

module _ {N : Type 0} {G : Ghosts N} where
  -- the pass is one of this host's: at its pools, and at its retired tags
  pub record IsHostPass (host : Host N) (pass : HostPass N G) : Type 0 where
    pub pools : ArePassesOf host pass.passes
    pub tags : retired.IsTagPass host.retired.tags pass.retired

  -- it stays that pass of that host
  pub record IsSameHostPass (p q : HostPass N G) : Type 0 where
    pub pools : AreSamePasses p.passes q.passes
    pub tags : retired.IsSameTagPass p.retired q.retired

  -- and as it is handed out
  pub record IsNewHostPass (host : Host N) (pass : HostPass N G) : Type 0 where
    pub pools : AreNewPassesOf host pass.passes
    pub tags : retired.IsNewTagPass host.retired.tags pass.retired
    pub no_answer : pass.answer ≡ []
    pub none_left : pass.left ≡ 0
