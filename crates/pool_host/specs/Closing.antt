-- What a host's slots are as it is closed.
use Rattle.std.specs.Prelude.{◌≡◌, ℕ, ◌+◌, ◌≤◌, List, ◌++◌, flat_map, length, reverse}
use Rattle.slot_words.specs.declared.kinds.KindCounts.{KindCounts}
use Rattle.slot_words.specs.declared.words.Words.{Words}
use Rattle.slot_words.specs.declared.views.SeatTrail.{SeatTrail}
use Rattle.slot_words.specs.Closing.{ClosesAs, CountsLeft}
use Rattle.slot_words.specs.Owned.{limit_of, passes_of, slots_of}
use Rattle.slot_words.specs.Passes.{Pass, share_of, trails}
use Rattle.slot_words.specs.Views.{in_one}
use Rattle.module_store.specs.declared.naming.Naming.{Ghosts}
use Rattle.pool_host.specs.declared.counts.PoolCounts.{PoolCounts}
use Rattle.pool_host.specs.declared.host.Host.{Host}
use Rattle.pool_host.specs.declared.passes.HostPass.{HostPass}
use Rattle.pool_host.specs.declared.passes.Passes.{Passes}

-- Words that are closed with so many of their passes, of these trails, leave these counts. With all of them, none is held.
pub record AreCounts {V I : Type 0} (words : Words V I) (passes : ℕ) (done : List SeatTrail) (counts : KindCounts) : Type 0 where
  pub closes : ClosesAs (slots_of words) (limit_of words) (passes_of words) passes done counts
  pub held : counts.held + passes ≤ passes_of words
  pub left : passes ≡ passes_of words → CountsLeft (slots_of words) (in_one done) counts

-- another pass, which stands for itself alone, was joined into this one, which became that one
pub record IsJoined {V : Type 0} (p other q : Pass V) : Type 0 where
  pub share : share_of q ≡ share_of p + 1
  pub done : trails q ≡ trails p ++ trails other

module _ {N : Type 0} {G : Ghosts N} where
  -- the trails of a pass, and those of passes, the last one's first
  abbrev pub ticket_done : HostPass N G → List SeatTrail
  ticket_done pass = trails pass.passes.ticket

  abbrev pub ticket_trails : List (HostPass N G) → List SeatTrail
  ticket_trails passes = flat_map ticket_done (reverse passes)

  abbrev pub memory_done : HostPass N G → List SeatTrail
  memory_done pass = trails pass.passes.memory

  abbrev pub memory_trails : List (HostPass N G) → List SeatTrail
  memory_trails passes = flat_map memory_done (reverse passes)

  abbrev pub table_done : HostPass N G → List SeatTrail
  table_done pass = trails pass.passes.table

  abbrev pub table_trails : List (HostPass N G) → List SeatTrail
  table_trails passes = flat_map table_done (reverse passes)

  -- what a host's pools leave that is closed with these passes
  pub record ArePoolCounts (host : Host N) (passes : List (HostPass N G)) (counts : PoolCounts) : Type 0 where
    pub instance : AreCounts host.tickets (length passes) (ticket_trails passes) counts.instance
    pub memory : AreCounts host.memories (length passes) (memory_trails passes) counts.memory
    pub table : AreCounts host.tables (length passes) (table_trails passes) counts.table

module _ {N : Type 0} where
  -- each of the passes stands for so many
  pub record HaveShares (share : ℕ) (p : Passes N) : Type 0 where
    pub ticket : share_of p.ticket ≡ share
    pub memory : share_of p.memory ≡ share
    pub table : share_of p.table ≡ share

  -- others were joined into passes, which became these: each stands for one more, and has the trails of both
  pub record HaveJoined (p other q : Passes N) : Type 0 where
    pub ticket : IsJoined p.ticket other.ticket q.ticket
    pub memory : IsJoined p.memory other.memory q.memory
    pub table : IsJoined p.table other.table q.table
