-- What a look at a host's slots reads, and what it counts; passes whose tally goes on counting.
use Rattle.std.specs.Prelude.{◌≡◌, ℕ, ◌+◌, false, List}
use Rattle.slot_words.specs.declared.views.Operation.{Operation}
use Rattle.slot_words.specs.Looking.{IsCount}
use Rattle.slot_words.specs.Owned.{slots_of}
use Rattle.slot_words.specs.Parts.{Grew}
use Rattle.slot_words.specs.Passes.{trail}
use Rattle.decommit_batch.specs.Counts.{counted_in, looks_in}
use Rattle.pool_limits.specs.declared.numbers.Numbers.{Numbers}
use Rattle.pool_model.specs.Contents.{Named, needs}
use Rattle.pool_model.specs.declared.kinds.Kind.TheVariants.{Memory}
use Rattle.memory_counts.specs.Counted.{IsCounted, given_in}
use Rattle.pool_host.specs.declared.answers.Answer.{Answer}
use Rattle.pool_host.specs.declared.counts.PoolCounts.{PoolCounts}
use Rattle.pool_host.specs.declared.host.Host.{Host}
use Rattle.pool_host.specs.declared.passes.Passes.{Passes}
use Rattle.pool_host.specs.Trails.{AddsTrails, visit_if}
use Rattle.pool_host.specs.Visits.{None, Served, TurnedAway, Visit}

-- the pass of each kind read the word of each of its slots, and these are the counts of what it read
pub record HasLooked {N : Type 0} (host : Host N) (before after : Passes N) (counts : PoolCounts) : Type 0 where
  pub instance : Grew (IsCount (slots_of host.tickets) counts.instance) (trail before.ticket) (trail after.ticket)
  pub memory : Grew (IsCount (slots_of host.memories) counts.memory) (trail before.memory) (trail after.memory)
  pub table : Grew (IsCount (slots_of host.tables) counts.table) (trail before.table) (trail after.table)

-- where their tally counted what the pass of the memories did, it still does
abbrev pub KeepsCounts : {N : Type 0} → (batch : ℕ) → (before after : Passes N) → Type 0
KeepsCounts batch before after = IsCounted batch before.memory before.tally → IsCounted batch after.memory after.tally

-- the looks of a visit to the memories, and its gives
abbrev pub looks_at : Visit → ℕ
looks_at None = 0
looks_at Served = 1
looks_at TurnedAway = 1

abbrev pub gives_at : Visit → ℕ
gives_at None = 0
gives_at Served = 1
gives_at TurnedAway = 0

-- what a visit adds to the looks and to the gives that a trail tells
pub record CountsVisit (v : Visit) (before after : List Operation) : Type 0 where
  pub looks : looks_in after ≡ looks_in before + looks_at v
  pub gives : given_in after ≡ given_in before + gives_at v

-- Each call whose module needs a memory looks once. It gives one back, or it found each memory held.
abbrev pub CallsAreCounted : (N : Type 0) → Type 0
CallsAreCounted N = (config : Numbers) (host : Host N) (m : Named) (answer : Answer) (before after : Passes N) → counted_in false (trail before.memory) ≡ false
    → AddsTrails config host m answer before after → CountsVisit (visit_if (needs Memory m.tree) answer Memory) (trail before.memory) (trail after.memory)
