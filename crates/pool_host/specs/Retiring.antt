-- What a retirement does at a host's pools.
use Rattle.std.specs.Prelude.{◌≡◌, ℕ, ◌+◌, Bool, true, false}
use Rattle.slot_words.specs.Owned.{slots_of}
use Rattle.slot_words.specs.Parts.{Grew}
use Rattle.slot_words.specs.Passes.{trail}
use Rattle.decommit_batch.specs.Sweep.{IsSweep}
use Rattle.pool_model.specs.Contents.{Named}
use Rattle.pool_host.specs.declared.host.Host.{Host}
use Rattle.pool_host.specs.declared.passes.Passes.{Passes}
use Rattle.pool_host.specs.declared.answers.Retire.{Retire}
use Rattle.pool_host.specs.declared.answers.Retire.TheVariants.{First, Already}

-- its step read the bit set
abbrev pub is_already : Retire → Bool
is_already Already = true
is_already (First cleaned) = false

module _ {N : Type 0} (host : Host N) (m : Named) where
  -- a sweep of the memories and one of the tables, which cleaned so many together, and nothing at the tickets
  pub record SweptAll (cleaned : ℕ) (before after : Passes N) : Type 0 where
    pub ticket : after.ticket ≡ before.ticket
    pub of_memories : ℕ
    pub of_tables : ℕ
    pub memory : Grew (IsSweep m.tag (slots_of host.memories) of_memories) (trail before.memory) (trail after.memory)
    pub table : Grew (IsSweep m.tag (slots_of host.tables) of_tables) (trail before.table) (trail after.table)
    pub cleaned_is : cleaned ≡ of_memories + of_tables

  -- what a retirement so answered does there
  abbrev pub Sweeps : Retire → (before after : Passes N) → Type 0
  Sweeps (First cleaned) before after = SweptAll cleaned before after
  Sweeps Already before after = after ≡ before
