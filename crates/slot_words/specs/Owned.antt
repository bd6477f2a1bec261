-- What a `Words` keeps for good, and which passes are its own.
use Rattle.std.specs.Prelude.{◌≡◌, ℕ, []}
use Rattle.pool_core.specs.declared.seats.Stage.TheVariants.{Live}
use Rattle.slot_words.specs.declared.words.Words.{Words}
use Rattle.slot_words.specs.Passes.{Pass, Home, IsIdle, home, share_of, trail, joined_trails}

module _ {V I : Type 0} where
  abbrev pub slots_of : Words V I → ℕ
  slots_of w = w.slots

  -- the most slots that may be warm
  abbrev pub limit_of : Words V I → ℕ
  limit_of w = w.limit

  -- how many passes were handed out
  abbrev pub passes_of : Words V I → ℕ
  passes_of w = w.table.shared.key.passes

  -- what a live pass of these words has as its home; no seat is split off from it
  abbrev pub home_of : Words V I → Home
  home_of w = record { table = w.table.shared.table_id; bounds = w.table.shared.key; stage = Live; unsplit = 0 }

  -- the pass is a live seat of these words
  abbrev pub IsPassOf : Words V I → Pass V → Type 0
  IsPassOf w p = home p ≡ home_of w

  -- the pass is one of these words, as it is handed out: idle, for itself alone, with no operation yet
  pub record IsNewPassOf (w : Words V I) (p : Pass V) : Type 0 where
    pub own : IsPassOf w p
    pub idle : IsIdle p
    pub share_is : share_of p ≡ 1
    pub trail_is : trail p ≡ []
    pub joined_is : joined_trails p ≡ []
