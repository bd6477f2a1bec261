-- What operations account for, in whatever order they came: the slots' words, what is held, and the clock.
use Rattle.std.specs.Prelude.{◌≡◌, ℕ, ◌+◌, ◌%◌, ◌^◌, ◌<◌, ◌==◌, ◌&&◌, Bool, true, false, List, length, slice_index_or}
use Rattle.std.specs.List.{count_by}
use Rattle.pool_core.specs.declared.words.StateWord.{StateWord}
use Rattle.pool_core.specs.StateWords.{bit, cold_word, packed}
use Rattle.pool_core.specs.PoolCore.{PoolCore, opening_core}
use Rattle.pool_core.specs.declared.events.Event.{Event}
use Rattle.pool_core.specs.Runs.{core_after_all, AllAllowed}
use Rattle.slot_words.specs.declared.views.Operation.{Operation}
use Rattle.slot_words.specs.declared.views.Operation.TheVariants.{Claim, Release, Stamp}
use Rattle.slot_words.specs.History.{all_noted}
use Rattle.slot_words.specs.KindCounts.{is_held}

-- a release that gives slot n the word of these bits
abbrev pub gives_word : ℕ → ℕ → Operation → Bool
gives_word n bits (Release m stored) = (m == n) && (stored == bits)
gives_word n bits o = false

-- a claim that finds the word of these bits in slot n; where that word is free, it is taken
abbrev pub finds_word : ℕ → ℕ → Operation → Bool
finds_word n bits (Claim m read) = (m == n) && (read == bits)
finds_word n bits o = false

-- Each free word that a slot had, the cold one at first or one that a release gave it, was taken by a claim that found it, or is the slot's word still.
abbrev pub AreLeft : List Operation → List StateWord → Type 0
AreLeft done words = (n bits : ℕ) → n < length words → bits % 2 ≡ 0
    → count_by (gives_word n bits) done + bit (packed cold_word == bits) ≡ count_by (finds_word n bits) done + bit (packed (slice_index_or words n cold_word) == bits)

abbrev pub is_release : Operation → Bool
is_release (Release n stored) = true
is_release o = false

-- a claim that found a free word
abbrev pub is_won_claim : Operation → Bool
is_won_claim (Claim n read) = read % 2 == 0
is_won_claim o = false

-- so many of the slots that were claimed were not given back
abbrev pub AreKept : List Operation → ℕ → Type 0
AreKept done kept = count_by is_won_claim done ≡ count_by is_release done + kept

abbrev pub is_stamp : Operation → Bool
is_stamp (Stamp r) = true
is_stamp o = false

-- operations account for a pool: they left its words, what they claimed and did not give back is held, and its clock went on once for each stamp
pub record AreAccounts (done : List Operation) (c : PoolCore) : Type 0 where
  pub left : AreLeft done c.words
  pub kept : AreKept done (count_by is_held c.words)
  pub clock_is : c.clock ≡ count_by is_stamp done % 2 ^ 64

-- what all seats noted of any list of events from an opening, none of which is refused where it comes, accounts for the pool that it leads to
abbrev pub HistoriesAccount : Type 0
HistoriesAccount = (slots limit passes : ℕ) (es : List Event) → AllAllowed (opening_core slots limit passes) es
    → AreAccounts (all_noted (opening_core slots limit passes) es) (core_after_all (opening_core slots limit passes) es)
