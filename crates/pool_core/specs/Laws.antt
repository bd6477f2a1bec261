-- What holds of every pool, each in one sentence.
use Rattle.std.specs.Prelude.{◌≡◌, ℕ, ◌%◌, ◌<◌, ◌≤◌, true, List, Some, length, bit_or}
use Rattle.pool_core.specs.declared.events.Event.{Event}
use Rattle.pool_core.specs.declared.seats.Stage.TheVariants.{Unmade}
use Rattle.pool_core.specs.declared.words.StateWord.{StateWord}
use Rattle.pool_core.specs.StateWords.{IsWordOf, bit, packed, unpacked, cold_word, held_word}
use Rattle.pool_core.specs.PoolCore.{PoolCore, seat_at, word_at, idle_seat, opening_core}
use Rattle.pool_core.specs.EventEffects.{core_after}
use Rattle.pool_core.specs.RefusalRules.{refusal_of}
use Rattle.pool_core.specs.Lawful.{Lawful}
use Rattle.pool_core.specs.Runs.{core_after_all, AllAllowed}

-- a pool is lawful as it opens
abbrev pub OpeningIsLawful : Type 0
OpeningIsLawful = (slots limit seats : ℕ) → Lawful (opening_core slots limit seats)

-- as it opens, each word is cold and free
abbrev pub OpensCold : Type 0
OpensCold = (slots limit seats n : ℕ) → word_at (opening_core slots limit seats) n ≡ cold_word

-- and each seat but the first is still to be made
abbrev pub OpensUnmade : Type 0
OpensUnmade = (slots limit seats s : ℕ) → 1 ≤ s → seat_at (opening_core slots limit seats) s ≡ idle_seat Unmade

-- each event that no rule refuses keeps a pool lawful
abbrev pub EventsKeepLawful : Type 0
EventsKeepLawful = (c : PoolCore) (e : Event) → Lawful c → refusal_of c e ≡ 0 → Lawful (core_after c e)

-- so does every list of events, none of which is refused where it comes
abbrev pub RunsKeepLawful : Type 0
RunsKeepLawful = (c : PoolCore) (es : List Event) → Lawful c → AllAllowed c es → Lawful (core_after_all c es)

-- so a pool is lawful after every such list from its opening
abbrev pub RunsFromOpeningAreLawful : Type 0
RunsFromOpeningAreLawful = (slots limit seats : ℕ) (es : List Event) → AllAllowed (opening_core slots limit seats) es
    → Lawful (core_after_all (opening_core slots limit seats) es)

-- no two seats hold one number
abbrev pub OneSeatHolds : Type 0
OneSeatHolds = (c : PoolCore) (s t n : ℕ) → Lawful c → (seat_at c s).holds ≡ Some n → (seat_at c t).holds ≡ Some n → s ≡ t

-- the number that a seat holds is one of the slots, and its word is held
abbrev pub SeatsHoldWords : Type 0
SeatsHoldWords = (c : PoolCore) (s n : ℕ) → Lawful c → (seat_at c s).holds ≡ Some n → (n < length c.words) × ((word_at c n).held ≡ true)

-- where a word is held, a seat holds its number
abbrev pub HeldWordsHaveSeats : Type 0
HeldWordsHaveSeats = (c : PoolCore) (n : ℕ) → Lawful c → (word_at c n).held ≡ true → (s : ℕ) × ((seat_at c s).holds ≡ Some n)

-- the 64 bits of a word say one word alone
abbrev pub BitsSayOneWord : Type 0
BitsSayOneWord = (bits : ℕ) (w v : StateWord) → IsWordOf bits w → IsWordOf bits v → w ≡ v

-- and what they say is that word
abbrev pub BitsSayTheWord : Type 0
BitsSayTheWord = (bits : ℕ) (w : StateWord) → IsWordOf bits w → unpacked bits ≡ w

-- the lowest bit of a word says whether it is held
abbrev pub LowestBitSaysHeld : Type 0
LowestBitSaysHeld = (w : StateWord) → packed w % 2 ≡ bit w.held

-- to set it is to make the word held
abbrev pub LowestBitMakesHeld : Type 0
LowestBitMakesHeld = (w : StateWord) → bit_or (packed w) 1 ≡ packed (held_word w)
