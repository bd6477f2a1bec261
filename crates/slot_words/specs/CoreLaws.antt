-- What holds of every core, for the proofs that each step is one of its events.
use Rattle.std.specs.Prelude.{◌≡◌}
use Rattle.pool_core.specs.declared.events.Event.{Event}
use Rattle.pool_core.specs.PoolCore.{PoolCore}
use Rattle.pool_core.specs.EventEffects.{core_after}
use Rattle.pool_core.specs.RefusalRules.{refusal_of}
use Rattle.pool_core.specs.Lawful.{Lawful}
use Rattle.pool_core.specs.Changes.{LeavesLive, OutChangesNothingElse}
use Rattle.pool_core.specs.Laws.{BitsSayOneWord, EventsKeepLawful, HeldWordsHaveSeats, LowestBitMakesHeld, LowestBitSaysHeld, OneSeatHolds, OpeningIsLawful, OpensCold, OpensUnmade, SeatsHoldWords}

pub record CoreLaws : Type 0 where
  pub opening : OpeningIsLawful
  pub opens_cold : OpensCold
  pub opens_unmade : OpensUnmade
  pub events : EventsKeepLawful
  pub live : (c : PoolCore) (e : Event) → Lawful c → refusal_of c e ≡ 0 → LeavesLive e (core_after c e)
  pub one_seat : OneSeatHolds
  pub seats : SeatsHoldWords
  pub held : HeldWordsHaveSeats
  pub outside : OutChangesNothingElse
  pub one_word : BitsSayOneWord
  pub bit_says : LowestBitSaysHeld
  pub bit_sets : LowestBitMakesHeld

-- all these laws as one fact, which no tactic looks into
unfoldable pub CoresAreLawful : Type 0
CoresAreLawful = CoreLaws
