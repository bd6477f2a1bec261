-- What a sweep makes of a pool in which nothing else is done meanwhile.
use Rattle.std.specs.Prelude.{◌≡◌, ℕ, if◌then◌else◌, List, length, map}
use Rattle.std.specs.List.{count_by}
use Rattle.pool_core.specs.declared.words.StateWord.{StateWord}
use Rattle.pool_core.specs.declared.events.Event.{Event}
use Rattle.pool_core.specs.StateWords.{cold_word}
use Rattle.pool_core.specs.PoolCore.{PoolCore}
use Rattle.pool_core.specs.Lawful.{Lawful}
use Rattle.pool_core.specs.Runs.{core_after_all, AllAllowed}
use Rattle.slot_words.specs.History.{all_noted}
use Rattle.decommit_batch.specs.Sweep.{is_free_of, IsSweep}

-- cold where it is free and of the module, and else as it is
abbrev pub word_swept : ℕ → StateWord → StateWord
word_swept tag w = if is_free_of tag w then cold_word else w

-- each slot that was free and of the module is cold, there were so many, and each other slot is as it was
pub record IsSwept (tag cleaned : ℕ) (old new : PoolCore) : Type 0 where
  pub words_are : new.words ≡ map (word_swept tag) old.words
  pub cleaned_is : cleaned ≡ count_by (is_free_of tag) old.words

-- where all that the seats note of some events is one sweep, the pool is swept
abbrev pub SweepsAlone : Type 0
SweepsAlone = (c : PoolCore) (es : List Event) (tag cleaned : ℕ) → Lawful c → AllAllowed c es → IsSweep tag (length c.words) cleaned (all_noted c es) → IsSwept tag cleaned c (core_after_all c es)
