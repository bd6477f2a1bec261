-- The words of slots that the examples name, for the modules of the tags 5 and 6, and the pools that they speak of.
use Rattle.std.proofs.Common.{◌≡◌, ℕ, refl}
use Rattle.pool_core.specs.declared.words.State.TheVariants.{Awaiting, Warm}
use Rattle.pool_core.specs.declared.words.Target.{Target}
use Rattle.pool_core.specs.StateWords.{cold_word, free_word, held_word, packed}
use Rattle.pool_core.specs.PoolCore.{PoolCore, opening_core}

abbrev pub left_warm_5 : Target
left_warm_5 = record { state = Warm; tag = 5; stamp = 0 }

abbrev pub left_awaiting_5 : Target
left_awaiting_5 = record { state = Awaiting; tag = 5; stamp = 0 }

abbrev pub left_warm_6 : Target
left_warm_6 = record { state = Warm; tag = 6; stamp = 0 }

-- ---- as the 64 bits of a word

abbrev pub cold : ℕ
cold = 0

abbrev pub cold_held : ℕ
cold_held = 1

abbrev pub warm_5 : ℕ
warm_5 = 42

abbrev pub warm_5_held : ℕ
warm_5_held = 43

abbrev pub awaiting_5 : ℕ
awaiting_5 = 44

abbrev pub warm_6 : ℕ
warm_6 = 50

cold_is : packed cold_word ≡ cold
cold_is = refl

cold_held_is : packed (held_word cold_word) ≡ cold_held
cold_held_is = refl

warm_5_is : packed (free_word left_warm_5) ≡ warm_5
warm_5_is = refl

warm_5_held_is : packed (held_word (free_word left_warm_5)) ≡ warm_5_held
warm_5_held_is = refl

awaiting_5_is : packed (free_word left_awaiting_5) ≡ awaiting_5
awaiting_5_is = refl

warm_6_is : packed (free_word left_warm_6) ≡ warm_6
warm_6_is = refl

-- one slot, which may be warm, and two passes
abbrev pub one_slot : PoolCore
one_slot = opening_core 1 1 2
