-- A slot's word: what it says, which words there are, and the 64 bits that carry one.
use Rattle.std.specs.Prelude.{◌≡◌, ℕ, ◌+◌, ◌*◌, ◌/◌, ◌%◌, ◌==◌, Bool, true, false, not, cond, ltb, ◌&&◌, ◌||◌}
use Rattle.pool_core.specs.declared.words.State.{State}
use Rattle.pool_core.specs.declared.words.State.TheVariants.{Cold, Warm, Awaiting}
use Rattle.pool_core.specs.declared.words.Target.{Target}
use Rattle.pool_core.specs.declared.words.StateWord.{StateWord}

abbrev pub is_cold : State → Bool
is_cold Cold = true
is_cold Warm = false
is_cold Awaiting = false

abbrev pub is_warm : State → Bool
is_warm Cold = false
is_warm Warm = true
is_warm Awaiting = false

abbrev pub is_awaiting : State → Bool
is_awaiting Cold = false
is_awaiting Warm = false
is_awaiting Awaiting = true

-- twenty bits for a tag
abbrev pub tag_bound : ℕ
tag_bound = 1048576

-- forty-one for a stamp
abbrev pub stamp_bound : ℕ
stamp_bound = 2199023255552

-- a tag and a stamp that fit, and neither where the state is cold
abbrev pub is_well_formed : Target → Bool
is_well_formed to = ltb to.tag tag_bound && ltb to.stamp stamp_bound && (not (is_cold to.state) || (to.tag == 0 && to.stamp == 0))

abbrev pub cold_target : Target
cold_target = record { state = Cold; tag = 0; stamp = 0 }

abbrev pub cold_word : StateWord
cold_word = record { target = cold_target; held = false }

-- the word of a slot that was given back as this
abbrev pub free_word : Target → StateWord
free_word to = record { target = to; held = false }

abbrev pub held_word : StateWord → StateWord
held_word w = record w { held = true }

abbrev pub bit : Bool → ℕ
bit b = cond b 1 0

abbrev pub state_code : State → ℕ
state_code Cold = 0
state_code Warm = 1
state_code Awaiting = 2

-- bit 0: held; bits 1 and 2: the state; bits 3 to 22: the tag; bits 23 to 63: the stamp
abbrev pub packed : StateWord → ℕ
packed w = bit w.held + 2 * state_code w.target.state + 8 * w.target.tag + 8 * tag_bound * w.target.stamp

-- the number is the 64 bits of this word
pub record IsWordOf (number : ℕ) (w : StateWord) : Type 0 where
  pub packed_is : number ≡ packed w
  pub well_formed : is_well_formed w.target ≡ true

-- no word has a code above that of awaiting
abbrev pub coded_state : ℕ → State
coded_state code = cond (code == 0) Cold (cond (code == 1) Warm Awaiting)

-- the word that 64 bits say
abbrev pub unpacked : ℕ → StateWord
unpacked bits = record { target = record { state = coded_state (bits / 2 % 4); tag = bits / 8 % tag_bound; stamp = bits / (8 * tag_bound) }; held = bits % 2 == 1 }
