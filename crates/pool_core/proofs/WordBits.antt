-- The 64 bits of a word.
use Rattle.std.proofs.Common.{◌≡◌, ℕ, ◌+◌, ◌*◌, ◌/◌, ◌%◌, ◌^◌, ◌<◌, ◌≤◌, ◌==◌, ◌&&◌, ◌||◌, not, ltb, Bool, true, false, refl, sym, ap, ◌∙◌, arith}
use lib.Bits.{bit_or, or_shifted, or_block, or_zero_r}
use Rattle.std.proofs.lemmas.Bool.{and_parts, ltb-true}
use Rattle.pool_core.specs.declared.words.State.{State}
use Rattle.pool_core.specs.declared.words.State.TheVariants.{Awaiting, Cold, Warm}
use Rattle.pool_core.specs.declared.words.StateWord.{StateWord}
use Rattle.pool_core.specs.declared.words.Target.{Target}
use Rattle.pool_core.specs.Laws.{BitsSayOneWord, BitsSayTheWord}
use Rattle.pool_core.specs.StateWords.{bit, coded_state, held_word, is_cold, is_well_formed, packed, stamp_bound, state_code, tag_bound}

pub bit_le : (b : Bool) → bit b ≤ 1
bit_le true = omega arith
bit_le false = omega arith

-- a bit and its opposite sum to one
pub one_or_other : (b : Bool) → bit b + bit (not b) ≡ 1
one_or_other true = refl
one_or_other false = refl

above_held_bit : StateWord → ℕ
above_held_bit w = state_code w.target.state + 4 * w.target.tag + 4 * tag_bound * w.target.stamp

split_off : (w : StateWord) → packed w ≡ bit w.held + 2 * above_held_bit w
unfolding above_held_bit
split_off w = omega arith

with_bit : (h : Bool) (m : ℕ) → bit_or (bit h + 2 * m) 1 ≡ 1 + 2 * m
with_bit false m = let e : 0 + 2 * m ≡ m * 2 ^ 1 = omega arith in ap (λ (k : ℕ). bit_or k 1) e ∙ or_shifted m 1 1 (omega arith) ∙ omega arith
with_bit true m =
    let e : 1 + 2 * m ≡ m * 2 ^ 1 + 1 = omega arith in
    let z : bit_or m 0 ≡ m = or_zero_r m in
    let b : bit_or (m * 2 ^ 1 + 1) (0 * 2 ^ 1 + 1) ≡ bit_or m 0 * 2 ^ 1 + bit_or 1 1 = or_block 1 m 0 1 1 (omega arith) (omega arith) in
    ap (λ (k : ℕ). bit_or k 1) e ∙ b ∙ ap (λ (k : ℕ). k * 2 ^ 1 + 1) z ∙ omega arith

-- to set the lowest bit of a word is to make it held
pub packed-held_word : (w : StateWord) → bit_or (packed w) 1 ≡ packed (held_word w)
unfolding above_held_bit
packed-held_word w = ap (λ (k : ℕ). bit_or k 1) (split_off w) ∙ with_bit w.held (above_held_bit w) ∙ omega arith

low_bit : (h : Bool) (m : ℕ) → (bit h + 2 * m) % 2 ≡ bit h
low_bit false m = omega arith
low_bit true m = omega arith

-- the lowest bit of a word says whether it is held
pub packed-mod_2 : (w : StateWord) → packed w % 2 ≡ bit w.held
packed-mod_2 w = ap (λ (k : ℕ). k % 2) (split_off w) ∙ low_bit w.held (above_held_bit w)

-- the fields that a number is the sum of, each in its place
record Fields (bits b c t s : ℕ) : Type 0 where
  first : bits % 2 ≡ b
  second : bits / 2 % 4 ≡ c
  third : bits / 8 % tag_bound ≡ t
  last : bits / (8 * tag_bound) ≡ s

fields : (bits b c t s : ℕ) → bits ≡ b + 2 * c + 8 * t + 8 * tag_bound * s → b < 2 → c < 4 → t < tag_bound → Fields bits b c t s
fields bits b c t s is b2 c4 t12 = record { first = omega arith; second = omega arith; third = omega arith; last = omega arith }

code_below : (s : State) → state_code s < 4
code_below Cold = omega arith
code_below Warm = omega arith
code_below Awaiting = omega arith

coded_again : (s : State) → coded_state (state_code s) ≡ s
coded_again Cold = refl
coded_again Warm = refl
coded_again Awaiting = refl

bit_again : (h : Bool) → (bit h == 1) ≡ h
bit_again true = refl
bit_again false = refl

tag_below : (to : Target) → is_well_formed to ≡ true → to.tag < tag_bound
tag_below to ok = ltb-true to.tag tag_bound (and_parts (ltb to.tag tag_bound) (ltb to.stamp stamp_bound) (and_parts (ltb to.tag tag_bound && ltb to.stamp stamp_bound) (not (is_cold to.state) || (to.tag == 0 && to.stamp == 0)) ok).0).0

pub bits_say_the_word : BitsSayTheWord
bits_say_the_word bits w is =
    let low = bit_le w.held in
    let f = fields bits (bit w.held) (state_code w.target.state) w.target.tag w.target.stamp is.packed_is (omega arith) (code_below w.target.state) (tag_below w.target is.well_formed) in
    let held : (bits % 2 == 1) ≡ w.held = ap (λ (k : ℕ). k == 1) f.first ∙ bit_again w.held in
    let state : coded_state (bits / 2 % 4) ≡ w.target.state = ap coded_state f.second ∙ coded_again w.target.state in
    let tag = f.third in let stamp = f.last in
    λ i. record { target = record { state = state i; tag = tag i; stamp = stamp i }; held = held i }

pub bits_say_one_word : BitsSayOneWord
bits_say_one_word bits w v a b = sym (bits_say_the_word bits w a) ∙ bits_say_the_word bits v b
