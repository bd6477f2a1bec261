-- Hex digits that are decoded pair by pair.
use Rattle.std.proofs.Common.{◌≡◌, ℕ, ◌+◌, ◌*◌, ◌%◌, ◌<◌, ◌≤◌, ◌==◌, ◌&&◌, ◌⊎◌, inl, inr, Bool, true, false, not, List, take, drop, length, slice_index, slice_set, Option, Some, None, Ok, Err, unwrap_or, refl, arith}
use Rattle.hex.specs.Hex.{decode_pairs, hex_digit_value, pair_value}
use Rattle.hex.specs.declared.error.FromHexError.{FromHexError}
use Rattle.hex.specs.declared.error.FromHexError.TheVariants.{InvalidHexCharacter}
use Rattle.hex.proofs.Pairs.{decode_done, decode_err, decode_start, decode_step, prepend}
use Rattle.request_words.specs.Digits.{Spells}

-- the first bytes are what the digits before a place spell, if all of these are digits
abbrev pub SpellsSoFar : (digits bytes : List ℕ) (i : ℕ) (all : Bool) → Type 0
SpellsSoFar digits bytes i true = decode_pairs 0 digits ≡ prepend (take i bytes) (decode_pairs (2 * i) (drop (2 * i) digits))
SpellsSoFar digits bytes i false = (e : FromHexError) × (decode_pairs 0 digits ≡ Err e)

pub spells_none : (digits bytes : List ℕ) → SpellsSoFar digits bytes 0 true
spells_none digits bytes = decode_start digits bytes

pub spells_all : (digits bytes : List ℕ) (i : ℕ) (all : Bool) → length bytes ≤ i → length digits ≤ 2 * i → SpellsSoFar digits bytes i all → Spells digits bytes all
spells_all digits bytes i true le short so_far = decode_done digits bytes i le short so_far
spells_all digits bytes i false le short so_far = so_far

value_small : (c v : ℕ) → hex_digit_value c ≡ Some v → v < 16
value_small c v h = grind arith

-- whether a value is a digit's, as the code tells it
abbrev is_value : ℕ → Bool
is_value v = not (v == 255)

-- two digits, or bytes of which one is none
abbrev Reads : (a b i high low : ℕ) → Type 0
Reads a b i high low = (high < 16) × (low < 16) × (pair_value a b i ≡ Ok (high * 16 + low))

abbrev Fails : (a b i high low : ℕ) → Type 0
Fails a b i high low = (e : FromHexError) × ((is_value high && is_value low) ≡ false) × (pair_value a b i ≡ Err e)

pair_is : (a b i : ℕ) (o p : Option ℕ) → hex_digit_value a ≡ o → hex_digit_value b ≡ p → Reads a b i (unwrap_or o 255) (unwrap_or p 255) ⊎ Fails a b i (unwrap_or o 255) (unwrap_or p 255)
pair_is a b i (Some x) (Some y) ha hb = inl (value_small a x ha, value_small b y hb, rw (ha, hb) refl)
pair_is a b i (Some x) None ha hb = inr (InvalidHexCharacter b (i + 1), grind arith, rw (ha, hb) refl)
pair_is a b i None p ha hb = inr (InvalidHexCharacter a i, refl, rw ha refl)

-- one pair more
spells_pair : (digits bytes : List ℕ) (i : ℕ) (all : Bool) (high low : ℕ) → 2 * i + 1 < length digits → i < length bytes
    → Reads (slice_index digits (2 * i)) (slice_index digits (2 * i + 1)) (2 * i) high low ⊎ Fails (slice_index digits (2 * i)) (slice_index digits (2 * i + 1)) (2 * i) high low
    → SpellsSoFar digits bytes i all → SpellsSoFar digits (slice_set bytes i (high % 16 * 16 + low % 16)) (i + 1) (all && (is_value high && is_value low))
spells_pair digits bytes i false high low fits room pair so_far = so_far
spells_pair digits bytes i true high low fits room (inl (h, l, ok)) so_far =
    let value : high % 16 * 16 + low % 16 ≡ high * 16 + low = omega arith in
    let both : (is_value high && is_value low) ≡ true = grind arith in
    rw (both, value) (decode_step digits bytes i (high * 16 + low) fits room ok so_far)
spells_pair digits bytes i true high low fits room (inr (e, none, bad)) so_far =
    rw none (e, decode_err digits bytes i e fits bad so_far)

pub spells_more : (digits bytes : List ℕ) (i : ℕ) (all : Bool) (high low : ℕ) → 2 * i + 1 < length digits → i < length bytes
    → high ≡ unwrap_or (hex_digit_value (slice_index digits (2 * i))) 255 → low ≡ unwrap_or (hex_digit_value (slice_index digits (2 * i + 1))) 255
    → SpellsSoFar digits bytes i all → SpellsSoFar digits (slice_set bytes i (high % 16 * 16 + low % 16)) (i + 1) (all && (is_value high && is_value low))
spells_more digits bytes i all high low fits room h l so_far =
    spells_pair digits bytes i all high low fits room (rw (h, l) (pair_is (slice_index digits (2 * i)) (slice_index digits (2 * i + 1)) (2 * i) _ _ refl refl)) so_far
