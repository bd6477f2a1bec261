-- The lines of a file, the words of a line, and what a word stands for.
use Rattle.std.specs.Prelude.{ℕ, ◌-◌, ◌%◌, ◌^◌, ◌==◌, ◌&&◌, nat_le, Bool, true, false, not, if◌then◌else◌, List, [], ◌∷◌, length, take, drop, codes, filter, position, Option, Some, None, option_and_then}
use Rattle.std.specs.List.{slice_split, list_all}
use Rattle.std.specs.Option.{option_map}
use Rattle.std.specs.Result.{result_ok}
use Rattle.std.specs.Char.{is_ascii_digit}
use Rattle.std.specs.Str.{bytes_eq}
use Rattle.std.specs.Str.Parse.{digits_value}
use Rattle.hex.specs.Hex.{decode_of}
use Rattle.wasm_values.specs.declared.outcome.Val.{Val}
use Rattle.wasm_values.specs.declared.outcome.Val.TheVariants.{I32, I64}

-- ---- lines and words

-- The lines of a file end in LF (10). What follows the last LF is a line too; if it is empty it has no words.
abbrev pub text_lines : List ℕ → List (List ℕ)
text_lines text = slice_split (λ b. b == 10) text

abbrev pub is_empty : {A : Type 0} → List A → Bool
is_empty [] = true
is_empty (x ∷ xs) = false

-- The words of a line stand between spaces (32); empty words are dropped.
unfoldable pub line_words : List ℕ → List (List ℕ)
line_words line = filter (λ word. not (is_empty word)) (slice_split (λ b. b == 32) line)

-- A comment has `#` (35) as its first byte.
abbrev pub is_comment : List ℕ → Bool
is_comment [] = false
is_comment (b ∷ rest) = b == 35

abbrev pub is_printable : ℕ → Bool
is_printable b = nat_le 32 b && nat_le b 126

-- the place among these names, from 0, of the one that is `name`
unfoldable pub place_of : List (List ℕ) → List ℕ → Option ℕ
place_of names name = position (λ other. bytes_eq other name) names

-- ---- what a word stands for

abbrev pub begins_with : List ℕ → List ℕ → Bool
begins_with word front = bytes_eq (take (length front) word) front

-- the bytes that hex digits of either case spell, two a byte
abbrev pub hex_bytes : List ℕ → Option (List ℕ)
hex_bytes word = result_ok (decode_of word)

-- the number that a word of digits alone writes, if it is at most `most`; leading zeros are allowed
unfoldable pub number_up_to : ℕ → List ℕ → Option ℕ
number_up_to most word =
    if not (is_empty word) && list_all is_ascii_digit word && nat_le (digits_value 10 word) most
    then Some (digits_value 10 word)
    else None

abbrev pub fuel_of : List ℕ → Option ℕ
fuel_of word = number_up_to 4294967295 word

-- the number, from -2^(bits-1) to 2^bits - 1, that digits after an optional `-` write, modulo 2^bits
unfoldable pub integer_of : ℕ → List ℕ → Option ℕ
integer_of bits text =
    if begins_with text (codes "-")
    then option_map (λ n. (2 ^ bits - n) % 2 ^ bits) (number_up_to (2 ^ (bits - 1)) (drop 1 text))
    else number_up_to (2 ^ bits - 1) text

-- an argument names its type before its number
unfoldable pub argument_of : List ℕ → Option Val
argument_of word =
    if begins_with word (codes "i32:") then option_map I32 (integer_of 32 (drop 4 word))
    else if begins_with word (codes "i64:") then option_map I64 (integer_of 64 (drop 4 word))
    else None

-- the arguments that these words are, if each of them is one
abbrev pub arguments_of : List (List ℕ) → Option (List Val)
arguments_of [] = Some []
arguments_of (word ∷ words) =
    option_and_then (λ arg. option_map (λ args. arg ∷ args) (arguments_of words)) (argument_of word)
