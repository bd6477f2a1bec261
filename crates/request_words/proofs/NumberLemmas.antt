-- Words of digits.
use Rattle.std.proofs.Common.{◌≡◌, ◌==◌, ◌&&◌, ◌+◌, ◌-◌, ◌*◌, ◌^◌, ◌<◌, ◌≤◌, nat_le, ℕ, Bool, true, false, not, if◌then◌else◌, List, [], ◌∷◌, ◌++◌, length, take, drop, codes, get_or, Some, None, refl, ap, sym, ◌∙◌, arith}
use Rattle.std.specs.Char.{digit_value, is_ascii_digit}
use Rattle.std.specs.List.{list_all, position_or_len}
use Rattle.std.specs.Option.{option_map}
use Rattle.std.specs.Str.{bytes_eq}
use Rattle.std.specs.Str.Parse.{digits_value}
use Rattle.std.proofs.lemmas.Int.Digits.{digits_value_more}
use Rattle.std.proofs.lemmas.Bool.{false_from_ne_true}
use Rattle.std.proofs.lemmas.Bool.Decides.{Decides-eqb, nat_tests}
use Rattle.std.proofs.lemmas.List.{take_all}
use Rattle.std.proofs.lemmas.List.Folds.{list_all_at, list_all_more}
use Rattle.std.proofs.lemmas.Str.Parse.{digits_value-take-le}
use Rattle.wasm_values.specs.declared.outcome.Val.TheVariants.{I32, I64}
use Rattle.request_words.specs.FirstWords.{after_word, first_word}
use Rattle.request_words.specs.Words.{argument_of, integer_of, is_empty, number_up_to}
use Rattle.request_words.proofs.WordLemmas.{after-behind, begins_as, first-behind, first_begins, first_length}

pub empty_is : {A : Type 0} (xs : List A) → (length xs == 0) ≡ is_empty xs
empty_is [] = refl
empty_is (x ∷ xs) = grind arith

-- a digit is one of ten bytes
pub digit_range : (b : ℕ) → is_ascii_digit b ≡ true → (48 ≤ b) × (b ≤ 57)
digit_range b is = (grind arith, grind arith)

-- one digit more
pub value_more : (word : List ℕ) (i : ℕ) → is_ascii_digit (get_or word i 0) ≡ true → i < length word
    → digits_value 10 (take (i + 1) word) ≡ digits_value 10 (take i word) * 10 + (get_or word i 0 - 48)
value_more word i is lt =
    let range = digit_range (get_or word i 0) is in
    let value : digit_value (get_or word i 0) ≡ get_or word i 0 - 48 = grind arith in
    digits_value_more 10 word i lt ∙ ap (λ (n : ℕ). digits_value 10 (take i word) * 10 + n) value

-- what the first digits write is not above what all do
pub value_within : (word : List ℕ) (i : ℕ) → digits_value 10 (take i word) ≤ digits_value 10 word
value_within word i = digits_value-take-le 10 word i (omega arith)

-- a digit behind digits
pub digits_more : (word : List ℕ) (i : ℕ) → list_all is_ascii_digit (take i word) ≡ true → is_ascii_digit (get_or word i 0) ≡ true → i < length word
    → list_all is_ascii_digit (take (i + 1) word) ≡ true
digits_more word i all is lt = list_all_more is_ascii_digit word i 0 lt ∙ ap (λ (b : Bool). b && is_ascii_digit (get_or word i 0)) all ∙ is

-- a word with another byte is no number
pub not_digits : (word : List ℕ) (i : ℕ) → is_ascii_digit (get_or word i 0) ≡ false → i < length word → list_all is_ascii_digit word ≡ false
not_digits word i not lt = list_all_at is_ascii_digit word i 0 lt not

-- a word that is too great a number, or none, is not one of at most so much
pub none_within : (most : ℕ) (word : List ℕ) → most < 2 ^ 64 → (list_all is_ascii_digit word ≡ true → 2 ^ 64 ≤ digits_value 10 word) → number_up_to most word ≡ None
unfolding number_up_to
none_within most word low great = by_cases (is_empty word) (list_all is_ascii_digit word) (digits_value 10 word) great
  where
    by_cases : (empty all : Bool) (value : ℕ) → (all ≡ true → 2 ^ 64 ≤ value) → (if not empty && all && nat_le value most then Some value else None) ≡ None
    by_cases true all value h = refl
    by_cases false false value h = refl
    by_cases false true value h =
        let high : 2 ^ 64 ≤ value = h refl in
        grind (arith, nat_tests)

-- one that is neither empty nor too great is the number that its digits write
pub some_within : (most : ℕ) (word : List ℕ) → is_empty word ≡ false → list_all is_ascii_digit word ≡ true → digits_value 10 word ≤ most → number_up_to most word ≡ Some (digits_value 10 word)
unfolding number_up_to
some_within most word full all within = let le : nat_le (digits_value 10 word) most ≡ true = grind (arith, nat_tests) in rw (full, all, le) refl

pub none_above : (most : ℕ) (word : List ℕ) → most < digits_value 10 word → number_up_to most word ≡ None
unfolding number_up_to
none_above most word above = let not : nat_le (digits_value 10 word) most ≡ false = grind (arith, nat_tests) in by_cases (is_empty word) (list_all is_ascii_digit word) (nat_le (digits_value 10 word) most) not
  where
    by_cases : (empty all within : Bool) → within ≡ false → (if not empty && all && within then Some (digits_value 10 word) else None) ≡ None
    by_cases true all within h = refl
    by_cases false false within h = refl
    by_cases false true within h = rw h refl

pub none_of_none : (most : ℕ) → number_up_to most [] ≡ None
unfolding number_up_to
none_of_none most = refl

-- ---- the number of a text's first word

abbrev is_space : ℕ → Bool
is_space b = b == 32

pub no_space : (b : ℕ) → (b ≡ 32 → ⊥) → is_space b ≡ false
no_space b not = false_from_ne_true (is_space b) (λ is. not ((Decides-eqb b 32).0 is))

-- the digits that were read are all of the word, which ends here
pub word_read : (text : List ℕ) (end number : ℕ) → position_or_len is_space text ≡ end → list_all is_ascii_digit (take end (first_word text)) ≡ true
    → number ≡ digits_value 10 (take end (first_word text)) → (list_all is_ascii_digit (first_word text) ≡ true) × (number ≡ digits_value 10 (first_word text)) × (drop end text ≡ after_word text)
word_read text end number at all value =
    let whole : take end (first_word text) ≡ first_word text = take_all end (first_word text) (omega (arith, first_length text, at)) in
    (ap (list_all is_ascii_digit) (sym whole) ∙ all, value ∙ ap (digits_value 10) whole, ap (λ (n : ℕ). drop n text) (sym at))

-- ---- arguments

-- a text that begins as an argument of this type gives it
pub i32_argument : (text : List ℕ) → bytes_eq (take 4 text) (codes "i32:") ≡ true
    → (argument_of (first_word text) ≡ option_map I32 (integer_of 32 (first_word (drop 4 text)))) × (after_word text ≡ after_word (drop 4 text))
unfolding argument_of
i32_argument text is =
    let whole : text ≡ codes "i32:" ++ drop 4 text = begins_as text (codes "i32:") is in
    (ap argument_of (ap first_word whole ∙ first-behind (codes "i32:") (drop 4 text) refl), ap after_word whole ∙ after-behind (codes "i32:") (drop 4 text) refl)

pub i64_argument : (text : List ℕ) → bytes_eq (take 4 text) (codes "i64:") ≡ true
    → (argument_of (first_word text) ≡ option_map I64 (integer_of 64 (first_word (drop 4 text)))) × (after_word text ≡ after_word (drop 4 text))
unfolding argument_of
i64_argument text is =
    let whole : text ≡ codes "i64:" ++ drop 4 text = begins_as text (codes "i64:") is in
    (ap argument_of (ap first_word whole ∙ first-behind (codes "i64:") (drop 4 text) refl), ap after_word whole ∙ after-behind (codes "i64:") (drop 4 text) refl)

-- one that begins as none gives none
pub no_argument : (text : List ℕ) → bytes_eq (take 4 text) (codes "i32:") ≡ false → bytes_eq (take 4 text) (codes "i64:") ≡ false → argument_of (first_word text) ≡ None
unfolding argument_of
no_argument text not_32 not_64 = rw (first_begins text (codes "i32:") not_32, first_begins text (codes "i64:") not_64) refl
