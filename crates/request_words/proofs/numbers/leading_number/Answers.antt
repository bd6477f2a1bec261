use Rattle.std.proofs.Common.{◌≡◌, ◌∙◌, ◌==◌, ◌+◌, ◌<◌, ℕ, List, false, true, length, get_or, ap, sym, arith}
use Rattle.std.specs.Char.{is_ascii_digit}
use Rattle.std.specs.List.{list_all}
use Rattle.std.proofs.lemmas.List.{take_rest}
use Rattle.request_words.specs.FirstWords.{first_word}
use Rattle.request_words.proofs.NumberLemmas.{digits_more, no_space, not_digits, value_more, value_within, word_read}
use Rattle.request_words.proofs.WordLemmas.{first_at, first_ends, first_goes_on, first_length}
use Rattle.request_words.proofs.numbers.leading_number.Goals as goal

pub returns-then-byte-eq32 : goal.returns-then-byte-eq32
returns-then-byte-eq32 c =
    let text = c.args.text.now in
    let ends = first_ends text c.loop-end.end c.loop-end.invariant.within (omega arith) (λ lt. ap (λ (b : ℕ). b == 32) c.if-byte-eq32.true) in
    let read = word_read text c.loop-end.end c.loop-end.number ends c.loop-end.invariant.digits c.loop-end.invariant.value in
    (read.0, read.1, take_rest text c.loop-end.end ∙ read.2)

pub returns-then-not-is_ascii_digit : goal.returns-then-not-is_ascii_digit
returns-then-not-is_ascii_digit c all =
    let text = c.args.text.now in
    let i = c.loop-end.end in
    let lt = first_goes_on text i c.loop-end.invariant.within c.loop-end-test.true (no_space (get_or text i 0) c.if-byte-eq32.false) in
    let other : is_ascii_digit (get_or (first_word text) i 0) ≡ false = ap is_ascii_digit (first_at text i lt) ∙ sym c.is_ascii_digit.ensures.value ∙ c.if-not-is_ascii_digit.true in
    let none : list_all is_ascii_digit (first_word text) ≡ false = not_digits (first_word text) i other (omega (arith, lt, first_length text)) in
    absurd (cc)

pub returns-in_err-number : goal.returns-in_err-number
returns-in_err-number c =
    let text = c.args.text.now in
    let i = c.loop-end.end in
    let lt = first_goes_on text i c.loop-end.invariant.within c.loop-end-test.true (no_space (get_or text i 0) c.if-byte-eq32.false) in
    let at = first_at text i lt in
    let digit : is_ascii_digit (get_or (first_word text) i 0) ≡ true = ap is_ascii_digit at ∙ sym c.is_ascii_digit.ensures.value ∙ c.if-not-is_ascii_digit.false in
    let more = value_more (first_word text) i digit (omega (arith, lt, first_length text)) in
    let within = value_within (first_word text) (i + 1) in
    rw c.from_residual.ensures (λ all. omega (arith, at, more, within, c.loop-end.invariant.value, c.in_err-number.ensures))

pub loop-end-preserved : goal.loop-end-preserved
loop-end-preserved c =
    let text = c.args.text.now in
    let i = c.loop-end.end in
    let lt = first_goes_on text i c.loop-end.invariant.within c.loop-end-test.true (no_space (get_or text i 0) c.if-byte-eq32.false) in
    let inside : i < length (first_word text) = omega (arith, lt, first_length text) in
    let at = first_at text i lt in
    let digit : is_ascii_digit (get_or (first_word text) i 0) ≡ true = ap is_ascii_digit at ∙ sym c.is_ascii_digit.ensures.value ∙ c.if-not-is_ascii_digit.false in
    let more = value_more (first_word text) i digit inside in
    record {
      within = omega (arith, lt);
      digits = digits_more (first_word text) i c.loop-end.invariant.digits digit inside;
      value = omega (arith, at, more, c.in_ok-number.ensures, c.loop-end.invariant.value);
    }
