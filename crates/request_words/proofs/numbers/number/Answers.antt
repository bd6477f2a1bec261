use Rattle.std.proofs.Common.{◌≡◌, ◌∙◌, ◌+◌, false, true, get_or, sym, arith}
use Rattle.std.specs.Char.{is_ascii_digit}
use Rattle.std.specs.List.{list_all}
use Rattle.request_words.proofs.NumberLemmas.{digit_range, digits_more, not_digits, value_more, value_within}
use Rattle.request_words.proofs.numbers.number.Goals as goal

pub with_digit-requires : goal.with_digit-requires
with_digit-requires c = digit_range (get_or c.args.word.now c.loop-byte.byte-index 0) (sym c.is_ascii_digit.ensures.value ∙ c.if-not-is_ascii_digit.false)

pub returns-then-not-is_ascii_digit : goal.returns-then-not-is_ascii_digit
returns-then-not-is_ascii_digit c all =
    let none : list_all is_ascii_digit c.args.word.now ≡ false = not_digits c.args.word.now c.loop-byte.byte-index (sym c.is_ascii_digit.ensures.value ∙ c.if-not-is_ascii_digit.true) (omega arith) in
    absurd (cc)

pub returns-in_err-number : goal.returns-in_err-number
returns-in_err-number c =
    let i = c.loop-byte.byte-index in
    let more = value_more c.args.word.now i (sym c.is_ascii_digit.ensures.value ∙ c.if-not-is_ascii_digit.false) (omega arith) in
    let within = value_within c.args.word.now (i + 1) in
    rw c.from_residual.ensures (λ all. omega (arith, more, within, c.loop-byte.invariant.value, c.in_err-number.ensures))

pub loop-byte-preserved : goal.loop-byte-preserved
loop-byte-preserved c =
    let i = c.loop-byte.byte-index in
    let digit : is_ascii_digit (get_or c.args.word.now i 0) ≡ true = sym c.is_ascii_digit.ensures.value ∙ c.if-not-is_ascii_digit.false in
    let more = value_more c.args.word.now i digit (omega arith) in
    record {
      digits = digits_more c.args.word.now i c.loop-byte.invariant.digits digit (omega arith);
      value = omega (arith, more, c.in_ok-number.ensures, c.loop-byte.invariant.value);
    }
