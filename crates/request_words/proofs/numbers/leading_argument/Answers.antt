use Rattle.std.proofs.Common.{◌∙◌, List, ℕ, ap, sym}
use Rattle.std.specs.Option.{option_map}
use Rattle.wasm_values.specs.declared.outcome.Val.TheVariants.{I32, I64}
use Rattle.request_words.specs.FirstWords.{after_word, first_word}
use Rattle.request_words.specs.Words.{integer_of}
use Rattle.request_words.proofs.NumberLemmas.{i32_argument, i64_argument, no_argument}
use Rattle.request_words.proofs.numbers.leading_argument.Goals as goal

pub returns-in-Some : goal.returns-in-Some
returns-in-Some c =
    let is = i32_argument c.args.text.now c.in-Some.ensures.cases.0 in
    let rest = c.in-Some.ensures.cases.1 in
    (is.0 ∙ ap (λ (t : List ℕ). option_map I32 (integer_of 32 (first_word t))) (sym rest) ∙ ap (option_map I32) c.in_ok-number.ensures.0, c.in_ok-number.ensures.1 ∙ ap after_word rest ∙ sym is.1)

pub returns-in_err-number-2 : goal.returns-in_err-number-2
returns-in_err-number-2 c = rw c.from_residual-in_err-number-2.ensures (no_argument c.args.text.now c.in_default.ensures.cases c.in_err-number-2.ensures.cases)

pub returns : goal.returns
returns c =
    let is = i64_argument c.args.text.now c.in_ok-number-2.ensures.cases.0 in
    let rest = c.in_ok-number-2.ensures.cases.1 in
    (is.0 ∙ ap (λ (t : List ℕ). option_map I64 (integer_of 64 (first_word t))) (sym rest) ∙ ap (option_map I64) c.in_ok-number-3.ensures.0, c.in_ok-number-3.ensures.1 ∙ ap after_word rest ∙ sym is.1)
