use Rattle.std.proofs.Common.{◌∙◌, ◌<◌, ◌≤◌, List, ℕ, Some, inl, inr, length, ap, sym, subst, arith}
use Rattle.request_words.specs.FirstWords.{first_word}
use Rattle.request_words.specs.Words.{number_up_to}
use Rattle.request_words.proofs.NumberLemmas.{none_above, none_of_none, none_within, some_within}
use Rattle.request_words.proofs.WordLemmas.{first_full, first_none}
use Rattle.request_words.proofs.numbers.leading_number_up_to.Goals as goal

pub returns-in_err-number-clause-number : goal.returns-in_err-number-clause-number
returns-in_err-number-clause-number c = rw c.from_residual.ensures (none_within c.args.most (first_word c.args.text.now) (omega arith) c.in_err-number.ensures)

pub returns-then-number-most-clause-number : goal.returns-then-number-most-clause-number
returns-then-number-most-clause-number c =
    let text = c.args.text.now in
    let read = c.in_ok-number.ensures in
    let full = first_full text (subst (λ (rest : List ℕ). length rest < length text) read.2 c.if-rest-text.true) in
    (some_within c.args.most (first_word text) full read.0 (omega (arith, read.1, c.if-number-most.true)) ∙ ap Some (sym read.1), read.2)

pub returns-else-rest-text-clause-number : goal.returns-else-rest-text-clause-number
returns-else-rest-text-clause-number c =
    let text = c.args.text.now in
    let read = c.in_ok-number.ensures in
    elim c.else-rest-text.either [
      | inl h ↦ none_above c.args.most (first_word text) (omega (arith, read.1, h.1))
      | inr h ↦ ap (number_up_to c.args.most) (first_none text (subst (λ (rest : List ℕ). length text ≤ length rest) read.2 h)) ∙ none_of_none c.args.most
    ]
