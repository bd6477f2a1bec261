use Rattle.std.proofs.Common.{sym, ◌∙◌, rules}
use Rattle.std.proofs.lemmas.List.{take_rest}
use Rattle.request_words.proofs.WordLemmas.{word-ends, word-is_all, words-after_all, words-after_space}
use Rattle.request_words.proofs.words.split_word.Goals as goal

pub returns-in-Some-clause-word : goal.returns-in-Some-clause-word
returns-in-Some-clause-word c =
    let word = word-ends c.args.text.now c.in-Some.end (sym c.first_space.ensures.place ∙ c.in-Some.is) in
    search (rules, word)

pub returns-in-Some-clause-rest : goal.returns-in-Some-clause-rest
returns-in-Some-clause-rest c =
    let rest = words-after_space c.args.text.now c.in-Some.end (sym c.first_space.ensures.place ∙ c.in-Some.is) in
    search (rules, rest, take_rest)

pub returns-in-None-clause-word : goal.returns-in-None-clause-word
returns-in-None-clause-word c =
    let word = word-is_all c.args.text.now (sym c.first_space.ensures.place ∙ c.in-None.is) in
    search (rules, word)

pub returns-in-None-clause-rest : goal.returns-in-None-clause-rest
returns-in-None-clause-rest c =
    let rest = words-after_all c.args.text.now (sym c.first_space.ensures.place ∙ c.in-None.is) in
    search (rules, rest, take_rest)
