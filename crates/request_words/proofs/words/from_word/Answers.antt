use Rattle.std.proofs.Common.{rules}
use Rattle.request_words.proofs.WordLemmas.{words-none, words-first}
use Rattle.std.proofs.lemmas.List.{take_rest}
use Rattle.request_words.proofs.words.from_word.Goals as goal

pub returns-in_err-start : goal.returns-in_err-start
returns-in_err-start c = search (rules, words-none)

pub returns : goal.returns
returns c = search (rules, words-first, take_rest)
