use Rattle.std.proofs.Common.{◌∙◌, sym, rules}
use Rattle.std.proofs.lemmas.List.{take_rest}
use Rattle.request_words.proofs.WordLemmas.{lines-first, lines-last}
use Rattle.request_words.proofs.words.next_line.Goals as goal

pub returns-in-Some-clause-lines : goal.returns-in-Some-clause-lines
returns-in-Some-clause-lines c =
    let first = lines-first c.args.text.now c.in-Some.end (sym c.first_place.ensures.place ∙ c.in-Some.is) in
    search (rules, first, take_rest)

pub returns-in-None-clause-lines : goal.returns-in-None-clause-lines
returns-in-None-clause-lines c = lines-last c.args.text.now (sym c.first_place.ensures.place ∙ c.in-None.is)
