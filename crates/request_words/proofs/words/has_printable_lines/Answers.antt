use Rattle.std.proofs.Common.{rules}
use Rattle.std.proofs.lemmas.List.{take_all}
use Rattle.request_words.proofs.WordLemmas.{plain-lines}
use Rattle.request_words.proofs.words.has_printable_lines.Goals as goal

pub returns : goal.returns
returns c = λ all. plain-lines c.args.text.now (search (rules, take_all))
