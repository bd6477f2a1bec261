use Rattle.std.proofs.Common.{arith, sym}
use Rattle.request_words.proofs.NumberLemmas.{none_within}
use Rattle.request_words.proofs.numbers.number_up_to.Goals as goal

pub returns-in_err-number-clause-value : goal.returns-in_err-number-clause-value
returns-in_err-number-clause-value c = rw c.from_residual.ensures (sym (none_within c.args.most c.args.word.now (omega arith) c.in_err-number.ensures))
