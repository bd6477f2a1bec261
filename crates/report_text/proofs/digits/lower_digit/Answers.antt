use Rattle.std.proofs.Common.{arith}
use Rattle.report_text.proofs.DigitLemmas.{digit_is}
use Rattle.report_text.proofs.digits.lower_digit.Goals as goal

pub returns-then-value-lt10 : goal.returns-then-value-lt10
returns-then-value-lt10 c = grind (arith, digit_is c.args.value c.requires)

pub returns-else-value-lt10 : goal.returns-else-value-lt10
returns-else-value-lt10 c = grind (arith, digit_is c.args.value c.requires)
