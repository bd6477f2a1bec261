use Rattle.std.proofs.Common.{◌≡◌, ◌++◌, length}
use Rattle.std.specs.Option.{option_map}
use Rattle.request_words.specs.Words.{line_words, arguments_of}
use Rattle.request_text.proofs.directive.read_arguments.Given as goal

-- the words that are left give the arguments after those that were read
abbrev pub invariant-loop-text : goal.invariant-loop-text
invariant-loop-text l = arguments_of (line_words l.words) ≡ option_map (λ more. l.args ++ more) (arguments_of (line_words l.rest))

abbrev pub decreases-loop-text : goal.decreases-loop-text
decreases-loop-text l = length (line_words l.rest)
