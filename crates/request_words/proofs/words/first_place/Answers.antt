use Rattle.std.proofs.Common.{◌==◌}
use Rattle.request_words.proofs.WordLemmas.{first_is_position, first_within}
use Rattle.request_words.proofs.words.first_place.Goals as goal

pub returns-clause-place : goal.returns-clause-place
returns-clause-place c = first_is_position (λ b. b == c.args.byte) c.args.text.now c.memchr.result c.memchr.ensures

pub returns-clause-within : goal.returns-clause-within
returns-clause-within c = first_within (λ b. b == c.args.byte) c.args.text.now c.memchr.result c.memchr.ensures
