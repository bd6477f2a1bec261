use Rattle.pool_core.proofs.WordBits.{packed-held_word, packed-mod_2}
use Rattle.pool_core.proofs.laws.the_lowest_bit_says_held.Goals as goal

pub returns-clause-says : goal.returns-clause-says
returns-clause-says c = packed-mod_2

pub returns-clause-sets : goal.returns-clause-sets
returns-clause-sets c = packed-held_word
