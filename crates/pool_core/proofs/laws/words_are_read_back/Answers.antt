use Rattle.pool_core.proofs.WordBits.{bits_say_one_word, bits_say_the_word}
use Rattle.pool_core.proofs.laws.words_are_read_back.Goals as goal

pub returns-clause-one : goal.returns-clause-one
returns-clause-one c = bits_say_one_word

pub returns-clause-read : goal.returns-clause-read
returns-clause-read c = bits_say_the_word
