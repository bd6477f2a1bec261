use Rattle.pool_core.proofs.Holders.{one_holder, holds_held_word, holder_of}
use Rattle.pool_core.proofs.laws.held_words_have_one_seat.Goals as goal

pub returns-clause-one : goal.returns-clause-one
returns-clause-one c = one_holder

pub returns-clause-held : goal.returns-clause-held
returns-clause-held c = holds_held_word

pub returns-clause-seat : goal.returns-clause-seat
returns-clause-seat c = holder_of
