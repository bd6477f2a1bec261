use Rattle.slot_words.specs.CoreLaws.{CoresAreLawful}
use Rattle.slot_words.proofs.cores.core_laws.Goals as goal

pub returns : goal.returns
unfolding CoresAreLawful
returns c = record {
  opening = c.the_opening_is_lawful.ensures.lawful;
  opens_cold = c.the_opening_is_lawful.ensures.cold;
  opens_unmade = c.the_opening_is_lawful.ensures.unmade;
  events = c.each_event_keeps_a_core_lawful.ensures;
  live = c.seats_live_until_joined_or_closed.ensures;
  one_seat = c.held_words_have_one_seat.ensures.one;
  seats = c.held_words_have_one_seat.ensures.held;
  held = c.held_words_have_one_seat.ensures.seat;
  outside = c.values_out_change_nothing_else.ensures;
  one_word = c.words_are_read_back.ensures.one;
  bit_says = c.the_lowest_bit_says_held.ensures.says;
  bit_sets = c.the_lowest_bit_says_held.ensures.sets;
}
