use Rattle.slot_words.proofs.CoreLaws.{laws_of}
use Rattle.slot_words.proofs.RuleLaws.{alone_with_all, clock_counts_stamps, free_values_fit, held_by_another, no_hidden_seat, one_holder, within_limit}
use Rattle.slot_words.proofs.laws.passes_share_the_words.Goals as goal

pub returns : goal.returns
returns g c = let laws = laws_of c.core_laws.ensures in let fits = g.V.Pooled.fits in record {
  one_holder = one_holder laws fits;
  held_by_another = held_by_another laws fits;
  no_hidden_seat = no_hidden_seat laws fits;
  alone_with_all = alone_with_all laws fits;
  within_limit = within_limit laws fits;
  free_values_fit = free_values_fit laws fits;
  clock = clock_counts_stamps laws fits;
}
