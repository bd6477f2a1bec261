use Rattle.job_queue.proofs.NumberLemmas.{numbers_from_1}
use Rattle.job_queue.proofs.laws.numbers_from_1_are_at_most_the_count.Goals as goal

pub returns : goal.returns
returns c = numbers_from_1
