use Rattle.memory_blocks.proofs.KeepingLemmas.{unmarked_more}
use Rattle.memory_blocks.proofs.laws.unmarked_blocks_stay_over_two_runs.Goals as goal

pub returns : goal.returns
returns c = unmarked_more
