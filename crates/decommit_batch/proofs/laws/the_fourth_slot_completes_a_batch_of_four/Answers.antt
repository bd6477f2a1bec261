use Rattle.decommit_batch.proofs.HandingIn.{third_waits, fourth_flushes, fifth_flushes}
use Rattle.decommit_batch.proofs.laws.the_fourth_slot_completes_a_batch_of_four.Goals as goal

pub returns-clause-third : goal.returns-clause-third
returns-clause-third c = third_waits

pub returns-clause-fourth : goal.returns-clause-fourth
returns-clause-fourth c = fourth_flushes

pub returns-clause-fifth : goal.returns-clause-fifth
returns-clause-fifth c = fifth_flushes
