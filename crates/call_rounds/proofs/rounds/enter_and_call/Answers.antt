use Rattle.call_rounds.proofs.RunLemmas.{crew_still_knows}
use Rattle.call_rounds.proofs.rounds.enter_and_call.Goals as goal

pub returns-in-Some-clause-known : goal.returns-in-Some-clause-known
returns-in-Some-clause-known g c = crew_still_knows c.by_crew.result _ c.in-Some.crew c.by_crew.new.crew c.in-Some.is c.by_crew.ensures.still
