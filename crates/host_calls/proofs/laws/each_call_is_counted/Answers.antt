use Rattle.pool_host.proofs.CountingLemmas.{calls_are_counted}
use Rattle.host_calls.proofs.laws.each_call_is_counted.Goals as goal

pub returns : goal.returns
returns g c = calls_are_counted _
