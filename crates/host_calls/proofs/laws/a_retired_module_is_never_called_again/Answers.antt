use Rattle.pool_host.proofs.RetirementLemmas.{never_begun_again, never_called_again}
use Rattle.host_calls.proofs.laws.a_retired_module_is_never_called_again.Goals as goal

pub returns-clause-calls : goal.returns-clause-calls
returns-clause-calls g c = never_called_again

pub returns-clause-begun : goal.returns-clause-begun
returns-clause-begun g c = never_begun_again g.N.Naming
