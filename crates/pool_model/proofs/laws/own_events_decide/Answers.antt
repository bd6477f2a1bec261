use Rattle.pool_model.proofs.Tenants.{own-events-decide}
use Rattle.pool_model.proofs.laws.own_events_decide.Goals as goal

pub returns : goal.returns
returns c = own-events-decide
