use Rattle.std.proofs.Common.{ap, ◌∙◌}
use Rattle.instance_calls.specs.Instances.{instance_contents}
use Rattle.pool_host.proofs.ended_call.EndedCall.give_up.Goals as goal

pub returns-clause-contents : goal.returns-clause-contents
returns-clause-contents g c = λ k. ap (λ instance. instance_contents instance k) c.of-instance.ensures ∙ c.give_up-instance.ensures.contents k
