use Rattle.std.proofs.Common.{ap}
use Rattle.instance_calls.specs.PausedViews.{PausedView, contents_in}
use Rattle.instance_calls.proofs.paused_instance.PausedInstance.give_up.Goals as goal

pub returns-clause-contents : goal.returns-clause-contents
returns-clause-contents g c = λ k. ap (λ (v : PausedView). contents_in v k) c.self.view_is
