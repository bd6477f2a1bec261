use Rattle.std.proofs.Common.{◌∙◌, ap}
use Rattle.paused_call.specs.Fuel.{fuel_left}
use Rattle.instance_calls.specs.PausedViews.{PausedView}
use Rattle.instance_calls.proofs.paused_instance.PausedInstance.left.Goals as goal

pub returns : goal.returns
returns g c = c.left.ensures ∙ ap (λ (v : PausedView). fuel_left v.call) c.self.view_is
