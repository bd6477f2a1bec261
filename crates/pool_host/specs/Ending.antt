-- What a slice of a call came to, with what it left in its slots.
use Rattle.instance_calls.specs.declared.paused_instance.Resumed.{Resumed}
use Rattle.instance_calls.specs.declared.paused_instance.Resumed.TheVariants as resumed
use Rattle.instance_calls.specs.Instances.{left_by}
use Rattle.pool_host.specs.declared.ended_call.Sliced.{Sliced}
use Rattle.pool_host.specs.declared.ended_call.Sliced.TheVariants.{Again, Done}

abbrev pub resumed_of : {N : Type 0} → Sliced N → Resumed N
resumed_of (Again running) = resumed.Again running
resumed_of (Done end ended answer) = resumed.Done end (left_by ended.instance) answer
