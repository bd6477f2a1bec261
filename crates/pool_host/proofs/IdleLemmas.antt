-- A pass that its type keeps idle.
use Rattle.std.proofs.Common.{length, ap}
use Rattle.std.proofs.lemmas.List.{nil_from_length}
use Rattle.slot_words.specs.Passes.{IsIdle, Pass}
use Rattle.pool_host.specs.Idle.{Rests}

pub rests_idle : {V : Type 0} (p : Pass V) → Rests p → IsIdle p
rests_idle p rests = (rests.0, nil_from_length p.me.1 rests.1)

pub idle_rests : {V : Type 0} (p : Pass V) → IsIdle p → Rests p
idle_rests p idle = (idle.0, ap length idle.1)
