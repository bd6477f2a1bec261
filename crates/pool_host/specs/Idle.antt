-- A pass that holds nothing, as a type can keep it.
use Rattle.std.specs.Prelude.{◌≡◌, length}
use Rattle.pool_core.specs.declared.seats.Stage.TheVariants.{Live}
use Rattle.pool_core.specs.PoolCore.{idle_seat}
use Rattle.slot_words.specs.Passes.{Pass}

-- its seat is idle, and it has no value out
abbrev pub Rests : {V : Type 0} → Pass V → Type 0
Rests p = (p.me.0.seat ≡ idle_seat Live) × (length p.me.1 ≡ 0)
