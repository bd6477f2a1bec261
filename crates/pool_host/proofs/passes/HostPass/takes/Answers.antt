use Rattle.std.proofs.Common.{ap}
use Rattle.std.specs.Prelude.{is_some}
use Rattle.pool_core.specs.declared.seats.Seat.{Seat}
use Rattle.memory_counts.proofs.CountLemmas.{counted_takes}
use Rattle.pool_host.proofs.passes.HostPass.takes.Goals as goal

pub returns : goal.returns
returns g c =
    let pass = c.args.self.now in
    let passes = pass.passes in
    rw c.counts.ensures (counted_takes g.N.Naming.config.batch passes.memory passes.tally (ap (λ (s : Seat). is_some s.holds) pass.rests_memory.0) pass.counted)
