use Rattle.std.proofs.Common.{◌∙◌, sym, subst}
use Rattle.decommit_batch.proofs.TellingLemmas.{Quiet}
use Rattle.slot_pools.proofs.ToldLemmas.{quiet_loads}
use Rattle.memory_counts.proofs.CountLemmas.{counted_quiet}
use Rattle.pool_host.proofs.host.Host.count.Goals as goal

pub returns-clause-idle : goal.returns-clause-idle
returns-clause-idle g c =
    let idle = c.requires.idle in
    let ticket = c.look-instance.ensures.keeps in
    let memory = c.look-memory.ensures.keeps in
    let table = c.look-table.ensures.keeps in record {
      ticket = (ticket.0 ∙ idle.ticket.0, ticket.1 ∙ idle.ticket.1);
      memory = (memory.0 ∙ idle.memory.0, memory.1 ∙ idle.memory.1);
      table = (table.0 ∙ idle.table.0, table.1 ∙ idle.table.1);
    }

pub returns-clause-counted : goal.returns-clause-counted
returns-clause-counted g c = λ was.
    let idle = c.requires.idle.memory in
    let look = c.look-memory in
    let keeps = look.ensures.keeps in
    let grew = look.ensures.counted in
    counted_quiet g.N.Naming.config.batch c.args.passes.now.memory look.new.pass c.args.passes.now.tally was idle (keeps.0 ∙ idle.0, keeps.1 ∙ idle.1)
    (record { done = grew.done; grown = grew.grown; is = subst Quiet (sym grew.is.done_is) (quiet_loads 0 grew.is.seen) })
