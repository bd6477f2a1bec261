use Rattle.pool_host.proofs.ClosingLemmas.{is_joined}
use Rattle.pool_host.proofs.IdleLemmas.{rests_idle}
use Rattle.pool_host.proofs.counts.join.Goals as goal

pub join_pass-requires-clause-other : goal.join_pass-requires-clause-other
join_pass-requires-clause-other g c = let other = c.args.other in (c.requires.other.pools.ticket, rests_idle other.passes.ticket other.rests_ticket)

pub join_pass-requires-2-clause-other : goal.join_pass-requires-2-clause-other
join_pass-requires-2-clause-other g c = let other = c.args.other in (c.requires.other.pools.memory, rests_idle other.passes.memory other.rests_memory)

pub join_pass-requires-3-clause-other : goal.join_pass-requires-3-clause-other
join_pass-requires-3-clause-other g c = let other = c.args.other in (c.requires.other.pools.table, rests_idle other.passes.table other.rests_table)

pub returns-clause-joined : goal.returns-clause-joined
returns-clause-joined g c =
    let joined = c.args.joined.now in
    let other = c.args.other in
    let ticket = c.join_pass in
    let memory = c.join_pass-2 in
    let table = c.join_pass-3 in record {
      ticket = is_joined joined.ticket other.passes.ticket ticket.new.pass other.one_ticket ticket.ensures.share ticket.ensures.number ticket.ensures.trail ticket.ensures.joined;
      memory = is_joined joined.memory other.passes.memory memory.new.pass other.one_memory memory.ensures.share memory.ensures.number memory.ensures.trail memory.ensures.joined;
      table = is_joined joined.table other.passes.table table.new.pass other.one_table table.ensures.share table.ensures.number table.ensures.trail table.ensures.joined;
    }
