use Rattle.std.proofs.Common.{subst}
use Rattle.pool_limits.specs.declared.numbers.Numbers.{Numbers}
use Rattle.slot_words.specs.declared.words.Words.{Words}
use Rattle.slot_pools.specs.declared.policy.Policy.TheVariants.{Any}
use Rattle.slot_pools.specs.Takes.{Takes, MeetsFull}
use Rattle.slot_pools.proofs.ResultLemmas.{on_err}
use Rattle.instance_slots.specs.Tickets.{TicketView}
use Rattle.instance_slots.proofs.pool.TicketPool.take_for.Goals as goal

pub returns-in_err-lease-clause-full : goal.returns-in_err-lease-clause-full
returns-in_err-lease-clause-full g c =
    on_err c.from_residual.result (subst (λ (words : Words TicketView Numbers). MeetsFull words Any c.args.pass.now c.take.new.pass) c.self.view_is c.in_err-lease.ensures.full)

pub returns-clause-trail : goal.returns-clause-trail
returns-clause-trail g c =
    subst (λ (words : Words TicketView Numbers). Takes words Any c.args.pass.now c.take.new.pass c.in_ok-lease.lease) c.self.view_is c.in_ok-lease.ensures.trail
