use Rattle.std.proofs.Common.{◌∙◌, refl}
use Rattle.instance_calls.specs.Instances.{left_by}
use Rattle.pool_host.proofs.IdleLemmas.{idle_rests}
use Rattle.pool_host.proofs.PausedLemmas.{slots_had, still_of, those_given}
use Rattle.pool_host.proofs.paused.Paused.cancel.Goals as goal

pub give-requires-clause-have : goal.give-requires-clause-have
give-requires-clause-have g c =
    let self = c.args.self in
    let end = c.give_up-ended in
    (self.running.named, slots_had c.args.host.now self.passes self.passes self.running (left_by end.result.0.instance) end.ensures.slots c.requires.own.pools self.has_ticket self.has_memory self.has_table end.ensures.belongs)

pub returns : goal.returns
returns g c =
    let self = c.args.self in
    let host = c.args.host.now in
    let end = c.give_up-ended in
    let had = slots_had host self.passes self.passes self.running (left_by end.result.0.instance) end.ensures.slots c.requires.own.pools self.has_ticket self.has_memory self.has_table end.ensures.belongs in
    record {
      back = record {
        own = record { pools = still_of host self.passes c.give.new.passes c.requires.own.pools.own c.give.ensures.same; tags = c.requires.own.tags };
        same = c.give.ensures.same;
        tags_are = refl;
        gave = those_given host self.passes c.give.new.passes self.running (left_by end.result.0.instance) end.ensures.slots g.N.Naming.config (c.give.ensures.gave self.running.named had);
      };
      no_answer = end.ensures.answer;
      left_is = end.ensures.left;
    }

pub invariant_of-result : goal.invariant_of-result
invariant_of-result g c =
    let self = c.args.self in
    let after = c.give.new.passes in
    let given = c.give.ensures in record {
      rests_ticket = idle_rests after.ticket given.idle.ticket;
      rests_memory = idle_rests after.memory given.idle.memory;
      rests_table = idle_rests after.table given.idle.table;
      one_ticket = given.same.ticket.share_is ∙ self.one_ticket;
      one_memory = given.same.memory.share_is ∙ self.one_memory;
      one_table = given.same.table.share_is ∙ self.one_table;
      one_retired = self.one_retired;
      counted = given.counted self.counted;
    }
